use Rattle.std.proofs.Common.{◌≡◌, drop}
use Rattle.ll_engine.specs.Marks.{all_marked}
use Rattle.ll_engine.proofs.rules.all_marked.Given as goal

abbrev pub invariant-loop-head : goal.invariant-loop-head
invariant-loop-head l = all_marked l.marks (drop l.head-index l.heads) ≡ all_marked l.marks l.heads
