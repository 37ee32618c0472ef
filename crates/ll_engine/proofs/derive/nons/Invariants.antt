use Rattle.std.proofs.Common.{◌≡◌, ◌++◌, drop}
use Rattle.ll_engine.specs.Rules.{nons}
use Rattle.ll_engine.proofs.derive.nons.Given as goal

abbrev pub invariant-loop-part : goal.invariant-loop-part
invariant-loop-part l = l.heads ++ nons (drop l.part-index l.parts) ≡ nons l.parts
