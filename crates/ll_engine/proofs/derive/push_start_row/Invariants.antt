use Rattle.std.proofs.Common.{◌≡◌, ◌++◌, drop}
use Rattle.ll_engine.specs.Rules.{start_row}
use Rattle.ll_engine.proofs.derive.push_start_row.Given as goal

abbrev pub invariant-loop-part : goal.invariant-loop-part
invariant-loop-part l =
    l.rules ++ start_row l.blank l.target l.to (drop l.part-index l.parts) ≡ l.initial.rules ++ start_row l.blank l.target l.to l.parts
