use Rattle.std.proofs.Common.{◌≡◌, ◌≤◌, drop}
use Rattle.ll_engine.specs.Facts.{widest}
use Rattle.ll_engine.proofs.facts.widest.Given as goal

abbrev pub invariant-loop-part : goal.invariant-loop-part
invariant-loop-part l = record { same : widest (drop l.part-index l.parts) l.width ≡ widest l.parts l.fn.start; small : l.width ≤ 65536 }
