use Rattle.std.proofs.Common.{◌≡◌, drop}
use Rattle.ll_engine.specs.Facts.{begun}
use Rattle.ll_engine.proofs.checks.begun.Given as goal

abbrev pub invariant-loop-part : goal.invariant-loop-part
invariant-loop-part l = begun l.blank l.begins l.symbol (drop l.part-index l.parts) ≡ begun l.blank l.begins l.symbol l.parts
