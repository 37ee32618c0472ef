use Rattle.std.proofs.Common.{◌≡◌, drop}
use Rattle.ll_engine.specs.Rules.{has_symbol}
use Rattle.ll_engine.proofs.derive.has_symbol.Given as goal

abbrev pub invariant-loop-part : goal.invariant-loop-part
invariant-loop-part l = has_symbol (drop l.part-index l.parts) ≡ has_symbol l.parts
