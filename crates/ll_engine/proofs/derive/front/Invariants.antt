use Rattle.std.proofs.Common.{◌≡◌, drop}
use Rattle.ll_engine.specs.Rules.{front}
use Rattle.ll_engine.proofs.derive.front.Given as goal

abbrev pub invariant-loop-part : goal.invariant-loop-part
invariant-loop-part l = front l.blank (drop l.part-index l.parts) ≡ front l.blank l.parts
