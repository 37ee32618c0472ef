use Rattle.std.proofs.Common.{◌≡◌, drop}
use Rattle.sv_macro.specs.Macros.{with_parts}
use Rattle.sv_macro.proofs.placing.placed.Given as goal

abbrev pub invariant-loop-part : goal.invariant-loop-part
invariant-loop-part l = with_parts l.at l.arguments (drop l.part-index l.parts) l.placing ≡ with_parts l.at l.arguments l.parts l.initial.placing
