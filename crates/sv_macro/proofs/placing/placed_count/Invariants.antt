use Rattle.std.proofs.Common.{◌≡◌, ◌+◌, ◌≤◌, drop}
use Rattle.sv_macro.specs.Macros.{placed_count}
use Rattle.sv_macro.proofs.placing.placed_count.Given as goal

abbrev pub invariant-loop-part : goal.invariant-loop-part
invariant-loop-part l = (l.count + placed_count l.arguments (drop l.part-index l.parts) ≡ placed_count l.arguments l.parts) × (l.count ≤ l.limit)
