use Rattle.std.proofs.Common.{◌≡◌, ◌≤◌, ◌+◌, length, drop}
use Rattle.v_meaning.specs.Modules.{functions}
use Rattle.v_modules.proofs.places.function_count.Given as goal

abbrev pub invariant-loop-item : goal.invariant-loop-item
invariant-loop-item l = (l.count + length (functions (drop l.item-index l.items)) ≡ length (functions l.fn.items)) × (l.count ≤ l.item-index)
