use Rattle.std.proofs.Common.{◌≡◌, map, drop}
use Rattle.v_meaning.specs.Values.{meaning, all_constant}
use Rattle.v_eval.specs.Scopes.{scope_of}
use Rattle.v_constants.proofs.constants.+constants.Given as goal

abbrev pub invariant-are_constant-loop-item : goal.invariant-are_constant-loop-item
invariant-are_constant-loop-item l =
    all_constant (map meaning (drop l.item-index l.items)) (scope_of l.scope) ≡ all_constant (map meaning l.fn.items) (scope_of l.fn.scope)
