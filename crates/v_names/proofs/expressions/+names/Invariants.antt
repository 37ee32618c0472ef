use Rattle.std.proofs.Common.{◌≡◌, ◌++◌, map, drop}
use Rattle.v_meaning.specs.Values.{meaning, sel_meaning, sel_names, all_names}
use Rattle.v_eval.specs.Scopes.{scope_of}
use Rattle.v_names.proofs.expressions.+names.Given as goal

abbrev pub invariant-sels_names-loop-sel : goal.invariant-sels_names-loop-sel
invariant-sels_names-loop-sel l =
    l.to ++ sel_names (map sel_meaning (drop l.sel-index l.sels)) (scope_of l.scope) ≡ l.fn.to ++ sel_names (map sel_meaning l.fn.sels) (scope_of l.fn.scope)

abbrev pub invariant-all_names-loop-item : goal.invariant-all_names-loop-item
invariant-all_names-loop-item l =
    l.to ++ all_names (map meaning (drop l.item-index l.items)) (scope_of l.scope) ≡ l.fn.to ++ all_names (map meaning l.fn.items) (scope_of l.fn.scope)
