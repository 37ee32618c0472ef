use Rattle.std.proofs.Common.{◌≡◌, drop, map}
use Rattle.v_scopes.specs.Env.{found}
use Rattle.v_functions.specs.Numbered.{numbers_in}
use Rattle.v_functions.specs.Walks.{each_walked, listed_walked, expr_walked, sel_walked}
use Rattle.v_functions.proofs.expressions.+expression.Given as goal

abbrev pub invariant-sels_walked-loop-sel : goal.invariant-sels_walked-loop-sel
invariant-sels_walked-loop-sel l =
    each_walked (map sel_walked (drop l.sel-index l.sels)) (numbers_in l.functions) (found l.scope) l.walk
    ≡ each_walked (map sel_walked l.fn.sels) (numbers_in l.fn.functions) (found l.fn.scope) l.fn.walk

abbrev pub invariant-list_walked-loop-i : goal.invariant-list_walked-loop-i
invariant-list_walked-loop-i l =
    listed_walked l.i (map expr_walked (drop l.i l.exprs)) (numbers_in l.functions) (found l.scope) l.walk
    ≡ listed_walked 0 (map expr_walked l.fn.exprs) (numbers_in l.fn.functions) (found l.fn.scope) l.fn.walk
