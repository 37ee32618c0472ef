use Rattle.std.proofs.Common.{◌≡◌, drop, map}
use Rattle.v_scopes.specs.Env.{found}
use Rattle.v_functions.specs.Numbered.{numbers_in}
use Rattle.v_functions.specs.Walks.{listed_walked, target_walked}
use Rattle.v_functions.proofs.expressions.+target.Given as goal

abbrev pub invariant-parts_walked-loop-i : goal.invariant-parts_walked-loop-i
invariant-parts_walked-loop-i l =
    listed_walked l.i (map target_walked (drop l.i l.parts)) (numbers_in l.functions) (found l.scope) l.walk
    ≡ listed_walked 0 (map target_walked l.fn.parts) (numbers_in l.fn.functions) (found l.fn.scope) l.fn.walk
