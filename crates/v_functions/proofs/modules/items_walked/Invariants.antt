use Rattle.std.proofs.Common.{◌≡◌, drop}
use Rattle.v_scopes.specs.Env.{found}
use Rattle.v_functions.specs.Numbered.{numbers_in}
use Rattle.v_functions.specs.Modules.{items_walked}
use Rattle.v_functions.proofs.modules.items_walked.Given as goal

abbrev pub invariant-loop-number : goal.invariant-loop-number
invariant-loop-number l =
    (items_walked l.number (drop l.number l.items) (numbers_in l.functions) (found l.scope) l.walk
    ≡ items_walked 0 l.fn.items (numbers_in l.fn.functions) (found l.fn.scope) l.fn.walk)
    × (found l.scope ≡ found l.fn.scope)
