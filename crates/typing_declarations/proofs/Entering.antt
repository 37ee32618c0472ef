-- Scopes in which the variable of a loop stands.
use Rattle.std.proofs.Common.{◌≡◌, [], ◌∷◌, subst, sym}
use Rattle.std.specs.Prelude.{Result, Ok, Err}
use Rattle.expr_type.specs.declared.halt.Halt.{Halt}
use Rattle.expr_type.specs.Names.{Context, with_locals}
use Rattle.expr_type.specs.Statements.{in_loop}
use Rattle.frame_things.specs.Finding.{local_id}
use Rattle.typing_calls.specs.Lists.{as_meant}
use Rattle.typing_sides.specs.Sides.{known_of}
use Rattle.typing_declarations.specs.declared.turns.LoopVariable.{LoopVariable}
use Rattle.typing_declarations.specs.Loops.{variable_of}

-- where the variable is whole, and where it isn't
pub entered-whole : (k j : Context) (r : Result LoopVariable Halt) (v : LoopVariable) → r ≡ Ok v → j ≡ with_locals (local_id v.local ∷ []) k → j ≡ in_loop k (known_of (as_meant variable_of r))
entered-whole k j r v is e = subst (λ (q : Result LoopVariable Halt). j ≡ in_loop k (known_of (as_meant variable_of q))) (sym is) e

pub entered-quiet : (k j : Context) (r : Result LoopVariable Halt) (h : Halt) → r ≡ Err h → j ≡ k → j ≡ in_loop k (known_of (as_meant variable_of r))
entered-quiet k j r h is e = subst (λ (q : Result LoopVariable Halt). j ≡ in_loop k (known_of (as_meant variable_of q))) (sym is) e

pub ruleset enters = (entered-whole, entered-quiet)
