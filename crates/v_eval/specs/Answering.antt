-- What calls are answered with.
use Rattle.std.specs.Prelude.{◌≡◌, ℕ, List, Some, Result, IfOk}
use Rattle.b4_core.specs.declared.bit.Bit4.{Bit4}
use Rattle.v_eval.specs.declared.held.Held.{Held}
use Rattle.v_eval.specs.declared.scopes.Scope.{Scope}
use Rattle.v_eval.specs.Holding.{holds}
use Rattle.v_eval.specs.Scopes.{callee_at}

-- each possible answer to a call of the function at an item is what the function gives
abbrev pub Answers : {E : Type 0} → Scope → (Held → ℕ → List (List Bit4) → Result (List Bit4) E → Type 0) → Type 0
Answers {E} s post = (h : Held) (i : ℕ) (args : List (List Bit4)) (r : Result (List Bit4) E) → post h i args r → IfOk r (λ x. x ≡ (callee_at s (Some i)).run (holds h) args)
