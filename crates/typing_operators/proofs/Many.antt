-- Expressions that can be typed, of which each is smaller and written.
use Rattle.std.proofs.Common.{◌≡◌, ◌≤◌, ℕ, true, List, [], ◌∷◌, ◌++◌}
use Rattle.std.specs.Prelude.{Result}
use Rattle.sv_tree.specs.declared.expressions.Expr.{Expr}
use Rattle.expr_type.specs.declared.halt.Halt.{Halt}
use Rattle.expr_type.specs.Names.{Context}
use Rattle.pattern_types.specs.declared.operand.Operand as O
use Rattle.typing_values.specs.TypingParts.{Known}
use Rattle.typing_values.specs.TypingParts.{AllCanType, CanType}
use Rattle.typing_walks.specs.Written.{is_written}
use Rattle.typing_operators.specs.Children.{AllWithin, AllWritten, nodes}

module _ (R S : Type 0) (tree : R → Expr) (held : S → Known) (pre : R → S → Type 0) (post : R → S → Result O.Operand Halt → S → Type 0) (k : Context) where
  pub all-can : (n : ℕ) (es : List Expr) → ((e : Expr) → nodes e ≤ n → is_written e ≡ true → CanType R S tree held pre post k e) → AllWithin n es → AllWritten es → AllCanType R S tree held pre post k es
  all-can n [] c m w = tt
  all-can n (e ∷ es) c m w = (c e m.0 w.0, all-can n es c m.1 w.1)

  -- of two lists together
  pub front-can : (xs ys : List Expr) → AllCanType R S tree held pre post k (xs ++ ys) → AllCanType R S tree held pre post k xs
  front-can [] ys c = tt
  front-can (x ∷ xs) ys c = (c.0, front-can xs ys c.1)

  pub behind-can : (xs ys : List Expr) → AllCanType R S tree held pre post k (xs ++ ys) → AllCanType R S tree held pre post k ys
  behind-can [] ys c = c
  behind-can (x ∷ xs) ys c = behind-can xs ys c.1
