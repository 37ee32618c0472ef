-- Expressions of a list that can be typed.
use Rattle.std.proofs.Common.{◌≡◌, ◌<◌, ℕ, zero, suc, List, [], ◌∷◌, length, get_or, arith, subst, sym}
use Rattle.std.specs.Prelude.{Result}
use Rattle.sv_tree.specs.declared.expressions.Expr.{Expr}
use Rattle.expr_type.specs.declared.halt.Halt.{Halt}
use Rattle.expr_type.specs.Names.{Context}
use Rattle.pattern_types.specs.declared.operand.Operand as O
use Rattle.typing_parts.specs.declared.known.Known.{Known}
use Rattle.typing_parts.specs.Typists.{AllCanType, CanType}

module _ (R S : Type 0) (tree : R → Expr) (held : S → Known) (pre : R → S → Type 0) (post : R → S → Result O.Operand Halt → S → Type 0) (k : Context) where
  pub all-at : (es : List Expr) (i : ℕ) (e : Expr) → AllCanType R S tree held pre post k es → i < length es → e ≡ get_or es i e → CanType R S tree held pre post k e
  all-at [] i e c within is = absurd (omega arith)
  all-at (x ∷ es) zero e c within is = subst (λ (y : Expr). CanType R S tree held pre post k y) (sym is) c.0
  all-at (x ∷ es) (suc i) e c within is = all-at es i e c.1 (omega arith) is
