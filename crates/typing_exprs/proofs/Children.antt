-- The expressions in an expression can be typed, all of them and by its form.
use Rattle.std.proofs.Common.{◌≡◌, ◌≤◌, ℕ, zero, suc, true, ap, ◌∙◌, arith, subst, sym}
use Rattle.std.specs.Prelude.{◌<◌, ◌+◌, Result}
use Rattle.sv_tree.specs.declared.expressions.Cast.{Cast}
use Rattle.sv_tree.specs.declared.expressions.Dimension.{Dimension}
use Rattle.sv_tree.specs.declared.expressions.Expr.{Expr, Expr-F, fold_out-Expr, map-Expr, out-Expr, out-roll-Expr, roll-Expr}
use Rattle.sv_tree.specs.declared.expressions.Pattern.{Pattern}
use Rattle.sv_tree.specs.declared.expressions.PatternItem.{PatternItem}
use Rattle.sv_tree.specs.declared.expressions.Select.{Select}
use Rattle.sv_tree.specs.declared.expressions.SliceSize.{SliceSize}
use Rattle.sv_tree.specs.declared.expressions.ValueRange.{ValueRange}
use Rattle.expr_type.specs.declared.halt.Halt.{Halt}
use Rattle.expr_type.specs.Names.{Context}
use Rattle.pattern_types.specs.declared.operand.Operand as O
use Rattle.typing_operators.specs.TypingParts.{Known}
use Rattle.typing_operators.specs.TypingParts.{AllCanType, CanType}
use Rattle.typing_walks.specs.Written.{is_written}
use Rattle.typing_operators.specs.Children as C
use Rattle.typing_operators.specs.Children.{cast_nodes, children, children_in, dimension_nodes, if_there, item_nodes, nodes, pattern_nodes, range_nodes, select_nodes, slice_nodes, sum}
use Rattle.typing_operators.proofs.Many.{all-can}
use Rattle.typing_operators.proofs.Smaller.{children-within}
use Rattle.typing_operators.proofs.Written.{children-written}
use Rattle.typing_exprs.specs.Levels.{Level}

one-le : (m : ℕ) → 1 ≤ suc m
one-le m = omega arith

some-by : (z : Expr-F ℕ ℕ ℕ ℕ ℕ ℕ ℕ ℕ) → 1 ≤ C.expr_step z
some-by (Expr-F.Conditional test question first colon second) = one-le (test + (first + second))
some-by (Expr-F.Binary left operator at right) = one-le (left + right)
some-by (Expr-F.Inside value keyword opening ranges closing) = one-le (value + sum ranges)
some-by (Expr-F.Unary operator at operand) = one-le operand
some-by (Expr-F.«Expr::Decimal» digits) = one-le 0
some-by (Expr-F.Sized size digits) = one-le 0
some-by (Expr-F.SizeCast size cast) = one-le cast
some-by (Expr-F.Based digits) = one-le 0
some-by (Expr-F.Fill digit) = one-le 0
some-by (Expr-F.«Expr::Parenthesized» opening value closing cast) = one-le (value + if_there cast)
some-by (Expr-F.«Expr::Replication» opening times inner_opening items inner_closing closing) = one-le (times + sum items)
some-by (Expr-F.Concatenation opening items closing) = one-le (sum items)
some-by (Expr-F.Stream opening operator at size inner_opening items inner_closing closing) = one-le (if_there size + sum items)
some-by (Expr-F.«Expr::Pattern» tick opening pattern closing) = one-le pattern
some-by (Expr-F.Type of packed cast) = one-le (sum packed + if_there cast)
some-by (Expr-F.SigningCast signing cast) = one-le cast
some-by (Expr-F.SystemCall name opening argument closing) = one-le argument
some-by (Expr-F.Call of opening arguments closing cast) = one-le (sum arguments + if_there cast)
some-by (Expr-F.«Expr::Name» of selects cast) = one-le (sum selects + if_there cast)

some-nodes : (e : Expr) → 1 ≤ nodes e
some-nodes e =
    subst (λ (m : ℕ). 1 ≤ m) (sym (fold_out-Expr ℕ ℕ ℕ ℕ ℕ ℕ ℕ ℕ C.cast_step C.dimension_step C.expr_step C.pattern_step C.item_step C.select_step C.slice_step C.range_step e))
    (some-by (map-Expr Cast Dimension Expr Pattern PatternItem Select SliceSize ValueRange ℕ ℕ ℕ ℕ ℕ ℕ ℕ ℕ cast_nodes dimension_nodes nodes pattern_nodes item_nodes select_nodes slice_nodes range_nodes (out-Expr e)))

abbrev less_one : ℕ → ℕ
less_one zero = 0
less_one (suc n) = n

at-most : (n : ℕ) → n ≤ suc (less_one n)
at-most zero = omega arith
at-most (suc n) = omega arith

below : (n m : ℕ) → 1 ≤ n → m ≤ less_one n → m < n
below zero m p q = omega arith
below (suc n) m p q = omega arith

module _ (R S : Type 0) (tree : R → Expr) (held : S → Known) (pre : R → S → Type 0) (post : R → S → Result O.Operand Halt → S → Type 0) (k : Context) where
  -- where each expression that is smaller can be typed, so can those in an expression
  pub children-can : (e : Expr) → ((x : Expr) → nodes x < nodes e → is_written x ≡ true → CanType R S tree held pre post k x) → is_written e ≡ true → AllCanType R S tree held pre post k (children e)
  children-can e c w =
      all-can R S tree held pre post k (less_one (nodes e)) (children e) (λ x q v. c x (below (nodes e) (nodes x) (some-nodes e) q) v) (children-within (less_one (nodes e)) e (at-most (nodes e)))
      (children-written e w)

  -- those in an expression by its form
  pub level-can : (e : Expr) (z : Level) → e ≡ roll-Expr z → AllCanType R S tree held pre post k (children e) → AllCanType R S tree held pre post k (children_in z)
  level-can e z is h = subst (λ (y : Level). AllCanType R S tree held pre post k (children_in y)) (ap out-Expr is ∙ out-roll-Expr z) h
