-- The expressions in one of some parts are among those in all of them.
use Rattle.std.proofs.Common.{◌≡◌, ◌<◌, ℕ, zero, suc, List, [], ◌∷◌, ◌++◌, length, get_or, flat_map, sym, ap, ◌∙◌, subst, arith}
use Rattle.std.specs.Prelude.{Result}
use Rattle.sv_tree.specs.declared.expressions.Cast.{Cast}
use Rattle.sv_tree.specs.declared.expressions.Dimension.{Dimension}
use Rattle.sv_tree.specs.declared.expressions.Expr.{Expr}
use Rattle.sv_tree.specs.declared.expressions.Pattern.{Pattern, Pattern-F, out-Pattern, out-roll-Pattern}
use Rattle.sv_tree.specs.declared.expressions.Pattern.TheVariants as V
use Rattle.sv_tree.specs.declared.expressions.PatternItem.{PatternItem}
use Rattle.sv_tree.specs.declared.expressions.Select.{Select}
use Rattle.sv_tree.specs.declared.expressions.SliceSize.{SliceSize}
use Rattle.sv_tree.specs.declared.expressions.ValueRange.{ValueRange}
use Rattle.expr_type.specs.declared.halt.Halt.{Halt}
use Rattle.expr_type.specs.Names.{Context}
use Rattle.pattern_types.specs.declared.operand.Operand as P
use Rattle.typing_parts.specs.declared.known.Known.{Known}
use Rattle.typing_parts.specs.Typists.{AllCanType, CanType}
use Rattle.typing_values.specs.Children.{in_item, in_pattern}

-- the expressions in one level of a pattern
abbrev in_layer : Pattern-F Cast Dimension Expr Pattern PatternItem Select SliceSize ValueRange → List Expr
in_layer y = elim y [
  | Pattern-F.Items items ↦ flat_map in_item items
  | Pattern-F.«Pattern::Replication» times opening items closing ↦ times ∷ items
]

module _ (R S : Type 0) (tree : R → Expr) (held : S → Known) (pre : R → S → Type 0) (post : R → S → Result P.Operand Halt → S → Type 0) (k : Context) where
  abbrev AllCan : List Expr → Type 0
  AllCan es = AllCanType R S tree held pre post k es

  can-first : (xs ys : List Expr) → AllCan (xs ++ ys) → AllCan xs
  can-first [] ys h = tt
  can-first (x ∷ xs) ys h = (h.0, can-first xs ys h.1)

  can-rest : (xs ys : List Expr) → AllCan (xs ++ ys) → AllCan ys
  can-rest [] ys h = h
  can-rest (x ∷ xs) ys h = can-rest xs ys h.1

  pub can-in : {A : Type 0} (f : A → List Expr) (xs : List A) (i : ℕ) (x : A) → AllCan (flat_map f xs) → i < length xs → x ≡ get_or xs i x → AllCan (f x)
  can-in f [] i x h less is = absurd (omega arith)
  can-in f (y ∷ xs) zero x h less is = subst (λ z. AllCan (f z)) (sym is) (can-first (f y) (flat_map f xs) h)
  can-in f (y ∷ xs) (suc i) x h less is = can-in f xs i x (can-rest (f y) (flat_map f xs) h) (omega arith) is

  pub can-count : (p : Pattern) (times : Expr) (opening closing : ℕ) (es : List Expr) → p ≡ V.Replication times opening es closing → AllCan (in_pattern p) → CanType R S tree held pre post k times
  can-count p times opening closing es is h =
      let y : Pattern-F Cast Dimension Expr Pattern PatternItem Select SliceSize ValueRange = Pattern-F.«Pattern::Replication» times opening es closing in
      let e : out-Pattern p ≡ y = ap out-Pattern (is ∙ sym (V.rolls-Replication times opening es closing)) ∙ out-roll-Pattern y in
      (subst (λ z. AllCan (in_layer z)) e h).0
