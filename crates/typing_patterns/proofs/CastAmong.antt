-- What is cast, among the expressions in a cast.
use Rattle.std.proofs.Common.{◌≡◌, ℕ, List, [], ◌∷◌, sym, ap, ◌∙◌, subst}
use Rattle.std.specs.Prelude.{Result}
use Rattle.sv_tree.specs.declared.expressions.Cast.{Cast, Cast-F, out-Cast, out-roll-Cast}
use Rattle.sv_tree.specs.declared.expressions.Cast.TheVariants as V
use Rattle.sv_tree.specs.declared.expressions.Dimension.{Dimension}
use Rattle.sv_tree.specs.declared.expressions.Expr.{Expr}
use Rattle.sv_tree.specs.declared.expressions.Pattern.{Pattern}
use Rattle.sv_tree.specs.declared.expressions.PatternItem.{PatternItem}
use Rattle.sv_tree.specs.declared.expressions.Select.{Select}
use Rattle.sv_tree.specs.declared.expressions.SliceSize.{SliceSize}
use Rattle.sv_tree.specs.declared.expressions.ValueRange.{ValueRange}
use Rattle.expr_type.specs.declared.halt.Halt.{Halt}
use Rattle.expr_type.specs.Names.{Context}
use Rattle.pattern_types.specs.declared.operand.Operand as P
use Rattle.typing_parts.specs.declared.known.Known.{Known}
use Rattle.typing_parts.specs.Typists.{AllCanType, CanType}
use Rattle.typing_patterns.specs.TypingValues.{in_cast, in_pattern}

-- the expressions in one level of a cast
abbrev in_layer : Cast-F Cast Dimension Expr Pattern PatternItem Select SliceSize ValueRange → List Expr
in_layer y = elim y [
  | Cast-F.«Cast::Value» tick opening value closing ↦ value ∷ []
  | Cast-F.«Cast::Pattern» tick opening pattern closing ↦ in_pattern pattern
]

module _ (R S : Type 0) (tree : R → Expr) (held : S → Known) (pre : R → S → Type 0) (post : R → S → Result P.Operand Halt → S → Type 0) (k : Context) where
  abbrev AllCan : List Expr → Type 0
  AllCan es = AllCanType R S tree held pre post k es

  pub can-value : (c : Cast) (tick opening closing : ℕ) (value : Expr) → c ≡ V.Value tick opening value closing → AllCan (in_cast c) → CanType R S tree held pre post k value
  can-value c tick opening closing value is h =
      let y : Cast-F Cast Dimension Expr Pattern PatternItem Select SliceSize ValueRange = Cast-F.«Cast::Value» tick opening value closing in
      let e : out-Cast c ≡ y = ap out-Cast (is ∙ sym (V.rolls-Value tick opening value closing)) ∙ out-roll-Cast y in
      (subst (λ z. AllCan (in_layer z)) e h).0

  pub can-pattern : (c : Cast) (tick opening closing : ℕ) (p : Pattern) → c ≡ V.Pattern tick opening p closing → AllCan (in_cast c) → AllCan (in_pattern p)
  can-pattern c tick opening closing p is h =
      let y : Cast-F Cast Dimension Expr Pattern PatternItem Select SliceSize ValueRange = Cast-F.«Cast::Pattern» tick opening p closing in
      let e : out-Cast c ≡ y = ap out-Cast (is ∙ sym (V.rolls-Pattern tick opening p closing)) ∙ out-roll-Cast y in
      subst (λ z. AllCan (in_layer z)) e h
