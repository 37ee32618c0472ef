-- Words with dimensions as types.
use Rattle.std.proofs.Common.{◌≡◌, List, Option, Some, None, map, rules, sym, ap, ◌∙◌, subst}
use Rattle.sv_tree.specs.declared.expressions.Cast.{Cast}
use Rattle.sv_tree.specs.declared.expressions.Dimension.{Dimension}
use Rattle.sv_tree.specs.declared.expressions.Expr.{Expr, Expr-F, the_lemmas}
use Rattle.sv_tree.specs.declared.expressions.Expr.TheVariants as V
use Rattle.sv_tree.specs.declared.types.KeywordType.{KeywordType}
use Rattle.sv_types.specs.declared.types.SvType.{SvType}
use Rattle.expr_type.specs.Expressions as E
use Rattle.expr_type.specs.Expressions.{DimensionMeaning, Meaning, dimension_meaning, meaning}
use Rattle.expr_type.specs.KeywordTypes.{Dim, keyword_type}
use Rattle.expr_type.specs.Names.{Context}
use Rattle.expr_type.specs.Typings.{Typing, all, checked, whole}
use Rattle.typing_paths.specs.TypingValues.{in_dimensions}
use Rattle.typing_paths.specs.TypingValuesParts as part
use Rattle.typing_paths.proofs.Rows.{map-of-map}
use Rattle.typing_paths.specs.Children.{in_type}
use Rattle.typing_paths.specs.Forms.{IsWord}

word-level : (of : KeywordType) (ds : List Dimension) → meaning (V.Type of ds None) ≡ E.expr_step (Expr-F.Type of (map dimension_meaning ds) None)
word-level of ds = search (rules, the_lemmas)

word-is : (of : KeywordType) (ds : List Dimension) (k : Context) → (meaning (V.Type of ds None)).as_type k ≡ Some (part.type_of_word k of ds)
word-is of ds k =
    ap (λ (m : Meaning). m.as_type k) (word-level of ds)
    ∙ ap (λ (xs : List (Typing Dim)). some-of (checked (all xs) (λ d. whole (keyword_type of d)))) (sym (map-of-map (λ (d : DimensionMeaning). d k) dimension_meaning ds))
  where
    some-of : Typing SvType → Option (Typing SvType)
    some-of x = Some x

word-children : (of : KeywordType) (ds : List Dimension) → in_type (V.Type of ds None) ≡ in_dimensions ds
word-children of ds = search (rules, the_lemmas)

at-word : (of : KeywordType) (ds : List Dimension) → IsWord of ds (V.Type of ds None)
at-word of ds = record { is = word-is of ds; children = word-children of ds }

pub word-form : (of : KeywordType) (packed ds : List Dimension) (cast : Option Cast) (e : Expr) → e ≡ V.Type of packed cast → cast ≡ None → ds ≡ packed → IsWord of ds e
word-form of packed ds cast e is alone same =
    subst (λ (x : Expr). IsWord of ds x) (sym (is ∙ ap (V.Type of packed) alone ∙ ap (λ (xs : List Dimension). V.Type of xs None) (sym same))) (at-word of ds)
