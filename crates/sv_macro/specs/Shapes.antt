-- Tokens of a line, one of each shape.
use Rattle.std.specs.Prelude.{Bool, true, false, List, [], ◌∷◌, drop, Option, Some, None, codes}
use Rattle.sv_source.specs.declared.token.Token.{Token}
use Rattle.sv_macro.specs.Tokens.{is, is_name, is_word, is_decimal, is_continued}
use Rattle.sv_macro.specs.Lines.{raw_token, first_by}
use Rattle.sv_macro.specs.declared.shapes.Shape.{Shape}
use Rattle.sv_macro.specs.declared.shapes.Shape.TheVariants.{AnyName, AnyWord, Number, Slash}
use Rattle.sv_macro.specs.declared.coming.Coming.{Coming}
use Rattle.sv_macro.specs.declared.coming.Coming.TheVariants.{Raw, Kept, FileEnd, UseEnd}

-- what a token has to be
abbrev pub fits : Shape → Token → Bool
fits AnyName t = is_name t
fits AnyWord t = is_word t
fits Number t = is_decimal t
fits Slash t = is t (codes "/")

abbrev pub first_fits : Shape → Option Token → Bool
first_fits shape None = false
first_fits shape (Some t) = fits shape t

abbrev pub is_joint : Coming → Bool
is_joint (Raw t) = is_continued t
is_joint (Kept t) = false
is_joint FileEnd = false
is_joint (UseEnd name) = false

abbrev pub begins_joint : List Coming → Bool
begins_joint [] = false
begins_joint (item ∷ coming) = is_joint item

abbrev pub behind_joints : List Coming → List Coming
behind_joints [] = []
behind_joints (item ∷ coming) = elim (is_joint item) [ true ↦ behind_joints coming | false ↦ item ∷ coming ]

abbrev pub behind_shapes : List Shape → List Coming → Option (List Coming)
behind_shapes [] coming = Some coming
behind_shapes (shape ∷ shapes) coming =
    elim (first_fits shape (first_by raw_token (behind_joints coming))) [
      | true ↦ behind_shapes shapes (drop 1 (behind_joints coming))
      | false ↦ None
    ]
