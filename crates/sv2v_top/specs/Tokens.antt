-- What the translation needs of the tokens of an expansion.
use Rattle.std.specs.Prelude.{◌≡◌, not, Bool, true, ◌||◌, List}
use Rattle.std.specs.List.{All}
use Rattle.sv_source.specs.declared.token.Token.{Token}
use Rattle.sv_macro.specs.Tokens.{is_name}
use Rattle.sv_preproc.specs.declared.settings.Define.{Define}
use Rattle.v_tree.specs.Tokens.{is_simple}

-- the text of a name is a simple name of the target language
abbrev pub is_simply_named : Token → Bool
is_simply_named t = not (is_name t) || is_simple t.text

abbrev pub NamesAreSimple : List Token → Type 0
NamesAreSimple tokens = All (λ (t : Token). is_simply_named t ≡ true) tokens

-- so are those in the bodies of the command line's macros
abbrev pub BodiesAreSimple : List Define → Type 0
BodiesAreSimple defines = All (λ (d : Define). NamesAreSimple d.body) defines
