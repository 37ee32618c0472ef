-- The tokens of a file: the longest piece at each place, from left to right.
use Rattle.std.specs.Prelude.{ℕ, zero, suc, ◌+◌, ◌-◌, ◌==◌, if◌then◌else◌, Option, Some, None, List, [], ◌∷◌, ◌++◌, take}
use Rattle.sv_source.specs.declared.token.Place.{Place}
use Rattle.sv_source.specs.declared.token.Token.{Token}
use Rattle.sv_source.specs.declared.token.Kind.{Kind}
use Rattle.sv_source.specs.declared.token.Kind.TheVariants.{Name, Reserved}
use Rattle.sv_lexer.specs.Tables.{is_reserved}
use Rattle.sv_lexer.specs.Pieces.{longest}

-- the place behind a byte: a newline begins the next line
abbrev pub behind_byte : Place → ℕ → Place
behind_byte place c = if c == 10 then record place { line = place.line + 1; col = 1 } else record place { col = place.col + 1 }

-- the place behind some bytes
abbrev pub behind_bytes : Place → List ℕ → Place
behind_bytes place [] = place
behind_bytes place (c ∷ cs) = behind_bytes (behind_byte place c) cs

-- a name that is a reserved word has the kind of these
abbrev pub kind_of : Kind → List ℕ → Kind
kind_of Name text = if is_reserved text then Reserved else Name
kind_of kind text = kind

-- the token of a piece; a gap gives none
abbrev pub token_of : Option Kind → List ℕ → Place → List Token
token_of None text place = []
token_of (Some kind) text place = record { kind = kind_of kind text; text = text; place = place } ∷ []

-- the tokens from this place on, where the first bytes may still belong to the piece before
abbrev pub tokens_from : ℕ → Place → List ℕ → List Token
tokens_from inside place [] = []
tokens_from (suc inside) place (c ∷ cs) = tokens_from inside (behind_byte place c) cs
tokens_from zero place (c ∷ cs) =
    token_of (longest (c ∷ cs)).kind (take (longest (c ∷ cs)).len (c ∷ cs)) place
    ++ tokens_from ((longest (c ∷ cs)).len - 1) (behind_byte place c) cs

-- the tokens of the file with this number
abbrev pub tokens_of : ℕ → List ℕ → List Token
tokens_of file bytes = tokens_from 0 (record { file = file; line = 1; col = 1 }) bytes
