-- The places of a file's tokens are in it, and so is the place behind its bytes.
use Rattle.std.proofs.Common.{◌≡◌, ℕ, zero, suc, ◌+◌, ◌-◌, ◌==◌, Bool, true, false, cond, List, [], ◌∷◌, take, Option, Some, None, All, refl, ◌∙◌}
use Rattle.std.proofs.lemmas.List.Elements.{All-nil, All-cons, All-append}
use Rattle.sv_source.specs.declared.token.Kind.{Kind}
use Rattle.sv_source.specs.declared.token.Place.{Place}
use Rattle.sv_source.specs.declared.token.Token.{Token}
use Rattle.sv_lexer.specs.Pieces.{longest}
use Rattle.sv_lexer.specs.Lexing.{behind_byte, behind_bytes, token_of, tokens_from, tokens_of}

by_newline : (newline : Bool) (place : Place) →
    (cond {A = Place} newline (record place { line = place.line + 1; col = 1 }) (record place { col = place.col + 1 })).file ≡ place.file
by_newline true place = refl
by_newline false place = refl

same_file : (place : Place) (c : ℕ) → (behind_byte place c).file ≡ place.file
same_file place c = by_newline (c == 10) place

pub behind_bytes-file : (place : Place) (bytes : List ℕ) → (behind_bytes place bytes).file ≡ place.file
behind_bytes-file place [] = refl
behind_bytes-file place (c ∷ cs) = behind_bytes-file (behind_byte place c) cs ∙ same_file place c

abbrev pub InFile : ℕ → Token → Type 0
InFile file t = t.place.file ≡ file

token_of-file : (file : ℕ) (kind : Option Kind) (text : List ℕ) (place : Place) → place.file ≡ file → All (InFile file) (token_of kind text place)
token_of-file file None text place e = All-nil (InFile file)
token_of-file file (Some kind) text place e = All-cons (InFile file) _ [] e (All-nil (InFile file))

tokens_from-file : (file inside : ℕ) (place : Place) (bytes : List ℕ) → place.file ≡ file → All (InFile file) (tokens_from inside place bytes)
tokens_from-file file inside place [] e = All-nil (InFile file)
tokens_from-file file (suc inside) place (c ∷ cs) e = tokens_from-file file inside (behind_byte place c) cs (same_file place c ∙ e)
tokens_from-file file zero place (c ∷ cs) e =
    All-append (InFile file) _ _ (token_of-file file (longest (c ∷ cs)).kind (take (longest (c ∷ cs)).len (c ∷ cs)) place e)
    (tokens_from-file file ((longest (c ∷ cs)).len - 1) (behind_byte place c) cs (same_file place c ∙ e))

pub tokens_of-file : (file : ℕ) (bytes : List ℕ) → All (InFile file) (tokens_of file bytes)
tokens_of-file file bytes = tokens_from-file file 0 (record { file = file; line = 1; col = 1 }) bytes refl
