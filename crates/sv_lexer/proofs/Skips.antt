-- Places and tokens behind a piece.
use Rattle.std.proofs.Common.{◌≡◌, ℕ, ◌-◌, ◌<◌, List, [], ◌∷◌, ◌++◌, length, take, refl, sym, ap, ◌∙◌, arith}
use Rattle.std.proofs.lemmas.Grind.{common_steps}
use Rattle.sv_source.specs.declared.token.Place.{Place}
use Rattle.sv_lexer.specs.declared.piece.Piece.{Piece}
use Rattle.sv_lexer.specs.Pieces.{longest}
use Rattle.sv_lexer.specs.Lexing.{behind_byte, behind_bytes, token_of, tokens_from}

-- the rest of a piece gives no token
pub tokens_from-inside : (place : Place) (text after : List ℕ) → tokens_from (length text) place (text ++ after) ≡ tokens_from 0 (behind_bytes place text) after
tokens_from-inside place [] after = refl
tokens_from-inside place (c ∷ cs) after = tokens_from-inside (behind_byte place c) cs after

-- the token of the longest piece, and then those behind it
pub tokens_from-piece : (place : Place) (text after : List ℕ) → 0 < length text → (longest (text ++ after)).len ≡ length text →
    tokens_from 0 place (text ++ after) ≡ token_of (longest (text ++ after)).kind text place ++ tokens_from 0 (behind_bytes place text) after
tokens_from-piece place [] after some len = absurd (omega arith)
tokens_from-piece place (c ∷ cs) after some len =
    let whole : take (longest (c ∷ cs ++ after)).len (c ∷ cs ++ after) ≡ c ∷ cs = rw len (grind (arith, common_steps)) in
    let inside : (longest (c ∷ cs ++ after)).len - 1 ≡ length cs = omega (arith, len) in
    rw (whole, inside) (ap (λ ts. token_of (longest (c ∷ cs ++ after)).kind (c ∷ cs) place ++ ts) (tokens_from-inside (behind_byte place c) cs after))

-- the same of a piece that is known to be the longest
pub tokens_from-next : (place : Place) (rest text after : List ℕ) (piece : Piece) → rest ≡ text ++ after → piece ≡ longest rest → 0 < piece.len → length text ≡ piece.len →
    tokens_from 0 place rest ≡ token_of piece.kind text place ++ tokens_from 0 (behind_bytes place text) after
tokens_from-next place rest text after piece split is some len =
    let same : piece ≡ longest (text ++ after) = is ∙ ap longest split in
    let long : (longest (text ++ after)).len ≡ length text = sym (ap (λ p. p.len) same) ∙ sym len in
    rw (split, same) (tokens_from-piece place text after (omega arith) long)
