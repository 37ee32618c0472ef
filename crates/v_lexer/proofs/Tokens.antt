-- The tokens of a text, piece by piece.
use Rattle.std.proofs.lemmas.Grind.{common_steps}
use Rattle.std.proofs.Common.{append_assoc, ◌≡◌, ◌<◌, ℕ, zero, suc, ◌+◌, List, [], ◌∷◌, ◌++◌, length, map, drop, refl, sym, ap, ◌∙◌, arith, add-one}
use Rattle.v_tree.specs.Tokens as T
use Rattle.v_tree.specs.Tokens.{Cut, gap, cut, first_cut, tokens_from, tokens}
use Rattle.v_lexer.specs.Places.{Placed, placed_from}
use Rattle.v_lexer.specs.Seen.{seen, says, piece_of, first_piece, token_of, length_behind}
use Rattle.v_tree.specs.Symbols.{symbol}
use Rattle.v_lexer.specs.declared.token.VToken.{VToken}
use Rattle.v_lexer.specs.declared.piece.Piece.{Piece}

-- the tokens with their places are the tokens
pub placed-tokens : (at further : ℕ) (text : List ℕ) → map (λ (p : Placed). p.token) (placed_from at further text) ≡ tokens_from further text
placed-tokens at further [] = refl
placed-tokens at (suc further) (c ∷ text) = placed-tokens (suc at) further text
placed-tokens at zero (c ∷ text) = by_cut (first_cut c text) (λ n. placed-tokens (suc at) n text)
  where
    by_cut : (k : Cut) → ((n : ℕ) → map (λ (p : Placed). p.token) (placed_from (suc at) n text) ≡ tokens_from n text)
        → map (λ (p : Placed). p.token) (elim k [ gap further ↦ placed_from (suc at) further text | cut token further ↦ record { token = token; at = at; size = suc further } ∷ placed_from (suc at) further text ])
        ≡ elim k [ gap further ↦ tokens_from further text | cut token further ↦ token ∷ tokens_from further text ]
    by_cut (gap n) h = h n
    by_cut (cut t n) h = ap (λ ts. t ∷ ts) (h n)

-- bytes of a piece behind its first one begin no token
pub inside : (at n : ℕ) (text : List ℕ) → placed_from at n text ≡ placed_from (at + n) 0 (drop n text)
inside at zero text = let e : at + 0 ≡ at = omega arith in ap (λ k. placed_from k 0 text) (sym e)
inside at (suc n) [] = refl
inside at (suc n) (c ∷ text) = let e : suc at + n ≡ at + suc n = omega arith in inside (suc at) n text ∙ ap (λ k. placed_from k 0 (drop n text)) e

cut-piece : (at : ℕ) (text : List ℕ) (t : T.Token) (n : ℕ) → ◌≡◌ {A = List VToken} (record { symbol = symbol t; says = says t; at = at; size = suc n } ∷ map seen (placed_from (suc at) n text)) (record { symbol = symbol t; says = says t; at = at; size = n + 1 } ∷ map seen (placed_from (suc at) n text))
cut-piece at text t n = λ i. record { symbol = symbol t; says = says t; at = at; size = sym (add-one n) i } ∷ map seen (placed_from (suc at) n text)

-- a piece, and then the tokens behind it
first-piece : (at c : ℕ) (text : List ℕ)
    → map seen (placed_from at 0 (c ∷ text)) ≡ token_of (piece_of (first_cut c text)) at ++ map seen (placed_from (suc at) (length_behind (piece_of (first_cut c text))) text)
first-piece at c text = by_cut (first_cut c text)
  where
    by_cut : (k : Cut)
        → map seen (elim k [ gap further ↦ placed_from (suc at) further text | cut token further ↦ record { token = token; at = at; size = suc further } ∷ placed_from (suc at) further text ])
        ≡ token_of (piece_of k) at ++ map seen (placed_from (suc at) (length_behind (piece_of k)) text)
    by_cut (gap n) = refl
    by_cut (cut t n) = cut-piece at text t n

pub next-piece : (at : ℕ) (rest : List ℕ) (piece : Piece) → 0 < length rest → piece ≡ first_piece rest
    → map seen (placed_from at 0 rest) ≡ token_of piece at ++ map seen (placed_from (at + (length_behind piece + 1)) 0 (drop (length_behind piece + 1) rest))
next-piece at [] piece some is = absurd (omega (arith, some))
next-piece at (c ∷ text) piece some is =
    let n : ℕ = length_behind piece in
    let e : suc at + n ≡ at + (n + 1) = omega arith in
    first-piece at c text
    ∙ (λ i. token_of (sym is i) at ++ map seen (placed_from (suc at) (length_behind (sym is i)) text))
    ∙ ap (λ ps. token_of piece at ++ map seen ps) (inside (suc at) n text ∙ (λ i. placed_from (e i) 0 (drop (sym (add-one n) i) (c ∷ text))))

-- a step of the loop
pub step : (at size : ℕ) (bytes rest : List ℕ) (piece : Piece) (old new whole : List VToken) → at < length bytes → rest ≡ drop at bytes → piece ≡ first_piece rest
    → new ≡ old ++ token_of piece at → size ≡ length_behind piece + 1 → old ++ map seen (placed_from at 0 (drop at bytes)) ≡ whole
    → new ++ map seen (placed_from (at + size) 0 (drop (at + size) bytes)) ≡ whole
step at size bytes rest piece old new whole within rest_is piece_is new_is size_is so_far =
    let some : 0 < length rest = rw rest_is (grind (arith, common_steps)) in
    let dropped : drop (length_behind piece + 1) rest ≡ drop (at + size) bytes = rw (rest_is, size_is) (grind (arith, common_steps)) in
    let next = next-piece at rest piece some piece_is in
    ap (λ ts. ts ++ map seen (placed_from (at + size) 0 (drop (at + size) bytes))) new_is
    ∙ append_assoc old (token_of piece at) (map seen (placed_from (at + size) 0 (drop (at + size) bytes)))
    ∙ ap (λ ts. old ++ ts) ((λ i. token_of piece at ++ map seen (placed_from (at + size_is i) 0 (sym dropped i))) ∙ sym next ∙ ap (λ r. map seen (placed_from at 0 r)) rest_is)
    ∙ so_far
