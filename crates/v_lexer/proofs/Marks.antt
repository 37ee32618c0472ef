-- The longest mark at the front of a text.
use Rattle.std.proofs.Common.{◌≡◌, ◌≤◌, ◌<◌, ℕ, ◌-◌, true, nat_lt, List, [], length, map, find, slice_index_or, Option, Some, None, refl, sym, ap, ◌∙◌, arith}
use Rattle.std.specs.List.{list_all}
use Rattle.std.specs.Option.{option_map}
use Rattle.std.proofs.lemmas.Bool.{ltb-true}
use Rattle.std.proofs.lemmas.List.{get_or-map}
use Rattle.v_lexer.specs.declared.spelled.TheConstants.{MARK_SYMBOLS, MARK_LENGTHS}
use Rattle.v_tree.specs.Tokens as T
use Rattle.v_tree.specs.Tokens.{begins, marks, mark_cut, mark_or_stray}
use Rattle.v_lexer.specs.declared.token.Says.TheVariants.{Nothing}
use Rattle.v_lexer.specs.declared.piece.Piece.TheVariants as P
use Rattle.v_lexer.specs.Seen.{piece_of, spelled_symbol, longest_mark, seen_mark}
use Rattle.v_lexer.proofs.Begins.{begun-within, found-begins, found-passes}

abbrev pub IsSeen : List ℕ → ℕ → ℕ → Type 0
IsSeen text symbol size = ◌≡◌ {A = Option (ℕ × ℕ)} (Some (symbol, size)) (option_map seen_mark (longest_mark text))

abbrev one_of : ℕ × ℕ → ℕ
one_of p = p.0

abbrev two_of : ℕ × ℕ → ℕ
two_of p = p.1

pair_same : {p q : ℕ × ℕ} → Some p ≡ Some q → p ≡ q
pair_same e = cc

symbols-are : map spelled_symbol marks ≡ MARK_SYMBOLS
unfolding spelled_symbol
symbols-are = refl

lengths-are : map length marks ≡ MARK_LENGTHS
lengths-are = refl

pub longest-is : (text : List ℕ) (o : Option (List ℕ)) → find (λ m. begins m text) marks ≡ o → longest_mark text ≡ o
unfolding longest_mark
longest-is text o e = e

-- the symbol and the length of the mark at a place
pub mark-at : (text : List ℕ) (k : ℕ) → k < 42 → longest_mark text ≡ Some (slice_index_or marks k []) → IsSeen text (slice_index_or MARK_SYMBOLS k 0) (slice_index_or MARK_LENGTHS k 0)
mark-at text k within is =
    (λ i. Some (slice_index_or (sym symbols-are i) k 0, slice_index_or (sym lengths-are i) k 0))
    ∙ (λ i. Some (get_or-map spelled_symbol marks k [] 0 within i, get_or-map length marks k [] 0 within i))
    ∙ sym (ap (option_map seen_mark) is)

-- what is seen of a mark that is found
pub record Found (text : List ℕ) (symbol size : ℕ) : Type 0 where
  pub bytes : List ℕ
  pub is : longest_mark text ≡ Some bytes
  pub symbol_is : symbol ≡ spelled_symbol bytes
  pub size_is : size ≡ length bytes

pub found : (text : List ℕ) (symbol size : ℕ) → IsSeen text symbol size → Found text symbol size
found text symbol size e = by_option (longest_mark text) refl e
  where
    by_option : (o : Option (List ℕ)) → longest_mark text ≡ o → ◌≡◌ {A = Option (ℕ × ℕ)} (Some (symbol, size)) (option_map seen_mark o) → Found text symbol size
    by_option None is e = cc
    by_option (Some n) is e = record { bytes = n; is = is; symbol_is = ap one_of (pair_same e); size_is = ap two_of (pair_same e) }

pub found-cut : (text : List ℕ) (symbol size : ℕ) → IsSeen text symbol size → P.Token symbol Nothing (size - 1) ≡ piece_of (mark_cut text)
unfolding longest_mark spelled_symbol
found-cut text symbol size e =
    let f = found text symbol size e in
    (λ i. P.Token (f.symbol_is i) Nothing (f.size_is i - 1)) ∙ ap (λ o. piece_of (mark_or_stray o)) (sym f.is)

pub found-within : (text : List ℕ) (symbol size : ℕ) → 0 < length text → IsSeen text symbol size → size - 1 < length text
unfolding longest_mark
found-within text symbol size some e =
    let f = found text symbol size e in
    let within = begun-within f.bytes text (found-begins text f.bytes marks f.is) in
    omega (arith, within, f.size_is, some)

pub stray-cut : (text : List ℕ) → None ≡ option_map seen_mark (longest_mark text) → piece_of (T.cut T.Token.stray 0) ≡ piece_of (mark_cut text)
unfolding longest_mark
stray-cut text e = by_option (longest_mark text) e
  where
    by_option : (o : Option (List ℕ)) → None ≡ option_map seen_mark o → piece_of (T.cut T.Token.stray 0) ≡ piece_of (mark_or_stray o)
    by_option None e = refl
    by_option (Some n) e = cc

all-some : list_all (λ m. nat_lt 0 (length m)) marks ≡ true
all-some = refl

pub found-some : (text : List ℕ) (symbol size : ℕ) → IsSeen text symbol size → 1 ≤ size
unfolding longest_mark
found-some text symbol size e =
    let f = found text symbol size e in
    let some = ltb-true 0 (length f.bytes) (found-passes (λ m. begins m text) (λ m. nat_lt 0 (length m)) f.bytes marks all-some f.is) in
    omega (arith, some, f.size_is)
