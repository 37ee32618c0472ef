-- What is cut at the front of a text.
use Rattle.std.proofs.Common.{◌≡◌, ◌⊎◌, inl, inr, ◌&&◌, nat_le, subst, codes, Result, IfOk, ◌≤◌, ◌<◌, ℕ, suc, ◌+◌, Bool, true, false, cond, min, List, [], ◌∷◌, take, drop, map, reverse, refl, sym, ap, ◌∙◌, arith, add-one}
use Rattle.std.specs.List.{list_all, prefix_len}
use Rattle.std.specs.Str.Parse.{digits_value}
use Rattle.std.proofs.lemmas.Bool.{lt-leb, lt-ltb, le-ltb, ne_eqb}
use Rattle.v_tree.specs.Tokens as T
use Rattle.v_tree.specs.Tokens.{cut, named, sized_cut, decimal_token, digit_cut, bit_of, is_bit, is_digit, begins}
use Rattle.v_tree.specs.Reserved.{is_reserved}
use Rattle.v_lexer.specs.Seen.{piece_of, sized}
use Rattle.v_lexer.specs.declared.piece.Piece.{Piece}
use Rattle.v_lexer.proofs.Decimals.{small_or_great}

-- a reserved word, or a name
pub word-is : (first n : ℕ) (bytes text : List ℕ) → bytes ≡ first ∷ text → T.named (take (n + 1) bytes) ≡ T.named (first ∷ take n text)
word-is first n bytes text e = (λ i. T.named (take (add-one n i) (e i)))

pub reserved-is : (bytes : List ℕ) → is_reserved bytes ≡ true → named bytes ≡ T.Token.word bytes
reserved-is bytes e = ap (λ b. cond b (T.Token.word bytes) (T.Token.name bytes)) e

pub name-is : (bytes : List ℕ) → is_reserved bytes ≡ false → named bytes ≡ T.Token.name bytes
name-is bytes e = ap (λ b. cond b (T.Token.word bytes) (T.Token.name bytes)) e

-- a sized number, or a decimal one
pub sized-is : (n size : ℕ) (text : List ℕ) → sized size text ≡ true → sized_cut n size text ≡ cut (T.Token.number (reverse (map bit_of (take size (drop 2 text))))) (n + (2 + size))
sized-is n size text e = ap (λ b. cond b (cut (T.Token.number (reverse (map bit_of (take size (drop 2 text))))) (n + (2 + size))) (cut (decimal_token size) n)) e

pub decimal-is : (n size : ℕ) (text : List ℕ) → sized size text ≡ false → sized_cut n size text ≡ cut (decimal_token size) n
decimal-is n size text e = ap (λ b. cond b (cut (T.Token.number (reverse (map bit_of (take size (drop 2 text))))) (n + (2 + size))) (cut (decimal_token size) n)) e

-- digits that write a number below 2^32, and others
small-decimal : (value : ℕ) → value < 4294967296 → decimal_token value ≡ T.Token.decimal value
small-decimal value h = ap (λ b. cond b (T.Token.decimal value) T.Token.stray) (lt-ltb value 4294967296 h)

great-stray : (value : ℕ) → 4294967296 ≤ value → decimal_token value ≡ T.Token.stray
great-stray value h = ap (λ b. cond b (T.Token.decimal value) T.Token.stray) (le-ltb value 4294967296 h)

pub small-piece : (value further : ℕ) → value < 4294967296 → piece_of (cut (T.Token.decimal value) further) ≡ piece_of (cut (decimal_token value) further)
small-piece value further h = ap (λ t. piece_of (cut t further)) (sym (small-decimal value h))

pub great-piece : (value further : ℕ) → 4294967296 ≤ value → piece_of (cut T.Token.stray further) ≡ piece_of (cut (decimal_token value) further)
great-piece value further h = ap (λ t. piece_of (cut t further)) (sym (great-stray value h))

pub ruleset decimals = (small-piece, great-piece)

-- digits that go on as far as they go are all digits
prefix-step : (p : ℕ → Bool) (x : ℕ) (xs : List ℕ) (b : Bool) → p x ≡ b → list_all p (take (prefix_len p xs) xs) ≡ true → list_all p (take (cond b (1 + prefix_len p xs) 0) (x ∷ xs)) ≡ true
prefix-step p x xs true e h =
    let one : 1 + prefix_len p xs ≡ suc (prefix_len p xs) = omega arith in
    ap (λ n. list_all p (take n (x ∷ xs))) one ∙ ap (λ b. b && list_all p (take (prefix_len p xs) xs)) e ∙ h
prefix-step p x xs false e h = refl

prefix-all : (p : ℕ → Bool) (xs : List ℕ) → list_all p (take (prefix_len p xs) xs) ≡ true
prefix-all p [] = refl
prefix-all p (x ∷ xs) = prefix-step p x xs (p x) refl (prefix-all p xs)

pub digits-all : (first n : ℕ) (text bytes : List ℕ) → bytes ≡ first ∷ text → is_digit first ≡ true → n ≡ prefix_len is_digit text → list_all is_digit (take (n + 1) bytes) ≡ true
digits-all first n text bytes whole digit is =
    (λ i. list_all is_digit (take (add-one n i) (whole i)))
    ∙ ap (λ b. b && list_all is_digit (take n text)) digit
    ∙ ap (λ k. list_all is_digit (take k text)) is ∙ prefix-all is_digit text

-- a size that isn't told apart is no size
no-size : (a b d : Bool) → (a && b && false && d) ≡ false
no-size true true d = refl
no-size true false d = refl
no-size false b d = refl

sized-capped : (n v : ℕ) (text : List ℕ) → sized_cut n v text ≡ sized_cut n (min v 4294967296) text
sized-capped n v text = by_size (small_or_great v)
  where
    by_size : (v ≤ 4294967296) ⊎ (4294967296 < v) → sized_cut n v text ≡ sized_cut n (min v 4294967296) text
    by_size (inl h) = let e : v ≡ min v 4294967296 = omega (arith, h) in ap (λ k. sized_cut n k text) e
    by_size (inr h) =
        let high : 128 < v = omega (arith, h) in
        let e : min v 4294967296 ≡ 4294967296 = omega (arith, h) in
        decimal-is n v text (ap (λ b. begins (codes "'b") text && nat_le 1 v && b && nat_le v (prefix_len is_bit (drop 2 text))) (lt-leb v 128 high) ∙ no-size (begins (codes "'b") text) (nat_le 1 v) (nat_le v (prefix_len is_bit (drop 2 text))))
        ∙ ap (λ t. cut t n) (great-stray v (omega (arith, h)))
        ∙ sym (ap (λ k. sized_cut n k text) e ∙ decimal-is n 4294967296 text (no-size (begins (codes "'b") text) true (nat_le 4294967296 (prefix_len is_bit (drop 2 text)))))

pub digit-cut : {E : Type 0} (first n size : ℕ) (text bytes front back : List ℕ) (result : Result Piece E) → bytes ≡ first ∷ text → (first ≡ 48 → ⊥) → n ≡ prefix_len is_digit text
    → front ≡ take (n + 1) bytes → back ≡ drop (n + 1) bytes → size ≡ min (digits_value 10 front) 4294967296 → IfOk result (λ p. p ≡ piece_of (sized_cut n size back)) → IfOk result (λ p. p ≡ piece_of (digit_cut first text))
digit-cut first n size text bytes front back result whole other is front_is back_is size_is given = subst (λ c. IfOk result (λ p. p ≡ piece_of c)) same given
  where
    same : sized_cut n size back ≡ digit_cut first text
    same =
        ap (λ k. sized_cut n k back) size_is ∙ sym (sized-capped n (digits_value 10 front) back)
        ∙ (λ i. sized_cut n (digits_value 10 (front_is i)) (back_is i))
        ∙ (λ i. sized_cut n (digits_value 10 (take (add-one n i) (whole i))) (drop (add-one n i) (whole i)))
        ∙ (λ i. sized_cut (is i) (digits_value 10 (first ∷ take (is i) text)) (drop (is i) text))
        ∙ sym (ap (λ b. cond b (cut (T.Token.decimal 0) 0) (sized_cut (prefix_len is_digit text) (digits_value 10 (first ∷ take (prefix_len is_digit text) text)) (drop (prefix_len is_digit text) text))) (ne_eqb first 48 other))
