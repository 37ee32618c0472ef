-- The tokens of a piece that is written.
use Rattle.std.proofs.Common.{◌≡◌, ℕ, zero, suc, ◌+◌, ◌<◌, ◌≤◌, ◌^◌, ◌==◌, Bool, true, false, not, ◌&&◌, List, [], ◌∷◌, ◌++◌, map, take, drop, length, reverse, codes, decimal, get_or, refl, sym, ap, subst, ◌∙◌, append_assoc, le-leb, lt-ltb, arith}
use Rattle.std.specs.Prelude.{nat_le, nat_lt, if◌then◌else◌}
use Rattle.std.specs.List.{prefix_len, list_all}
use Rattle.std.specs.Char.{is_ascii_digit}
use Rattle.std.specs.Str.{all_ascii_digits}
use Rattle.std.specs.Str.Parse.{digits_value}
use Rattle.std.proofs.lemmas.Bool.{and_parts, false≢true, lt-ltb}
use Rattle.std.proofs.lemmas.Bool.Decides.{nat_tests}
use Rattle.std.proofs.lemmas.Fmt.{digits_decimal, digits_value-decimal, first_decimal, decimal_nonempty, decimal_digit}
use Rattle.std.proofs.lemmas.Str.Parse.{IsNumeralModel, numerals_by_value, tells_all_ascii_digits}
use Rattle.std.proofs.lemmas.List.{append-nil, reverse-reverse, length-map, length-append, length-reverse}
use Rattle.b4_core.specs.declared.bit.Bit4.{Bit4}
use Rattle.b4_core.specs.declared.bit.Bit4.TheVariants.{Zero, One, X, Z}
use Rattle.v_tree.specs.Reserved.{is_reserved}
use Rattle.v_tree.specs.Tokens.{begins, Token, Cut, gap, cut, tokens, tokens_from, first_cut, is_digit, is_letter, is_word, is_bit, bit_of, named, word_cut, sized_cut, decimal_token, is_printable, escaped_cut, is_name, is_simple}
use Rattle.v_writer.specs.Layout.{spelling, bit_digit}

pub pick_true : {A : Type 0} (b : Bool) (x y : A) → b ≡ true → (if b then x else y) ≡ x
pick_true true x y e = refl
pick_true false x y e = absurd (false≢true e)

pub pick_false : {A : Type 0} (b : Bool) (x y : A) → b ≡ false → (if b then x else y) ≡ y
pick_false true x y e = absurd (false≢true (sym e))
pick_false false x y e = refl

pub not_true : (b : Bool) → not b ≡ true → b ≡ false
not_true true e = absurd (false≢true e)
not_true false e = refl

-- the tokens of a text by what it begins with
abbrev pub told : Cut → List ℕ → List Token
told (gap n) text = tokens_from n text
told (cut t n) text = t ∷ tokens_from n text

pub is-told : (k : Cut) (text : List ℕ) → elim k [ gap n ↦ tokens_from n text | cut t n ↦ t ∷ tokens_from n text ] ≡ told k text
is-told (gap n) text = refl
is-told (cut t n) text = refl

skip : (word rest : List ℕ) → tokens_from (length word) (word ++ rest) ≡ tokens rest
skip [] rest = refl
skip (c ∷ word) rest = skip word rest

-- a token is read where it is the first cut
cut-step : (c : ℕ) (word rest : List ℕ) (t : Token) (n : ℕ) → first_cut c (word ++ rest) ≡ cut t n → n ≡ length word
    → tokens ((c ∷ word) ++ rest) ≡ t ∷ tokens rest
cut-step c word rest t n e l =
    is-told (first_cut c (word ++ rest)) (word ++ rest) ∙ ap (λ k. told k (word ++ rest)) e
    ∙ ap (λ k. t ∷ tokens_from k (word ++ rest)) l ∙ ap (λ ts. t ∷ ts) (skip word rest)

-- The text begins with a byte that ends a name or a number.
pub record Ends (text : List ℕ) : Type 0 where
  pub byte : ℕ
  pub behind : List ℕ
  pub is_text : text ≡ byte ∷ behind
  pub no_word : is_word byte ≡ false
  pub no_tick : (39 == byte) ≡ false

pub run-length : (test : ℕ → Bool) (word behind : List ℕ) (b : ℕ) → list_all test word ≡ true → test b ≡ false
    → prefix_len test (word ++ (b ∷ behind)) ≡ length word
run-length test [] behind b e n = pick_false (test b) (1 + prefix_len test behind) 0 n
run-length test (c ∷ word) behind b e n =
    let parts = and_parts _ _ e in
    let more = run-length test word behind b parts.1 n in
    pick_true (test c) (1 + prefix_len test (word ++ (b ∷ behind))) 0 parts.0 ∙ omega (arith, more)

pub take-front : (xs ys : List ℕ) → take (length xs) (xs ++ ys) ≡ xs
take-front [] ys = refl
take-front (x ∷ xs) ys = ap (λ zs. x ∷ zs) (take-front xs ys)

pub drop-front : (xs ys : List ℕ) → drop (length xs) (xs ++ ys) ≡ ys
drop-front [] ys = refl
drop-front (x ∷ xs) ys = drop-front xs ys

-- a word is read whole, as the token that it is
word-token : (c : ℕ) (n rest : List ℕ) (t : Token) → is_letter c ≡ true → list_all is_word n ≡ true → named (c ∷ n) ≡ t → Ends rest
    → tokens ((c ∷ n) ++ rest) ≡ t ∷ tokens rest
word-token c n rest t first others is ends =
    let run : prefix_len is_word (n ++ rest) ≡ length n =
    subst (λ r. prefix_len is_word (n ++ r) ≡ length n) (sym ends.is_text) (run-length is_word n ends.behind ends.byte others ends.no_word) in
    let whole : word_cut c (n ++ rest) ≡ cut t (prefix_len is_word (n ++ rest)) =
    ap (λ k. cut (named (c ∷ take k (n ++ rest))) (prefix_len is_word (n ++ rest))) run
    ∙ ap (λ w. cut (named (c ∷ w)) (prefix_len is_word (n ++ rest))) (take-front n rest)
    ∙ ap (λ u. cut u (prefix_len is_word (n ++ rest))) is in
    cut-step c n rest t (prefix_len is_word (n ++ rest)) (pick_true (is_letter c) _ _ first ∙ whole) run

-- a simple name
pub name-read : (n rest : List ℕ) → is_simple n ≡ true → Ends rest → tokens (n ++ rest) ≡ Token.name n ∷ tokens rest
name-read [] rest e ends = absurd (false≢true e)
name-read (c ∷ n) rest e ends =
    let parts = and_parts (is_letter c && list_all is_word n) (not (is_reserved (c ∷ n))) e in
    let first = and_parts (is_letter c) (list_all is_word n) parts.0 in
    word-token c n rest (Token.name (c ∷ n)) first.0 first.1
    (pick_false (is_reserved (c ∷ n)) (Token.word (c ∷ n)) (Token.name (c ∷ n)) (not_true _ parts.1)) ends

-- an escaped identifier with its space
not-printable : is_printable 32 ≡ false
not-printable = refl

pub escaped-read : (n rest : List ℕ) → is_name n ≡ true → tokens ((92 ∷ (n ++ 32 ∷ [])) ++ rest) ≡ Token.name n ∷ tokens rest
escaped-read [] rest e = absurd (false≢true e)
escaped-read (c ∷ n) rest e =
    let name = c ∷ n in
    let text = name ++ 32 ∷ rest in
    let run : prefix_len is_printable text ≡ length name = run-length is_printable name rest 32 e not-printable in
    let first : escaped_cut text ≡ cut (Token.name name) (suc (length name)) =
    ap (λ k. if nat_lt 0 k && begins (codes " ") (drop k text) then cut (Token.name (take k text)) (suc k) else cut Token.stray 0) run
    ∙ ap (λ b. if b && begins (codes " ") (drop (length name) text) then cut (Token.name (take (length name) text)) (suc (length name)) else cut Token.stray 0)
    (lt-ltb 0 (length name) (omega arith))
    ∙ ap (λ w. if true && begins (codes " ") w then cut (Token.name (take (length name) text)) (suc (length name)) else cut Token.stray 0) (drop-front name (32 ∷ rest))
    ∙ ap (λ w. cut (Token.name w) (suc (length name))) (take-front name (32 ∷ rest)) in
    let long : length (name ++ 32 ∷ []) ≡ suc (length name) = let both = length-append name (32 ∷ []) in omega (arith, both) in
    cut-step 92 (name ++ 32 ∷ []) rest (Token.name name) (suc (length name)) (ap escaped_cut (append_assoc name (32 ∷ []) rest) ∙ first) (sym long)

-- a reserved word
abbrev pub is_keyword : List ℕ → Bool
is_keyword [] = false
is_keyword (c ∷ n) = is_letter c && list_all is_word n && is_reserved (c ∷ n)

pub keyword-read : (n rest : List ℕ) → is_keyword n ≡ true → Ends rest → tokens (n ++ rest) ≡ Token.word n ∷ tokens rest
keyword-read [] rest e ends = absurd (false≢true e)
keyword-read (c ∷ n) rest e ends =
    let parts = and_parts (is_letter c && list_all is_word n) (is_reserved (c ∷ n)) e in
    let first = and_parts (is_letter c) (list_all is_word n) parts.0 in
    word-token c n rest (Token.word (c ∷ n)) first.0 first.1
    (pick_true (is_reserved (c ∷ n)) (Token.word (c ∷ n)) (Token.name (c ∷ n)) parts.1) ends

-- the digits of a positive number
pub all-digits : (ds : List ℕ) → all_ascii_digits ds ≡ true → list_all is_digit ds ≡ true
all-digits [] e = refl
all-digits (c ∷ ds) e =
    let parts = and_parts (is_ascii_digit c) (all_ascii_digits ds) e in
    (λ i. parts.0 i && all-digits ds parts.1 i)

pub own : IsNumeralModel (λ ds. all_ascii_digits ds ≡ true) (digits_value 10)
own = numerals_by_value (λ ds. all_ascii_digits ds ≡ true) tells_all_ascii_digits

-- a digit is no letter
digit-letter : (c : ℕ) → is_digit c ≡ true → is_letter c ≡ false
digit-letter c e = grind (arith, nat_tests)

no-zero : (c : ℕ) → 48 < c → (c == 48) ≡ false
no-zero c h = grind (arith, nat_tests)

-- what is cut where digits begin
digit-cut : (n d : ℕ) (ds tail behind : List ℕ) (b : ℕ) → 0 < n → n < 2 ^ 64 → decimal n ≡ d ∷ ds → tail ≡ b ∷ behind → is_digit b ≡ false
    → first_cut d (ds ++ tail) ≡ sized_cut (length ds) n tail
digit-cut n d ds tail behind b pos small e begin stop =
    let good : list_all is_digit (d ∷ ds) ≡ true = subst (λ w. list_all is_digit w ≡ true) e (all-digits (decimal n) (digits_decimal own n small)) in
    let parts = and_parts (is_digit d) (list_all is_digit ds) good in
    let value : digits_value 10 (d ∷ ds) ≡ n = subst (λ w. digits_value 10 w ≡ n) e (digits_value-decimal own n small) in
    let big : 48 < d = subst (λ w. 48 < get_or w 0 0) e (first_decimal n pos small) in
    let run : prefix_len is_digit (ds ++ tail) ≡ length ds =
    subst (λ r. prefix_len is_digit (ds ++ r) ≡ length ds) (sym begin) (run-length is_digit ds behind b parts.1 stop) in
    pick_false (is_letter d) _ _ (digit-letter d parts.0)
    ∙ pick_true (is_digit d) _ _ parts.0
    ∙ pick_false (d == 48) (cut (Token.decimal 0) 0) _ (no-zero d big)
    ∙ ap (λ m. sized_cut m (digits_value 10 (d ∷ take m (ds ++ tail))) (drop m (ds ++ tail))) run
    ∙ ap (λ w. sized_cut (length ds) (digits_value 10 (d ∷ w)) (drop (length ds) (ds ++ tail))) (take-front ds tail)
    ∙ ap (λ v. sized_cut (length ds) v (drop (length ds) (ds ++ tail))) value
    ∙ ap (λ r. sized_cut (length ds) n r) (drop-front ds tail)

-- a token that begins with a number
digits-read : (n d : ℕ) (ds word rest behind : List ℕ) (b : ℕ) (t : Token) (k : ℕ) → 0 < n → n < 2 ^ 64 → decimal n ≡ d ∷ ds
    → word ++ rest ≡ b ∷ behind → is_digit b ≡ false → sized_cut (length ds) n (word ++ rest) ≡ cut t k → k ≡ length (ds ++ word)
    → tokens ((decimal n ++ word) ++ rest) ≡ t ∷ tokens rest
digits-read n d ds word rest behind b t k pos small e begin stop h l =
    ap (λ w. tokens ((w ++ word) ++ rest)) e
    ∙ cut-step d (ds ++ word) rest t k
    (ap (first_cut d) (append_assoc ds word rest) ∙ digit-cut n d ds (word ++ rest) behind b pos small e begin stop ∙ h) l

pub split : (xs : List ℕ) → 0 < length xs → (x : ℕ) × (ys : List ℕ) × (xs ≡ x ∷ ys)
split [] h = absurd (omega arith)
split (x ∷ xs) h = (x, xs, refl)

no-digit : (b : ℕ) → is_word b ≡ false → is_digit b ≡ false
no-digit b e = grind (arith, nat_tests)

no-size : (n k c : ℕ) (behind : List ℕ) → (39 == c) ≡ false → sized_cut k n (c ∷ behind) ≡ cut (decimal_token n) k
no-size n k c behind e =
    ap (λ b. if b && begins (codes "b") behind && nat_le 1 n && nat_le n 128 && nat_le n (prefix_len is_bit (drop 1 behind))
    then cut (Token.number (reverse (map bit_of (take n (drop 1 behind))))) (k + (2 + n)) else cut (decimal_token n) k) e

small-token : (n : ℕ) → n < 2 ^ 32 → decimal_token n ≡ Token.decimal n
small-token n h = ap (λ b. if b then Token.decimal n else Token.stray) (lt-ltb n 4294967296 (omega (arith, h)))

wide : (n : ℕ) → n < 2 ^ 32 → n < 2 ^ 64
wide n h = omega (arith, h)

pub decimal-read : (n : ℕ) (rest : List ℕ) → n < 2 ^ 32 → Ends rest → tokens (decimal n ++ rest) ≡ Token.decimal n ∷ tokens rest
decimal-read zero rest small ends = ap (λ w. tokens (w ++ rest)) (decimal_digit 0 (omega arith))
decimal-read (suc n) rest low ends =
    let small = wide (suc n) low in
    let cut_up = split (decimal (suc n)) (decimal_nonempty (suc n) small) in
    ap (λ w. tokens (w ++ rest)) (sym (append-nil (decimal (suc n))))
    ∙ digits-read (suc n) cut_up.0 cut_up.1 [] rest ends.behind ends.byte (Token.decimal (suc n)) (length cut_up.1) (omega arith) small cut_up.2
    ends.is_text (no-digit ends.byte ends.no_word)
    (ap (sized_cut (length cut_up.1) (suc n)) ends.is_text ∙ no-size (suc n) (length cut_up.1) ends.byte ends.behind ends.no_tick
    ∙ ap (λ t. cut t (length cut_up.1)) (small-token (suc n) low))
    (ap length (sym (append-nil cut_up.1)))

-- the digits of a vector
bit-digits : (bits : List Bit4) → list_all is_bit (map bit_digit bits) ≡ true
bit-digits [] = refl
bit-digits (Zero ∷ bits) = bit-digits bits
bit-digits (One ∷ bits) = bit-digits bits
bit-digits (X ∷ bits) = bit-digits bits
bit-digits (Z ∷ bits) = bit-digits bits

bits-back : (bits : List Bit4) → map bit_of (map bit_digit bits) ≡ bits
bits-back [] = refl
bits-back (Zero ∷ bits) = ap (λ bs. Zero ∷ bs) (bits-back bits)
bits-back (One ∷ bits) = ap (λ bs. One ∷ bs) (bits-back bits)
bits-back (X ∷ bits) = ap (λ bs. X ∷ bs) (bits-back bits)
bits-back (Z ∷ bits) = ap (λ bs. Z ∷ bs) (bits-back bits)

run-most : (test : ℕ → Bool) (word rest : List ℕ) → list_all test word ≡ true → length word ≤ prefix_len test (word ++ rest)
run-most test [] rest e = omega arith
run-most test (c ∷ word) rest e =
    let parts = and_parts (test c) (list_all test word) e in
    let more = run-most test word rest parts.1 in
    let step = pick_true (test c) (1 + prefix_len test (word ++ rest)) 0 parts.0 in
    omega (arith, more, step)

all-four : (a b c d : Bool) → a ≡ true → b ≡ true → c ≡ true → d ≡ true → (((a && b) && c) && d) ≡ true
all-four a b c d p q r s = (λ i. ((p i && q i) && r i) && s i)

number-cut : (bits : List Bit4) (k : ℕ) (m rest : List ℕ) → m ≡ map bit_digit (reverse bits) → length m ≡ length bits → 0 < length bits → length bits ≤ 128
    → sized_cut k (length bits) (39 ∷ 98 ∷ (m ++ rest)) ≡ cut (Token.number bits) (k + (2 + length bits))
number-cut bits k m rest e l pos small =
    let enough = run-most is_bit m rest (ap (list_all is_bit) e ∙ bit-digits (reverse bits)) in
    pick_true (((true && nat_le 1 (length bits)) && nat_le (length bits) 128) && nat_le (length bits) (prefix_len is_bit (m ++ rest)))
    (cut (Token.number (reverse (map bit_of (take (length bits) (m ++ rest))))) (k + (2 + length bits))) (cut (decimal_token (length bits)) k)
    (all-four true (nat_le 1 (length bits)) (nat_le (length bits) 128) (nat_le (length bits) (prefix_len is_bit (m ++ rest))) refl
    (le-leb 1 (length bits) (omega arith)) (le-leb (length bits) 128 small) (le-leb (length bits) _ (omega (arith, enough, l))))
    ∙ ap (λ j. cut (Token.number (reverse (map bit_of (take j (m ++ rest))))) (k + (2 + length bits))) (sym l)
    ∙ ap (λ w. cut (Token.number (reverse (map bit_of w))) (k + (2 + length bits))) (take-front m rest ∙ e)
    ∙ ap (λ bs. cut (Token.number (reverse bs)) (k + (2 + length bits))) (bits-back (reverse bits))
    ∙ ap (λ bs. cut (Token.number bs) (k + (2 + length bits))) (reverse-reverse bits)

pub number-read : (bits : List Bit4) (rest : List ℕ) → 0 < length bits → length bits ≤ 128
    → tokens (spelling (Token.number bits) ++ rest) ≡ Token.number bits ∷ tokens rest
number-read bits rest pos small =
    let n = length bits in
    let m = map bit_digit (reverse bits) in
    let low : length bits < 2 ^ 64 = omega arith in
    let l : length m ≡ length bits = length-map (reverse bits) bit_digit ∙ length-reverse bits in
    let cut_up = split (decimal n) (decimal_nonempty n low) in
    digits-read n cut_up.0 cut_up.1 (39 ∷ 98 ∷ m) rest (98 ∷ (m ++ rest)) 39 (Token.number bits) (length cut_up.1 + (2 + n)) pos low cut_up.2 refl refl
    (number-cut bits (length cut_up.1) m rest refl l pos small)
    (let both = length-append cut_up.1 (39 ∷ 98 ∷ m) in omega (arith, both, l))
