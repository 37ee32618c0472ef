-- Decimal numbers, digit by digit.
use Rattle.std.proofs.Common.{◌≡◌, ℕ, ◌+◌, ◌*◌, ◌%◌, ◌^◌, ◌<◌, ◌≤◌, min, List, [], ◌∷◌, length, get_or, drop, sym, ◌∙◌, arith, drop-cons}
use Rattle.std.specs.Prelude.{pos}
use Rattle.b4_core.specs.Vectors.{digits, vec}
use Rattle.b4_core.proofs.Digits.{digits_word, digits_remainder}
use Rattle.expr_type.specs.Literals.{number_from, digit_value}

-- what is kept of a number that is too large
pub kept : (a b : ℕ) (cs : List ℕ) → min a 4294967296 ≡ min b 4294967296 → min (number_from a cs) 4294967296 ≡ min (number_from b cs) 4294967296
kept a b [] e = e
kept a b (c ∷ cs) e = kept (10 * a + digit_value c) (10 * b + digit_value c) cs (omega arith)

pub capped-turn : (ds : List ℕ) (i n : ℕ) (c : ℕ) → i < length ds → get_or ds i 0 ≡ c
    → min (number_from (min (10 * n + digit_value c) 4294967296) (drop (i + 1) ds)) 4294967296 ≡ min (number_from n (drop i ds)) 4294967296
capped-turn ds i n c h e =
    let s : drop i ds ≡ c ∷ drop (i + 1) ds = grind (arith, drop-cons ds i 0) in
    rw s (kept (min (10 * n + digit_value c) 4294967296) (10 * n + digit_value c) (drop (i + 1) ds) (omega arith))

pub ruleset capped = (capped-turn)

-- the remainder of a number by 2 to the 128
pub wraps : (a b : ℕ) (cs : List ℕ) → a % 2 ^ 128 ≡ b % 2 ^ 128 → number_from a cs % 2 ^ 128 ≡ number_from b cs % 2 ^ 128
wraps a b [] e = e
wraps a b (c ∷ cs) e = wraps (10 * a + digit_value c) (10 * b + digit_value c) cs (omega arith)

pub wrapped-turn : (ds : List ℕ) (i n : ℕ) (c : ℕ) → i < length ds → get_or ds i 0 ≡ c
    → number_from ((n * 10 % 2 ^ 128 + digit_value c) % 2 ^ 128) (drop (i + 1) ds) % 2 ^ 128 ≡ number_from n (drop i ds) % 2 ^ 128
wrapped-turn ds i n c h e =
    let s : drop i ds ≡ c ∷ drop (i + 1) ds = grind (arith, drop-cons ds i 0) in
    rw s (wraps ((n * 10 % 2 ^ 128 + digit_value c) % 2 ^ 128) (10 * n + digit_value c) (drop (i + 1) ds) (omega arith))

pub ruleset wrapped = (wrapped-turn)

-- the lowest bits of a word are those of the whole number
pub word-vector : (w n : ℕ) → w ≤ 128 → digits w (n % 2 ^ 128) ≡ vec w (pos n)
word-vector w n h = digits_word w n h ∙ sym (digits_remainder w n)

pub ruleset vectors = (word-vector)
