-- Ascending spans, and the numbers in them.
use Rattle.std.proofs.Common.{◌≡◌, ℕ, ◌<◌, ◌≤◌, Bool, true, false, ◌&&◌, ◌||◌, List, [], ◌∷◌, ◌++◌, cond, refl, ap, sym, ◌∙◌, arith}
use Rattle.std.specs.Prelude.{nat_le, nat_lt}
use Rattle.std.proofs.lemmas.Bool.{lt-leb, le-ltb, ltb-true, leb-true, and_left, and_right, and_parts}
use Rattle.bit_sets.specs.declared.span.Span.{Span}
use Rattle.bit_sets.specs.declared.span.Use.{Use}
use Rattle.bit_sets.specs.Sets.{covers, in_spans, Ascending, tokens_at}
use Rattle.bit_sets.specs.Growing.{end_of}

pub or-assoc : (a b c : Bool) → ((a || b) || c) ≡ (a || (b || c))
or-assoc true b c = refl
or-assoc false b c = refl

pub or-false : (a : Bool) → (a || false) ≡ a
or-false true = refl
or-false false = refl

-- the level of each definition
pub in-none : (n : ℕ) → in_spans [] n ≡ false
unfolding in_spans
in-none n = refl

pub in-more : (s : Span) (ss : List Span) (n : ℕ) → in_spans (s ∷ ss) n ≡ (covers s n || in_spans ss n)
unfolding in_spans
in-more s ss n = refl

pub ascending-head : (n : ℕ) (s : Span) (ss : List Span) → Ascending n (s ∷ ss) → n ≤ s.low
unfolding Ascending
ascending-head n s ss h = h.0

pub ascending-some : (n : ℕ) (s : Span) (ss : List Span) → Ascending n (s ∷ ss) → s.low < s.high
unfolding Ascending
ascending-some n s ss h = h.1.0

pub ascending-rest : (n : ℕ) (s : Span) (ss : List Span) → Ascending n (s ∷ ss) → Ascending s.high ss
unfolding Ascending
ascending-rest n s ss h = h.1.1

pub ascending-none : (n : ℕ) → Ascending n []
unfolding Ascending
ascending-none n = tt

pub ascending-from : (n : ℕ) (s : Span) (ss : List Span) → n ≤ s.low → s.low < s.high → Ascending s.high ss → Ascending n (s ∷ ss)
unfolding Ascending
ascending-from n s ss low some rest = (low, (some, rest))

pub end-none : (n : ℕ) → end_of n [] ≡ n
unfolding end_of
end-none n = refl

pub end-more : (n : ℕ) (s : Span) (ss : List Span) → end_of n (s ∷ ss) ≡ end_of s.high ss
unfolding end_of
end-more n s ss = refl

pub tokens-none : (n : ℕ) → tokens_at [] n ≡ []
unfolding tokens_at
tokens-none n = refl

pub tokens-more : (u : Use) (us : List Use) (n : ℕ) → tokens_at (u ∷ us) n ≡ cond (covers u.span n) (u.at ∷ tokens_at us n) (tokens_at us n)
unfolding tokens_at
tokens-more u us n = refl

-- what lies in a span
pub covers-not-low : (s : Span) (k : ℕ) → k < s.low → covers s k ≡ false
covers-not-low s k h = and_left (nat_le s.low k) (nat_lt k s.high) (lt-leb s.low k h)

pub covers-not-high : (s : Span) (k : ℕ) → s.high ≤ k → covers s k ≡ false
covers-not-high s k h = and_right (nat_le s.low k) (nat_lt k s.high) (le-ltb k s.high h)

pub covers-low : (s : Span) (k : ℕ) → covers s k ≡ true → s.low ≤ k
covers-low s k h = leb-true s.low k (and_parts (nat_le s.low k) (nat_lt k s.high) h).0

pub covers-high : (s : Span) (k : ℕ) → covers s k ≡ true → k < s.high
covers-high s k h = ltb-true k s.high (and_parts (nat_le s.low k) (nat_lt k s.high) h).1

-- spans that stand higher stand also above what is lower
pub ascending-lower : (m n : ℕ) (ss : List Span) → m ≤ n → Ascending n ss → Ascending m ss
ascending-lower m n [] h a = ascending-none m
ascending-lower m n (s ∷ ss) h a =
    let low = ascending-head n s ss a in ascending-from m s ss (omega arith) (ascending-some n s ss a) (ascending-rest n s ss a)

pub ascending-head-lower : (m n : ℕ) (s : Span) (ss : List Span) → m ≤ s.low → Ascending n (s ∷ ss) → Ascending m (s ∷ ss)
ascending-head-lower m n s ss h a = ascending-from m s ss h (ascending-some n s ss a) (ascending-rest n s ss a)

-- below them there is nothing
pub below-none : (n k : ℕ) (ss : List Span) → Ascending n ss → k < n → in_spans ss k ≡ false
below-none n k [] a h = in-none k
below-none n k (s ∷ ss) a h =
    let low = ascending-head n s ss a in
    let some = ascending-some n s ss a in
    in-more s ss k ∙ ap (λ b. b || in_spans ss k) (covers-not-low s k (omega arith)) ∙ below-none s.high k ss (ascending-rest n s ss a) (omega arith)

-- a set and a span behind it
pub in-append : (ss ts : List Span) (k : ℕ) → in_spans (ss ++ ts) k ≡ (in_spans ss k || in_spans ts k)
in-append [] ts k = sym (ap (λ b. b || in_spans ts k) (in-none k))
in-append (s ∷ ss) ts k =
    in-more s (ss ++ ts) k ∙ ap (λ b. covers s k || b) (in-append ss ts k) ∙ sym (or-assoc (covers s k) (in_spans ss k) (in_spans ts k))
    ∙ ap (λ b. b || in_spans ts k) (sym (in-more s ss k))

pub in-pushed : (ss : List Span) (s : Span) (k : ℕ) → in_spans (ss ++ s ∷ []) k ≡ (in_spans ss k || covers s k)
in-pushed ss s k = in-append ss (s ∷ []) k ∙ ap (λ b. in_spans ss k || b) (in-more s [] k ∙ ap (λ b. covers s k || b) (in-none k) ∙ or-false (covers s k))

pub ascending-pushed : (n : ℕ) (ss : List Span) (s : Span) → Ascending n ss → end_of n ss ≤ s.low → s.low < s.high → Ascending n (ss ++ s ∷ [])
ascending-pushed n [] s a h some = ascending-from n s [] (let e = end-none n in omega arith) some (ascending-none s.high)
ascending-pushed n (t ∷ ss) s a h some =
    let e = end-more n t ss in
    ascending-from n t (ss ++ s ∷ []) (ascending-head n t ss a) (ascending-some n t ss a) (ascending-pushed t.high ss s (ascending-rest n t ss a) (omega arith) some)

pub end-pushed : (n : ℕ) (ss : List Span) (s : Span) → end_of n (ss ++ s ∷ []) ≡ s.high
end-pushed n [] s = end-more n s [] ∙ end-none s.high
end-pushed n (t ∷ ss) s = end-more n t (ss ++ s ∷ []) ∙ end-pushed t.high ss s

-- a span without numbers
pub covers-none : (low high k : ℕ) → high ≤ low → covers (record { low = low; high = high }) k ≡ false
covers-none low high k h = by (nat_le low k) refl
  where
    by : (b : Bool) → nat_le low k ≡ b → (nat_le low k && nat_lt k high) ≡ false
    by true is = let low_k = leb-true low k is in and_right (nat_le low k) (nat_lt k high) (le-ltb k high (omega arith))
    by false is = and_left (nat_le low k) (nat_lt k high) is

one : (b : Bool) (t : ℕ) (all us vs : List ℕ) → all ≡ us ++ vs → cond b (t ∷ all) all ≡ cond b (t ∷ us) us ++ vs
one true t all us vs is = ap (λ ts. t ∷ ts) is
one false t all us vs is = is

pub tokens-append : (us vs : List Use) (n : ℕ) → tokens_at (us ++ vs) n ≡ tokens_at us n ++ tokens_at vs n
tokens-append [] vs n = sym (ap (λ ts. ts ++ tokens_at vs n) (tokens-none n))
tokens-append (u ∷ us) vs n =
    tokens-more u (us ++ vs) n ∙ one (covers u.span n) u.at (tokens_at (us ++ vs) n) (tokens_at us n) (tokens_at vs n) (tokens-append us vs n)
    ∙ ap (λ ts. ts ++ tokens_at vs n) (sym (tokens-more u us n))

pub tokens-pushed : (us : List Use) (u : Use) (n : ℕ) → tokens_at (us ++ u ∷ []) n ≡ tokens_at us n ++ cond (covers u.span n) (u.at ∷ []) []
tokens-pushed us u n = tokens-append us (u ∷ []) n ∙ ap (λ ts. tokens_at us n ++ ts) (tokens-more u [] n ∙ ap (λ ts. cond (covers u.span n) (u.at ∷ ts) ts) (tokens-none n))
