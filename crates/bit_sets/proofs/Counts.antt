-- How many numbers a set holds.
use Rattle.std.proofs.Common.{◌≡◌, ℕ, zero, suc, ◌+◌, ◌-◌, ◌<◌, ◌≤◌, Bool, true, false, ◌&&◌, ◌||◌, List, [], ◌∷◌, length, drop, slice_index_or, refl, ap, sym, ◌∙◌, arith}
use Rattle.std.specs.Prelude.{cond, nat_lt}
use Rattle.std.proofs.lemmas.Bool.{le-leb, lt-ltb}
use Rattle.bit_sets.specs.declared.span.Span.{Span}
use Rattle.bit_sets.specs.Sets.{covers, in_spans, Ascending, count_from}
use Rattle.bit_sets.specs.Growing.{end_of}
use Rattle.bit_sets.proofs.Laws as L
use Rattle.bit_sets.proofs.Steps as S

-- the numbers of each span together
abbrev pub total : List Span → ℕ
total [] = 0
total (s ∷ ss) = (s.high - s.low) + total ss

pub count-zero : (f : ℕ → Bool) (k : ℕ) → count_from f k zero ≡ 0
unfolding count_from
count-zero f k = refl

pub count-more : (f : ℕ → Bool) (k w : ℕ) → count_from f k (suc w) ≡ cond (f k) (suc (count_from f (suc k) w)) (count_from f (suc k) w)
unfolding count_from
count-more f k w = refl

-- what is said of the numbers from k on, w of them
abbrev pub Between : ℕ → ℕ → (ℕ → Type 0) → Type 0
Between k w P = (j : ℕ) → k ≤ j → j < k + w → P j

pub count-same : (f g : ℕ → Bool) (k w : ℕ) → Between k w (λ j. f j ≡ g j) → count_from f k w ≡ count_from g k w
count-same f g k zero h = count-zero f k ∙ sym (count-zero g k)
count-same f g k (suc w) h =
    let rest = count-same f g (suc k) w (λ j low high. h j (omega (arith, low)) (omega (arith, high))) in
    count-more f k w ∙ ap (λ b. cond b (suc (count_from f (suc k) w)) (count_from f (suc k) w)) (h k (omega arith) (omega arith)) ∙ ap (λ c. cond (g k) (suc c) c) rest
    ∙ sym (count-more g k w)

pub count-none : (f : ℕ → Bool) (k w : ℕ) → Between k w (λ j. f j ≡ false) → count_from f k w ≡ 0
count-none f k zero h = count-zero f k
count-none f k (suc w) h =
    count-more f k w ∙ ap (λ b. cond b (suc (count_from f (suc k) w)) (count_from f (suc k) w)) (h k (omega arith) (omega arith))
    ∙ count-none f (suc k) w (λ j low high. h j (omega (arith, low)) (omega (arith, high)))

pub count-all : (f : ℕ → Bool) (k w : ℕ) → Between k w (λ j. f j ≡ true) → count_from f k w ≡ w
count-all f k zero h = count-zero f k
count-all f k (suc w) h =
    count-more f k w ∙ ap (λ b. cond b (suc (count_from f (suc k) w)) (count_from f (suc k) w)) (h k (omega arith) (omega arith))
    ∙ ap suc (count-all f (suc k) w (λ j low high. h j (omega (arith, low)) (omega (arith, high))))

count-step : (b : Bool) (c x y : ℕ) → c ≡ x + y → cond b (suc c) c ≡ cond b (suc x) x + y
count-step true c x y is = omega (arith, is)
count-step false c x y is = is

pub count-split : (f : ℕ → Bool) (k a b : ℕ) → count_from f k (a + b) ≡ count_from f k a + count_from f (k + a) b
count-split f k zero b =
    let none = count-zero f k in
    let same : count_from f (k + 0) b ≡ count_from f k b = ap (λ j. count_from f j b) (omega arith) in
    let all : count_from f k (0 + b) ≡ count_from f k b = ap (count_from f k) (omega arith) in
    all ∙ omega (arith, none, same)
count-split f k (suc a) b =
    let at : count_from f (suc k + a) b ≡ count_from f (k + suc a) b = ap (λ j. count_from f j b) (omega arith) in
    let go = count-split f (suc k) a b in
    ap (count_from f k) (omega arith) ∙ count-more f k (a + b) ∙ count-step (f k) (count_from f (suc k) (a + b)) (count_from f (suc k) a) (count_from f (k + suc a) b) (go ∙ ap (λ c. count_from f (suc k) a + c) at)
    ∙ ap (λ c. c + count_from f (k + suc a) b) (sym (count-more f k a))

pub none-in : (k n w : ℕ) (ss : List Span) → Ascending n ss → k + w ≤ n → count_from (in_spans ss) k w ≡ 0
none-in k n w ss a h = count-none (in_spans ss) k w (λ j low high. L.below-none n j ss a (omega (arith, high)))

-- the end of a set lies at or behind its beginning
pub end-behind : (m : ℕ) (ss : List Span) → Ascending m ss → m ≤ end_of m ss
end-behind m [] a = let e = L.end-none m in omega (arith, e)
end-behind m (s ∷ ss) a =
    let low = L.ascending-head m s ss a in
    let some = L.ascending-some m s ss a in
    let rest = end-behind s.high ss (L.ascending-rest m s ss a) in
    let e = L.end-more m s ss in omega (arith, low, some, rest, e)

covers-inside : (s : Span) (k : ℕ) → s.low ≤ k → k < s.high → covers s k ≡ true
covers-inside s k a b = ap (λ x. x && nat_lt k s.high) (le-leb s.low k a) ∙ lt-ltb k s.high b

-- the numbers of a set, from any number on that it begins at or behind
pub counted : (m w : ℕ) (ss : List Span) → Ascending m ss → end_of m ss ≤ m + w → total ss ≡ count_from (in_spans ss) m w
counted m w [] a h = sym (count-none (in_spans []) m w (λ j low high. L.in-none j))
counted m w (s ∷ ss) a h =
    let low = L.ascending-head m s ss a in
    let some = L.ascending-some m s ss a in
    let rest = L.ascending-rest m s ss a in
    let e = L.end-more m s ss in
    let far = end-behind s.high ss rest in
    let f : ℕ → Bool = in_spans (s ∷ ss) in
    let before = s.low - m in
    let own = s.high - s.low in
    let left = (m + w) - s.high in
    let parts : w ≡ before + (own + left) = omega (arith, low, some, e, far, h) in
    let go = counted s.high left ss rest (omega (arith, e, far, h)) in
    let first : count_from f m before ≡ 0 = count-none f m before (λ j from to. L.below-none s.low j (s ∷ ss) (L.ascending-head-lower s.low m s ss (omega arith) a) (omega (arith, to, low))) in
    let second : count_from f s.low own ≡ own = count-all f s.low own (λ j from to. L.in-more s ss j ∙ ap (λ b. b || in_spans ss j) (covers-inside s j from (omega (arith, to, some)))) in
    let third : count_from f s.high left ≡ count_from (in_spans ss) s.high left = count-same f (in_spans ss) s.high left (λ j from to. L.in-more s ss j ∙ ap (λ b. b || in_spans ss j) (L.covers-not-high s j from)) in
    let cut : count_from f m w ≡ count_from f m before + (count_from f s.low own + count_from f s.high left) =
    ap (count_from f m) parts ∙ count-split f m before (own + left)
    ∙ ap (λ c. count_from f m before + c)
    (ap (λ k. count_from f k (own + left)) (omega (arith, low)) ∙ count-split f s.low own left ∙ ap (λ k. count_from f s.low own + count_from f k left) (omega (arith, some))) in
    omega (arith, first, second, third, cut, go)

-- a span goes from the list to what has been counted
pub counted-on : (m i : ℕ) (xs : List Span) (d : Span) → i < length xs → Ascending m (drop i xs) → Ascending (m + ((slice_index_or xs i d).high - (slice_index_or xs i d).low)) (drop (i + 1) xs)
counted-on m i xs d h a =
    let s = slice_index_or xs i d in
    let low = S.low-at m i xs d h a in
    let some = S.some-at m i xs d h a in
    L.ascending-lower (m + (s.high - s.low)) s.high (drop (i + 1) xs) (omega (arith, low, some)) (S.rest-at m i xs d h a)

pub total-at : (i : ℕ) (xs : List Span) (d : Span) → i < length xs → total (drop i xs) ≡ ((slice_index_or xs i d).high - (slice_index_or xs i d).low) + total (drop (i + 1) xs)
total-at i xs d h = ap total (S.at-front xs i d h)

pub total-past : (i : ℕ) (xs : List Span) → length xs ≤ i → total (drop i xs) ≡ 0
total-past i xs h = ap total (S.none-left xs i h)
