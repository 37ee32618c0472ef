-- From span to span.
use Rattle.std.proofs.Common.{◌≡◌, ℕ, zero, suc, ◌+◌, ◌<◌, ◌≤◌, max, min, Bool, true, false, ◌&&◌, ◌||◌, ◌⊎◌, inl, inr, List, [], ◌∷◌, length, drop, slice_index_or, refl, ap, sym, ◌∙◌, subst, arith}
use Rattle.std.proofs.Math.Seq.{drop-cons}
use Rattle.std.proofs.Math.Numerals.{add-one}
use Rattle.std.specs.Prelude.{nat_le, nat_lt}
use Rattle.std.proofs.lemmas.Bool.{le-leb, lt-ltb, ltb-true, leb-true, and_left, and_right, both_ways}
use Rattle.bit_sets.specs.declared.span.Span.{Span}
use Rattle.bit_sets.specs.Sets.{covers, in_spans, Ascending}
use Rattle.bit_sets.specs.Growing.{EndsBefore}
use Rattle.bit_sets.proofs.Laws as L

-- what stands at a place, and what is behind it
pub at-front : {A : Type 0} (xs : List A) (i : ℕ) (d : A) → i < length xs → drop i xs ≡ slice_index_or xs i d ∷ drop (i + 1) xs
at-front xs i d h = drop-cons xs i d h ∙ ap (λ k. slice_index_or xs i d ∷ drop k xs) (sym (add-one i))

pub low-at : (n i : ℕ) (xs : List Span) (d : Span) → i < length xs → Ascending n (drop i xs) → n ≤ (slice_index_or xs i d).low
low-at n i xs d h a = L.ascending-head n (slice_index_or xs i d) (drop (i + 1) xs) (subst (Ascending n) (at-front xs i d h) a)

pub some-at : (n i : ℕ) (xs : List Span) (d : Span) → i < length xs → Ascending n (drop i xs) → (slice_index_or xs i d).low < (slice_index_or xs i d).high
some-at n i xs d h a = L.ascending-some n (slice_index_or xs i d) (drop (i + 1) xs) (subst (Ascending n) (at-front xs i d h) a)

pub rest-at : (n i : ℕ) (xs : List Span) (d : Span) → i < length xs → Ascending n (drop i xs) → Ascending (slice_index_or xs i d).high (drop (i + 1) xs)
rest-at n i xs d h a = L.ascending-rest n (slice_index_or xs i d) (drop (i + 1) xs) (subst (Ascending n) (at-front xs i d h) a)

-- the rest stands above any number that the span begins above
pub rest-lower : (m n i : ℕ) (xs : List Span) (d : Span) → i < length xs → m ≤ (slice_index_or xs i d).low → Ascending n (drop i xs) → Ascending m (drop (i + 1) xs)
rest-lower m n i xs d h low a =
    let some = some-at n i xs d h a in L.ascending-lower m (slice_index_or xs i d).high (drop (i + 1) xs) (omega arith) (rest-at n i xs d h a)

pub lower-at : (m n i : ℕ) (xs : List Span) (d : Span) → i < length xs → m ≤ (slice_index_or xs i d).low → Ascending n (drop i xs) → Ascending m (drop i xs)
lower-at m n i xs d h low a =
    subst (Ascending m) (sym (at-front xs i d h)) (L.ascending-head-lower m n (slice_index_or xs i d) (drop (i + 1) xs) low (subst (Ascending n) (at-front xs i d h) a))

pub in-at : (i k : ℕ) (xs : List Span) (d : Span) → i < length xs → in_spans (drop i xs) k ≡ (covers (slice_index_or xs i d) k || in_spans (drop (i + 1) xs) k)
in-at i k xs d h = ap (λ ys. in_spans ys k) (at-front xs i d h) ∙ L.in-more (slice_index_or xs i d) (drop (i + 1) xs) k

pub none-left : {A : Type 0} (xs : List A) (i : ℕ) → length xs ≤ i → drop i xs ≡ []
none-left [] zero h = refl
none-left [] (suc i) h = refl
none-left (x ∷ xs) zero h = absurd (omega (arith, h))
none-left (x ∷ xs) (suc i) h = none-left xs i (omega (arith, h))

pub ascending-past : (n i : ℕ) (xs : List Span) → length xs ≤ i → Ascending n (drop i xs)
ascending-past n i xs h = subst (Ascending n) (sym (none-left xs i h)) (L.ascending-none n)

pub in-past : (i k : ℕ) (xs : List Span) → length xs ≤ i → in_spans (drop i xs) k ≡ false
in-past i k xs h = ap (λ ys. in_spans ys k) (none-left xs i h) ∙ L.in-none k

-- a span goes from a list to what is grown
pub moved : (g g' a c r t : Bool) → g' ≡ (g || c) → a ≡ (c || r) → (g || a) ≡ t → (g' || r) ≡ t
moved g g' a c r t new at before = ap (λ b. b || r) new ∙ L.or-assoc g c r ∙ ap (λ b. g || b) (sym at) ∙ before

pub moved-left : (g g' a c r b t : Bool) → g' ≡ (g || c) → a ≡ (c || r) → (g || (a || b)) ≡ t → (g' || (r || b)) ≡ t
moved-left g g' a c r b t new at before =
    ap (λ x. x || (r || b)) new ∙ L.or-assoc g c (r || b) ∙ ap (λ x. g || x) (sym (L.or-assoc c r b) ∙ ap (λ x. x || b) (sym at)) ∙ before

or-comm : (a b : Bool) → (a || b) ≡ (b || a)
or-comm true true = refl
or-comm true false = refl
or-comm false true = refl
or-comm false false = refl

pub moved-right : (g g' a c r b t : Bool) → g' ≡ (g || c) → b ≡ (c || r) → (g || (a || b)) ≡ t → (g' || (a || r)) ≡ t
moved-right g g' a c r b t new at before =
    ap (λ x. g' || x) (or-comm a r) ∙ moved-left g g' b c r a t new at (ap (λ x. g || x) (or-comm b a) ∙ before)

-- all spans up to one end below a number
pub ended : (m n i k : ℕ) (xs : List Span) (d : Span) → Ascending m xs → i < length xs → (slice_index_or xs i d).high ≤ n → n ≤ k → in_spans xs k ≡ in_spans (drop (i + 1) xs) k
ended m n i k [] d a h low at = absurd (omega (arith, h))
ended m n zero k (x ∷ xs) d a h low at = L.in-more x xs k ∙ ap (λ b. b || in_spans xs k) (L.covers-not-high x k (omega (arith, low, at)))
ended m n (suc i) k (x ∷ xs) d a h low at =
    let s = slice_index_or xs i d in
    let below = behind x.high i xs d (L.ascending-rest m x xs a) (omega (arith, h)) in
    L.in-more x xs k ∙ ap (λ b. b || in_spans xs k) (L.covers-not-high x k (omega (arith, below, low, at)))
    ∙ ended x.high n i k xs d (L.ascending-rest m x xs a) (omega (arith, h)) low at
    ∙ ap (λ j. in_spans (drop j xs) k) (add-one i) ∙ ap (λ j. in_spans (drop j (x ∷ xs)) k) (sym (add-one (suc i)))
  where
    behind : (m i : ℕ) (xs : List Span) (d : Span) → Ascending m xs → i < length xs → m < (slice_index_or xs i d).high
    behind m i [] d a h = absurd (omega (arith, h))
    behind m zero (x ∷ xs) d a h =
        let low = L.ascending-head m x xs a in
        let some = L.ascending-some m x xs a in omega (arith, low, some)
    behind m (suc i) (x ∷ xs) d a h =
        let low = L.ascending-head m x xs a in
        let some = L.ascending-some m x xs a in
        let rest = behind x.high i xs d (L.ascending-rest m x xs a) (omega (arith, h)) in omega (arith, low, some, rest)

-- two spans and what is behind them
pub both-none : (b : Bool) → (b && false) ≡ false
both-none true = refl
both-none false = refl

-- where the first of two spans ends first, all that it has in common with the other list is what it has in common with the span
pub meets : (o o' c d r q t : Bool) → o' ≡ (o || (c && d)) → (c ≡ true → q ≡ false) → (o || ((c || r) && (d || q))) ≡ t → (o' || (r && (d || q))) ≡ t
meets o o' true true r q t new apart before = ap (λ x. x || (r && true)) new ∙ by o r ∙ before
  where
    by : (o r : Bool) → ((o || true) || (r && true)) ≡ (o || true)
    by true r = refl
    by false r = refl
meets o o' true false r q t new apart before =
    ap (λ x. x || (r && q)) new ∙ by o r q (apart refl) ∙ ap (λ x. o || x) (sym (apart refl)) ∙ before
  where
    by : (o r q : Bool) → q ≡ false → ((o || false) || (r && q)) ≡ (o || false)
    by o r q none = ap (λ x. (o || false) || x) (ap (λ x. r && x) none ∙ both-none r) ∙ L.or-false (o || false)
meets o o' false d r q t new apart before = ap (λ x. x || (r && (d || q))) (new ∙ L.or-false o) ∙ before

and-comm : (a b : Bool) → (a && b) ≡ (b && a)
and-comm true true = refl
and-comm true false = refl
and-comm false true = refl
and-comm false false = refl

pub meets-right : (o o' c d r q t : Bool) → o' ≡ (o || (c && d)) → (d ≡ true → r ≡ false) → (o || ((c || r) && (d || q))) ≡ t → (o' || ((c || r) && q)) ≡ t
meets-right o o' c d r q t new apart before =
    ap (λ x. o' || x) (and-comm (c || r) q) ∙ meets o o' d c q r t (new ∙ ap (λ x. o || x) (and-comm c d)) apart (ap (λ x. o || x) (and-comm (d || q) (c || r)) ∙ before)

not-both : (low high k : ℕ) → (low ≤ k → k < high → ⊥) → (nat_le low k && nat_lt k high) ≡ false
not-both low high k h = tests (nat_le low k) (nat_lt k high) refl refl
  where
    tests : (x y : Bool) → nat_le low k ≡ x → nat_lt k high ≡ y → (nat_le low k && nat_lt k high) ≡ false
    tests true true e f = absurd (h (leb-true low k e) (ltb-true k high f))
    tests true false e f = and_right (nat_le low k) (nat_lt k high) f
    tests false y e f = and_left (nat_le low k) (nat_lt k high) e

no-cover : (s : Span) (k : ℕ) → covers s k ≡ false → s.low ≤ k → k < s.high → ⊥
no-cover s k none a b = both_ways (covers s k) none (ap (λ x. x && nat_lt k s.high) (le-leb s.low k a) ∙ lt-ltb k s.high b)

-- the common part of two spans
pub covers-common : (s t : Span) (k : ℕ) → covers (record { low = max s.low t.low; high = min s.high t.high }) k ≡ (covers s k && covers t k)
covers-common s t k = by (covers s k) (covers t k) refl refl
  where
    by : (b c : Bool) → covers s k ≡ b → covers t k ≡ c → covers (record { low = max s.low t.low; high = min s.high t.high }) k ≡ (b && c)
    by true true f g =
        let a = L.covers-low s k f in
        let b = L.covers-high s k f in
        let c = L.covers-low t k g in
        let d = L.covers-high t k g in
        ap (λ x. x && nat_lt k (min s.high t.high)) (le-leb (max s.low t.low) k (omega (arith, a, c))) ∙ lt-ltb k (min s.high t.high) (omega (arith, b, d))
    by true false f g = not-both (max s.low t.low) (min s.high t.high) k (λ a b. no-cover t k g (omega (arith, a)) (omega (arith, b)))
    by false c f g = not-both (max s.low t.low) (min s.high t.high) k (λ a b. no-cover s k f (omega (arith, a)) (omega (arith, b)))

-- what ends before two lists go on
pub before-none : (e : ℕ) (ts : List Span) → EndsBefore e [] ts
unfolding EndsBefore
before-none e ts = tt

pub before-nil : (e : ℕ) (ss : List Span) → EndsBefore e ss []
unfolding EndsBefore
before-nil e [] = tt
before-nil e (s ∷ ss) = tt

pub before-some : (e : ℕ) (s : Span) (ss : List Span) (t : Span) (ts : List Span) → e ≤ max s.low t.low → EndsBefore e (s ∷ ss) (t ∷ ts)
unfolding EndsBefore
before-some e s ss t ts h = h

pub before-is : (e : ℕ) (s : Span) (ss : List Span) (t : Span) (ts : List Span) → EndsBefore e (s ∷ ss) (t ∷ ts) → e ≤ max s.low t.low
unfolding EndsBefore
before-is e s ss t ts h = h

pub before-start : (ss ts : List Span) → EndsBefore 0 ss ts
before-start [] ts = before-none 0 ts
before-start (s ∷ ss) [] = before-nil 0 (s ∷ ss)
before-start (s ∷ ss) (t ∷ ts) = before-some 0 s ss t ts (omega arith)

pub before-at : (e i j : ℕ) (xs ys : List Span) (d : Span) → i < length xs → j < length ys → EndsBefore e (drop i xs) (drop j ys) → e ≤ max (slice_index_or xs i d).low (slice_index_or ys j d).low
before-at e i j xs ys d h g b =
    before-is e (slice_index_or xs i d) (drop (i + 1) xs) (slice_index_or ys j d) (drop (j + 1) ys)
    (subst (λ us. EndsBefore e us (slice_index_or ys j d ∷ drop (j + 1) ys)) (at-front xs i d h) (subst (EndsBefore e (drop i xs)) (at-front ys j d g) b))

-- an end that isn't behind the last numbers of the spans
before-rest : (e : ℕ) (s t : Span) (ss ts : List Span) → e ≤ max (max s.low t.low) (min s.high t.high) → s.high ≤ t.high → s.low < s.high → Ascending s.high ss → EndsBefore e ss (t ∷ ts)
before-rest e s t [] ts h le some a = before-none e (t ∷ ts)
before-rest e s t (u ∷ ss) ts h le some a = let low = L.ascending-head s.high u ss a in before-some e u ss t ts (omega (arith, h, le, some, low))

before-flip : (e : ℕ) (ss ts : List Span) → EndsBefore e ts ss → EndsBefore e ss ts
before-flip e [] ts b = before-none e ts
before-flip e (s ∷ ss) [] b = before-nil e (s ∷ ss)
before-flip e (s ∷ ss) (t ∷ ts) b = let h = before-is e t ts s ss b in before-some e s ss t ts (omega arith)

pub before-left : (e n m i j : ℕ) (xs ys : List Span) (d : Span) → i < length xs → j < length ys → Ascending n (drop i xs) → Ascending m (drop j ys)
    → e ≤ max (max (slice_index_or xs i d).low (slice_index_or ys j d).low) (min (slice_index_or xs i d).high (slice_index_or ys j d).high)
    → (slice_index_or xs i d).high ≤ (slice_index_or ys j d).high → EndsBefore e (drop (i + 1) xs) (drop j ys)
before-left e n m i j xs ys d h g a b end le =
    subst (EndsBefore e (drop (i + 1) xs)) (sym (at-front ys j d g))
    (before-rest e (slice_index_or xs i d) (slice_index_or ys j d) (drop (i + 1) xs) (drop (j + 1) ys) end le (some-at n i xs d h a) (rest-at n i xs d h a))

pub before-right : (e n m i j : ℕ) (xs ys : List Span) (d : Span) → i < length xs → j < length ys → Ascending n (drop i xs) → Ascending m (drop j ys)
    → e ≤ max (max (slice_index_or xs i d).low (slice_index_or ys j d).low) (min (slice_index_or xs i d).high (slice_index_or ys j d).high)
    → (slice_index_or ys j d).high ≤ (slice_index_or xs i d).high → EndsBefore e (drop i xs) (drop (j + 1) ys)
before-right e n m i j xs ys d h g a b end le =
    before-flip e (drop i xs) (drop (j + 1) ys) (before-left e m n j i ys xs d g h b a (omega (arith, end)) le)

-- nothing of one span lies among the spans behind the other where that one ends later
pub apart : (n j k : ℕ) (s : Span) (ys : List Span) (d : Span) → j < length ys → Ascending n (drop j ys) → s.high ≤ (slice_index_or ys j d).high → covers s k ≡ true → in_spans (drop (j + 1) ys) k ≡ false
apart n j k s ys d g a le in_s =
    let high = L.covers-high s k in_s in L.below-none (slice_index_or ys j d).high k (drop (j + 1) ys) (rest-at n j ys d g a) (omega arith)

-- the invariant of the loop goes on by one span
pub met-left : (i j k : ℕ) (xs ys : List Span) (d both : Span) (n m : ℕ) (o o' t : Bool) → i < length xs → j < length ys → Ascending n (drop i xs) → Ascending m (drop j ys)
    → both ≡ record { low = max (slice_index_or xs i d).low (slice_index_or ys j d).low; high = min (slice_index_or xs i d).high (slice_index_or ys j d).high }
    → (slice_index_or xs i d).high ≤ (slice_index_or ys j d).high → o' ≡ (o || covers both k)
    → (o || (in_spans (drop i xs) k && in_spans (drop j ys) k)) ≡ t → (o' || (in_spans (drop (i + 1) xs) k && in_spans (drop j ys) k)) ≡ t
met-left i j k xs ys d both n m o o' t h g a b is le new before =
    let s = slice_index_or xs i d in
    let u = slice_index_or ys j d in
    let r = in_spans (drop (i + 1) xs) k in
    let q = in_spans (drop (j + 1) ys) k in
    ap (λ x. o' || (r && x)) (in-at j k ys d g)
    ∙ meets o o' (covers s k) (covers u k) r q t (new ∙ ap (λ x. o || covers x k) is ∙ ap (λ x. o || x) (covers-common s u k)) (apart m j k s ys d g b le)
    (ap (λ x. o || (x && (covers u k || q))) (sym (in-at i k xs d h)) ∙ ap (λ x. o || (in_spans (drop i xs) k && x)) (sym (in-at j k ys d g)) ∙ before)

pub met-right : (i j k : ℕ) (xs ys : List Span) (d both : Span) (n m : ℕ) (o o' t : Bool) → i < length xs → j < length ys → Ascending n (drop i xs) → Ascending m (drop j ys)
    → both ≡ record { low = max (slice_index_or xs i d).low (slice_index_or ys j d).low; high = min (slice_index_or xs i d).high (slice_index_or ys j d).high }
    → (slice_index_or ys j d).high ≤ (slice_index_or xs i d).high → o' ≡ (o || covers both k)
    → (o || (in_spans (drop i xs) k && in_spans (drop j ys) k)) ≡ t → (o' || (in_spans (drop i xs) k && in_spans (drop (j + 1) ys) k)) ≡ t
met-right i j k xs ys d both n m o o' t h g a b is le new before =
    let s = slice_index_or xs i d in
    let u = slice_index_or ys j d in
    let r = in_spans (drop (i + 1) xs) k in
    let q = in_spans (drop (j + 1) ys) k in
    ap (λ x. o' || (x && q)) (in-at i k xs d h)
    ∙ meets-right o o' (covers s k) (covers u k) r q t (new ∙ ap (λ x. o || covers x k) is ∙ ap (λ x. o || x) (covers-common s u k)) (apart n i k u xs d h a le)
    (ap (λ x. o || (x && (covers u k || q))) (sym (in-at i k xs d h)) ∙ ap (λ x. o || (in_spans (drop i xs) k && x)) (sym (in-at j k ys d g)) ∙ before)

pub met-all : (i j k : ℕ) (xs ys : List Span) (o t : Bool) → (length xs ≤ i) ⊎ (length ys ≤ j) → (o || (in_spans (drop i xs) k && in_spans (drop j ys) k)) ≡ t → o ≡ t
met-all i j k xs ys o t (inl h) before = sym (L.or-false o) ∙ ap (λ x. o || (x && in_spans (drop j ys) k)) (sym (in-past i k xs h)) ∙ before
met-all i j k xs ys o t (inr h) before = sym (L.or-false o) ∙ ap (λ x. o || x) (sym (both-none (in_spans (drop i xs) k)) ∙ ap (λ x. in_spans (drop i xs) k && x) (sym (in-past j k ys h))) ∙ before

abbrev pub zero_span : Span
zero_span = record { low = 0; high = 0 }
