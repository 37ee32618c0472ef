-- Signals that have changed, bit by bit.
use Rattle.std.proofs.Common.{◌≡◌, ℕ, zero, suc, ◌+◌, ◌<◌, ◌≤◌, ◌≢◌, ◌==◌, Bool, true, false, not, ◌||◌, cond, filter, List, [], ◌∷◌, ◌++◌, length, drop, get_or, refl, sym, ap, ◌∙◌, subst, true≢false, arith}
use Rattle.std.specs.Prelude.{slice_index_or}
use Rattle.std.specs.List.{list_any}
use Rattle.std.proofs.lemmas.Bool.Decides.{nat_tests}
use Rattle.b4_core.specs.declared.bit.Bit4.{Bit4}
use Rattle.b4_core.specs.declared.bit.Bit4.TheVariants.{Zero, One, X, Z}
use Rattle.row_machine.specs.Valuation.{Place, Valuation}
use Rattle.row_machine.specs.Places.{places_from, places_of}
use Rattle.row_machine.specs.Settle.{same_bit, differs}
use Rattle.round_runner.specs.Stores.{holding, widths}
use Rattle.v_stores.specs.Waits.{place, all_places, is_named, named_places}

same-refl : (b : Bit4) → same_bit b b ≡ true
same-refl Zero = refl
same-refl One = refl
same-refl X = refl
same-refl Z = refl

same-is : (a b : Bit4) → a ≡ b → not (same_bit a b) ≡ false
same-is a b e = ap (λ x. not (same_bit a x)) (sym e) ∙ ap not (same-refl a)

apart-is : (a b : Bit4) → a ≢ b → not (same_bit a b) ≡ true
apart-is Zero Zero h = absurd (h refl)
apart-is One One h = absurd (h refl)
apart-is X X h = absurd (h refl)
apart-is Z Z h = absurd (h refl)
apart-is Zero One h = refl
apart-is Zero X h = refl
apart-is Zero Z h = refl
apart-is One Zero h = refl
apart-is One X h = refl
apart-is One Z h = refl
apart-is X Zero h = refl
apart-is X One h = refl
apart-is X Z h = refl
apart-is Z Zero h = refl
apart-is Z One h = refl
apart-is Z X h = refl

any-none : (f g : Place → Bool) (qs : List Place) → ((q : Place) → g q ≡ true → f q ≡ false) → list_any f (filter g qs) ≡ false
any-none f g [] h = refl
any-none f g (q ∷ qs) h = by (g q) refl (any-none f g qs h)
  where
    by : (b : Bool) → g q ≡ b → list_any f (filter g qs) ≡ false → list_any f (cond b (q ∷ filter g qs) (filter g qs)) ≡ false
    by true e rest = ap (λ c. c || list_any f (filter g qs)) (h q e) ∙ rest
    by false e rest = rest

pub none-differs : (ns ws : List ℕ) (v u : Valuation) → ((m k : ℕ) → is_named ns m ≡ true → v (place m k) ≡ u (place m k)) → false ≡ differs (named_places ns ws) v u
none-differs ns ws v u h = sym (any-none (λ q. not (same_bit (v q) (u q))) (λ q. is_named ns q.signal) (all_places 0 ws) (λ q e. same-is (v q) (u q) (h q.signal q.bit e)))

or-true : (b c : Bool) → b ≡ true → (b || c) ≡ true
or-true true c e = refl
or-true false c e = absurd (true≢false (sym e))

or-more : (b c : Bool) → c ≡ true → (b || c) ≡ true
or-more true c e = refl
or-more false c e = e

any-left : (f g : Place → Bool) (xs ys : List Place) → list_any f (filter g xs) ≡ true → list_any f (filter g (xs ++ ys)) ≡ true
any-left f g [] ys h = absurd (true≢false (sym h))
any-left f g (x ∷ xs) ys h = by (g x) (f x) refl (λ e. any-left f g xs ys e) h
  where
    by : (b c : Bool) → f x ≡ c → (list_any f (filter g xs) ≡ true → list_any f (filter g (xs ++ ys)) ≡ true) → list_any f (cond b (x ∷ filter g xs) (filter g xs)) ≡ true
        → list_any f (cond b (x ∷ filter g (xs ++ ys)) (filter g (xs ++ ys))) ≡ true
    by true true e go i = or-true (f x) (list_any f (filter g (xs ++ ys))) e
    by true false e go i = or-more (f x) (list_any f (filter g (xs ++ ys))) (go (sym (ap (λ c. c || list_any f (filter g xs)) e) ∙ i))
    by false c e go i = go i

any-right : (f g : Place → Bool) (xs ys : List Place) → list_any f (filter g ys) ≡ true → list_any f (filter g (xs ++ ys)) ≡ true
any-right f g [] ys h = h
any-right f g (x ∷ xs) ys h = by (g x) (any-right f g xs ys h)
  where
    by : (b : Bool) → list_any f (filter g (xs ++ ys)) ≡ true → list_any f (cond b (x ∷ filter g (xs ++ ys)) (filter g (xs ++ ys))) ≡ true
    by true go = or-more (f x) (list_any f (filter g (xs ++ ys))) go
    by false go = go

-- a bit among those of a signal
bit-found : (f g : Place → Bool) (n j w k : ℕ) → j ≤ k → k < j + w → g (place n k) ≡ true → f (place n k) ≡ true → list_any f (filter g (places_from n j w)) ≡ true
bit-found f g n j zero k low high h e = absurd (omega (arith, low, high))
bit-found f g n j (suc w) k low high h e = by (j == k) refl (λ l. bit-found f g n (suc j) w k l (omega (arith, high)) h e)
  where
    rest : List Place
    rest = filter g (places_from n (suc j) w)

    same-number : (a b : ℕ) → (a == b) ≡ true → b ≡ a
    same-number a b h = grind (arith, nat_tests)

    less : (a b : ℕ) → (a == b) ≡ false → a ≤ b → suc a ≤ b
    less a b h l = grind (arith, nat_tests)

    here : g (place n j) ≡ true → f (place n j) ≡ true → list_any f (cond (g (place n j)) (place n j ∷ rest) rest) ≡ true
    here h e = ap (λ b. list_any f (cond b (place n j ∷ rest) rest)) h ∙ or-true (f (place n j)) (list_any f rest) e

    more : (b : Bool) → list_any f rest ≡ true → list_any f (cond b (place n j ∷ rest) rest) ≡ true
    more true go = or-more (f (place n j)) (list_any f rest) go
    more false go = go

    by : (b : Bool) → (j == k) ≡ b → (suc j ≤ k → list_any f rest ≡ true) → list_any f (cond (g (place n j)) (place n j ∷ rest) rest) ≡ true
    by true i go = here (ap (λ m. g (place n m)) (sym (same-number j k i)) ∙ h) (ap (λ m. f (place n m)) (sym (same-number j k i)) ∙ e)
    by false i go = more (g (place n j)) (go (less j k i low))

bit-there : (v u : List Bit4) (k : ℕ) → length v ≡ length u → slice_index_or v k X ≢ slice_index_or u k X → k < length u
bit-there [] [] k e h = absurd (h refl)
bit-there [] (b ∷ u) k e h = absurd (omega (arith, e))
bit-there (a ∷ v) [] k e h = absurd (omega (arith, e))
bit-there (a ∷ v) (b ∷ u) zero e h = omega arith
bit-there (a ∷ v) (b ∷ u) (suc k) e h = let l = bit-there v u k (omega (arith, e)) h in omega (arith, l)

first-width : (a b : ℕ) (xs ys : List ℕ) → a ∷ xs ≡ b ∷ ys → a ≡ b
first-width a b xs ys e = cc

rest-width : (a b : ℕ) (xs ys : List ℕ) → a ∷ xs ≡ b ∷ ys → xs ≡ ys
rest-width a b xs ys e = cc

some-at : (f g : Place → Bool) (n : ℕ) (now was : List (List Bit4)) (m k : ℕ) → widths now ≡ widths was → holding now (place m k) ≢ holding was (place m k) → g (place (n + m) k) ≡ true → f (place (n + m) k) ≡ true
    → list_any f (filter g (all_places n (widths was))) ≡ true
some-at f g n [] [] m k e h i j = absurd (h refl)
some-at f g n [] (u ∷ us) m k e h i j = absurd (cc)
some-at f g n (v ∷ vs) [] m k e h i j = absurd (cc)
some-at f g n (v ∷ vs) (u ∷ us) zero k e h i j =
    any-left f g (places_of n (length u)) (all_places (suc n) (widths us))
    (bit-found f g n 0 (length u) k (omega arith) (plus (length u) (bit-there v u k (first-width (length v) (length u) (widths vs) (widths us) e) h)) (ap (λ a. g (place a k)) (plus-none n) ∙ i) (ap (λ a. f (place a k)) (plus-none n) ∙ j))
  where
    plus-none : (n : ℕ) → n ≡ n + 0
    plus-none n = omega arith

    plus : (w : ℕ) → k < w → k < 0 + w
    plus w h = omega (arith, h)
some-at f g n (v ∷ vs) (u ∷ us) (suc m) k e h i j =
    any-right f g (places_of n (length u)) (all_places (suc n) (widths us))
    (some-at f g (suc n) vs us m k (rest-width (length v) (length u) (widths vs) (widths us) e) h (ap (λ a. g (place a k)) (plus-more n m) ∙ i) (ap (λ a. f (place a k)) (plus-more n m) ∙ j))
  where
    plus-more : (n m : ℕ) → suc n + m ≡ n + suc m
    plus-more n m = omega arith

pub some-differs : (ns : List ℕ) (now was : List (List Bit4)) (m k : ℕ) → widths now ≡ widths was → is_named ns m ≡ true → holding now (place m k) ≢ holding was (place m k)
    → true ≡ differs (named_places ns (widths was)) (holding now) (holding was)
some-differs ns now was m k e named h =
    sym (some-at (λ q. not (same_bit (holding now q) (holding was q))) (λ q. is_named ns q.signal) 0 now was m k e h (ap (is_named ns) (none m) ∙ named)
    (ap (λ a. not (same_bit (holding now (place a k)) (holding was (place a k)))) (none m) ∙ apart-is (holding now (place m k)) (holding was (place m k)) h))
  where
    none : (m : ℕ) → 0 + m ≡ m
    none m = omega arith

-- signals of the same widths, one by one
pub same-length : (now was : List (List Bit4)) (n : ℕ) (x y : List Bit4) → widths now ≡ widths was → n < length now → n < length was → x ≡ get_or now n x → y ≡ get_or was n y → length x ≡ length y
same-length [] was n x y e h l i j = absurd (omega (arith, h))
same-length (v ∷ vs) [] n x y e h l i j = absurd (omega (arith, l))
same-length (v ∷ vs) (u ∷ us) zero x y e h l i j = ap length i ∙ first-width (length v) (length u) (widths vs) (widths us) e ∙ ap length (sym j)
same-length (v ∷ vs) (u ∷ us) (suc n) x y e h l i j = same-length vs us n x y (rest-width (length v) (length u) (widths vs) (widths us) e) (omega (arith, h)) (omega (arith, l)) i j

-- the names from one place on
pub one-by-one : (P : ℕ → Type 0) (ns : List ℕ) (i d : ℕ) → i < length ns → P (get_or ns i d) → ((m : ℕ) → is_named (drop (i + 1) ns) m ≡ true → P m) → (m : ℕ) → is_named (drop i ns) m ≡ true → P m
one-by-one P [] i d l here rest m h = absurd (omega (arith, l))
one-by-one P (x ∷ ns) zero d l here rest m h = by (x == m) refl h
  where
    same-number : (a b : ℕ) → (a == b) ≡ true → a ≡ b
    same-number a b h = grind (arith, nat_tests)

    by : (b : Bool) → (x == m) ≡ b → (b || is_named ns m) ≡ true → P m
    by true e h = subst P (same-number x m e) here
    by false e h = rest m h
one-by-one P (x ∷ ns) (suc i) d l here rest m h = one-by-one P ns i d (omega (arith, l)) here (λ m h. rest m (ap (λ k. is_named (drop k (x ∷ ns)) m) (more i) ∙ h)) m h
  where
    more : (i : ℕ) → suc i + 1 ≡ suc (i + 1)
    more i = omega arith

pub named-at : (ns : List ℕ) (i d : ℕ) → i < length ns → is_named ns (get_or ns i d) ≡ true
named-at [] i d l = absurd (omega (arith, l))
named-at (x ∷ ns) zero d l = or-true (x == x) (is_named ns x) (same x)
  where
    same : (a : ℕ) → (a == a) ≡ true
    same a = grind (arith, nat_tests)
named-at (x ∷ ns) (suc i) d l = or-more (x == get_or ns i d) (is_named ns (get_or ns i d)) (named-at ns i d (omega (arith, l)))

pub none-named : (i : ℕ) (ns : List ℕ) (m : ℕ) → length ns ≤ i → is_named (drop i ns) m ≡ true → ⊥
none-named zero [] m l h = absurd (true≢false (sym h))
none-named zero (x ∷ ns) m l h = absurd (omega (arith, l))
none-named (suc i) [] m l h = absurd (true≢false (sym h))
none-named (suc i) (x ∷ ns) m l h = none-named i ns m (omega (arith, l)) h
