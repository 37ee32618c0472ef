-- Tables by number.
use Rattle.std.proofs.Common.{◌≡◌, ℕ, zero, suc, ◌+◌, ◌<◌, Bool, true, false, not, ◌&&◌, ◌==◌, cond, ℤ, ◌-ℤ◌, List, [], ◌∷◌, ◌++◌, length, map, take, drop, set, replicate, Option, Some, None, refl, arith, ap, sym, ◌∙◌}
use Rattle.std.specs.Prelude.{is_some, slice_index_or, unsigned_abs}
use Rattle.std.proofs.lemmas.Int.{ints}
use Rattle.std.proofs.lemmas.List.{take_more}
use Rattle.std.proofs.lemmas.Bool.Decides.{nat_tests}
use Rattle.sv_types.specs.Layouts.{count_of}
use Rattle.sv_types.specs.Windows.{tabulated}
use Rattle.pattern_fit.specs.Fits.{item_at, is_once, between, AllWithin}

pub distance-within : (l r i : ℤ) → between l r i ≡ true → unsigned_abs (l -ℤ i) < count_of l r
distance-within l r i h = grind (arith, ints)

pub tabulated-more : {A : Type 0} (n : ℕ) (f : ℕ → A) → tabulated (n + 1) f ≡ tabulated n f ++ f n ∷ []
tabulated-more zero f = refl
tabulated-more (suc n) f = let e : suc n + 1 ≡ suc (n + 1) = omega arith in ap (λ k. tabulated k f) e ∙ ap (λ xs. f 0 ∷ xs) (tabulated-more n (λ k. f (suc k)))

pub tabulated-none : {A : Type 0} (f : ℕ → A) → tabulated 0 f ≡ []
tabulated-none f = refl

pub ruleset tables = (tabulated-more, tabulated-none)

pub ruleset distances = (distance-within)

tabulated-same : {A : Type 0} (n : ℕ) (f g : ℕ → A) → ((j : ℕ) → j < n → f j ≡ g j) → tabulated n f ≡ tabulated n g
tabulated-same zero f g same = refl
tabulated-same (suc n) f g same =
    ap (λ x. x ∷ tabulated n (λ k. f (suc k))) (same 0 (omega arith)) ∙ ap (λ xs. g 0 ∷ xs) (tabulated-same n (λ k. f (suc k)) (λ k. g (suc k)) (λ j h. same (suc j) (omega arith)))

pub nothing-taken : (n count : ℕ) → tabulated count (item_at n []) ≡ replicate count None
nothing-taken n zero = refl
nothing-taken n (suc count) = ap (λ xs. None ∷ xs) (nothing-taken n count)

pub length-tabulated : {A : Type 0} (n : ℕ) (f : ℕ → A) → length (tabulated n f) ≡ n
length-tabulated zero f = refl
length-tabulated (suc n) f = ap suc (length-tabulated n (λ k. f (suc k)))

pub index-tabulated : {A : Type 0} (n : ℕ) (f : ℕ → A) (j : ℕ) (d : A) → j < n → slice_index_or (tabulated n f) j d ≡ f j
index-tabulated zero f j d h = absurd (omega arith)
index-tabulated (suc n) f zero d h = refl
index-tabulated (suc n) f (suc j) d h = index-tabulated n (λ k. f (suc k)) j d (omega arith)

set-tabulated : {A : Type 0} (n : ℕ) (f : ℕ → A) (k : ℕ) (x : A) → k < n → set (tabulated n f) k x ≡ tabulated n (λ j. cond (k == j) x (f j))
set-tabulated zero f k x h = absurd (omega arith)
set-tabulated (suc n) f zero x h =
    let first : (0 == 0) ≡ true = refl in
    ap (λ xs. x ∷ xs) (tabulated-same n (λ j. f (suc j)) (λ j. cond (0 == suc j) x (f (suc j))) (λ j g. let e : (0 == suc j) ≡ false = grind (arith, nat_tests) in sym (ap (λ b. cond b x (f (suc j))) e)))
set-tabulated (suc n) f (suc k) x h =
    let e : (suc k == 0) ≡ false = grind (arith, nat_tests) in
    ap (λ xs. f 0 ∷ xs) (set-tabulated n (λ j. f (suc j)) k x (omega arith))
    ∙ ap (λ xs. f 0 ∷ xs) (tabulated-same n (λ j. cond (k == j) x (f (suc j))) (λ j. cond (suc k == suc j) x (f (suc j)))
    (λ j g. let s : (k == j) ≡ (suc k == suc j) = grind (arith, nat_tests) in ap (λ b. cond b x (f (suc j))) s))
    ∙ ap (λ b. cond b x (f 0) ∷ tabulated n (λ j. cond (suc k == suc j) x (f (suc j)))) (sym e)

-- one key more in front
pub taken-more : (count i k : ℕ) (rest : List (Option ℕ)) → k < count → tabulated count (item_at i (Some k ∷ rest)) ≡ set (tabulated count (item_at (suc i) rest)) k (Some i)
taken-more count i k rest h = sym (set-tabulated count (item_at (suc i) rest) k (Some i) h)

item-shifted : (n m : ℕ) (ks : List (Option ℕ)) (place : ℕ) → is_some (item_at n ks place) ≡ is_some (item_at m ks place)
item-shifted n m [] place = refl
item-shifted n m (None ∷ ks) place = item-shifted (suc n) (suc m) ks place
item-shifted n m (Some k ∷ ks) place = shifted-by (k == place) (item-shifted (suc n) (suc m) ks place)
  where
    shifted-by : (b : Bool) → is_some (item_at (suc n) ks place) ≡ is_some (item_at (suc m) ks place) → is_some (cond b (Some n) (item_at (suc n) ks place)) ≡ is_some (cond b (Some m) (item_at (suc m) ks place))
    shifted-by true e = refl
    shifted-by false e = e

-- a key whose place isn't taken behind it
pub once-more : (i k : ℕ) (rest : List (Option ℕ)) → is_some (item_at (suc i) rest k) ≡ false → is_once rest ≡ true → is_once (Some k ∷ rest) ≡ true
once-more i k rest free once = ap (λ b. not b && is_once rest) (item-shifted 0 (suc i) rest k ∙ free) ∙ once

pub twice : (i k : ℕ) (rest : List (Option ℕ)) → is_some (item_at (suc i) rest k) ≡ true → is_once (Some k ∷ rest) ≡ false
twice i k rest taken = ap (λ b. not b && is_once rest) (item-shifted 0 (suc i) rest k ∙ taken)

and-false : (b : Bool) → (b && false) ≡ false
and-false true = refl
and-false false = refl

front-false : (k : Option ℕ) (ks : List (Option ℕ)) → is_once ks ≡ false → is_once (k ∷ ks) ≡ false
front-false None ks h = refl
front-false (Some k) ks h = ap (λ b. not (is_some (item_at 0 ks k)) && b) h ∙ and-false (not (is_some (item_at 0 ks k)))

-- what breaks a part breaks the whole
pub never-once : (ns : List (Option ℕ)) (i : ℕ) → is_once (drop i ns) ≡ false → is_once ns ≡ false
never-once [] zero h = h
never-once [] (suc i) h = h
never-once (k ∷ ks) zero h = h
never-once (k ∷ ks) (suc i) h = front-false k ks (never-once ks i h)

within-by : (n : ℕ) (ks : List (Option ℕ)) (x : Option ℕ) (i k : ℕ) → AllWithin n ks → ((m : ℕ) → x ≡ Some m → m < n) → slice_index_or (ks ++ x ∷ []) i None ≡ Some k → k < n
within-by n [] x zero k all one is = one k is
within-by n [] x (suc i) k all one is = absurd (cc)
within-by n (y ∷ ks) x zero k all one is = all 0 k is
within-by n (y ∷ ks) x (suc i) k all one is = within-by n ks x i k (λ j m e. all (suc j) m e) one is

pub within-more : (n : ℕ) (ks : List (Option ℕ)) (x : Option ℕ) → AllWithin n ks → ((m : ℕ) → x ≡ Some m → m < n) → AllWithin n (ks ++ x ∷ [])
within-more n ks x all one i k is = within-by n ks x i k all one is

map-push : {A B : Type 0} (f : A → B) (xs : List A) (x : A) → map f (xs ++ x ∷ []) ≡ map f xs ++ f x ∷ []
map-push f [] x = refl
map-push f (y ∷ xs) x = ap (λ ys. f y ∷ ys) (map-push f xs x)

pub map-more : {A B : Type 0} (f : A → B) (xs : List A) (i : ℕ) (d : A) → i < length xs → map f (take (i + 1) xs) ≡ map f (take i xs) ++ f (slice_index_or xs i d) ∷ []
map-more f xs i d h = ap (map f) (take_more xs i d h) ∙ map-push f (take i xs) (slice_index_or xs i d)
