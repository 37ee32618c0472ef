-- Tests over lists, and what they say.
use Rattle.std.proofs.Common.{◌≡◌, ◌+◌, ◌<◌, ◌&&◌, ◌||◌, ◌⊎◌, inl, inr, not, ℕ, zero, suc, List, [], ◌∷◌, Option, Some, None, Bool, true, false, cond, refl, sym, ap, subst, slice_get, length, arith}
use Rattle.ll_engine.specs.Marks.{Tells}

pub tells_and : (P Q : Type 0) (b c : Bool) → Tells b P → Tells c Q → Tells (b && c) (P × Q)
tells_and P Q true true p q = (p, q)
tells_and P Q true false p q = λ m. q m.1
tells_and P Q false c p q = λ m. p m.0

pub tells_or : (P Q : Type 0) (b c : Bool) → Tells b P → Tells c Q → Tells (b || c) (P ⊎ Q)
tells_or P Q true c p q = inl p
tells_or P Q false true p q = inr q
tells_or P Q false false p q = λ m. elim m [ inl x ↦ p x | inr y ↦ q y ]

pub tells_none : (P : Type 0) (b : Bool) → Tells b P → Tells (not b) (P → ⊥)
tells_none P true p = λ f. f p
tells_none P false p = p

-- a test that computes tells its own truth
pub tells_self : (b : Bool) → Tells b (b ≡ true)
tells_self true = refl
tells_self false = λ e. cc

pub if_then : (a b : Bool) → (not a || b) ≡ true → a ≡ true → b ≡ true
if_then true b e f = e
if_then false b e f = cc

pub then_if : (a b : Bool) → (a ≡ true → b ≡ true) → (not a || b) ≡ true
then_if true b f = f refl
then_if false b f = refl

pub not_both : (a b : Bool) → not (a && b) ≡ true → a ≡ true → b ≡ true → ⊥
not_both true true e f g = cc
not_both true false e f g = cc
not_both false b e f g = cc

pub both_not : (a b : Bool) → (a ≡ true → b ≡ true → ⊥) → not (a && b) ≡ true
both_not true true f = absurd (f refl refl)
both_not true false f = refl
both_not false b f = refl

pub and_parts : (a b : Bool) → (a && b) ≡ true → (a ≡ true) × (b ≡ true)
and_parts true b e = (refl, e)
and_parts false b e = cc

pub parts_and : (a b : Bool) → a ≡ true → b ≡ true → (a && b) ≡ true
parts_and true b e f = f
parts_and false b e f = cc

-- a test of each item with its number
abbrev pub all_from : {A : Type 0} → (ℕ → A → Bool) → List A → ℕ → Bool
all_from test [] n = true
all_from test (x ∷ xs) n = test n x && all_from test xs (n + 1)

pub all_tells : {A : Type 0} (test : ℕ → A → Bool) (xs : List A) (n : ℕ) → all_from test xs n ≡ true
    → (k : ℕ) (x : A) → slice_get xs k ≡ Some x → test (n + k) x ≡ true
all_tells test [] n e k x f = cc
all_tells test (y ∷ xs) n e zero x f =
    let c = and_parts (test n y) (all_from test xs (n + 1)) e in
    let same : y ≡ x = cc in
    let z : n + 0 ≡ n = omega arith in
    subst (λ q. test q x ≡ true) (sym z) (subst (λ q. test n q ≡ true) same c.0)
all_tells test (y ∷ xs) n e (suc k) x f =
    let c = and_parts (test n y) (all_from test xs (n + 1)) e in
    let z : (n + 1) + k ≡ n + suc k = omega arith in
    subst (λ q. test q x ≡ true) z (all_tells test xs (n + 1) c.1 k x f)

pub tells_all : {A : Type 0} (test : ℕ → A → Bool) (xs : List A) (n : ℕ)
    → ((k : ℕ) (x : A) → slice_get xs k ≡ Some x → test (n + k) x ≡ true) → all_from test xs n ≡ true
tells_all test [] n f = refl
tells_all test (y ∷ xs) n f =
    let z : n + 0 ≡ n = omega arith in
    parts_and (test n y) (all_from test xs (n + 1)) (subst (λ q. test q y ≡ true) z (f 0 y refl))
    (tells_all test xs (n + 1) (λ k x e.
    let w : n + suc k ≡ (n + 1) + k = omega arith in
    subst (λ q. test q x ≡ true) w (f (suc k) x e)))

-- the number of the first item that passes
abbrev pub first_from : {A : Type 0} → (A → Bool) → List A → ℕ → Option ℕ
first_from test [] n = None
first_from test (x ∷ xs) n = cond (test x) (Some n) (first_from test xs (n + 1))

cond_option : (b : Bool) (n i : ℕ) (o : Option ℕ) → cond b (Some n) o ≡ Some i → ((b ≡ true) × (n ≡ i)) ⊎ (o ≡ Some i)
cond_option true n i o e = let f : n ≡ i = cc in inl (refl, f)
cond_option false n i o e = inr e

cond_nothing : (b : Bool) (n : ℕ) (o : Option ℕ) → cond b (Some n) o ≡ None → (b ≡ false) × (o ≡ None)
cond_nothing true n o e = cc
cond_nothing false n o e = (refl, e)

pub record First {A : Type 0} (test : A → Bool) (xs : List A) (n i : ℕ) : Type 0 where
  pub at : ℕ
  pub item : A
  pub number : i ≡ n + at
  pub is_there : slice_get xs at ≡ Some item
  pub passes : test item ≡ true

pub first_found : {A : Type 0} (test : A → Bool) (xs : List A) (n i : ℕ) → first_from test xs n ≡ Some i → First test xs n i
first_found test [] n i e = cc
first_found test (x ∷ xs) n i e = go (cond_option (test x) n i (first_from test xs (n + 1)) e) (first_found test xs (n + 1) i)
  where
    later : First test xs (n + 1) i → First test (x ∷ xs) n i
    later m = let f = m.number in record { at = suc m.at; item = m.item; number = omega (arith, f); is_there = m.is_there; passes = m.passes }

    go : ((test x ≡ true) × (n ≡ i)) ⊎ (first_from test xs (n + 1) ≡ Some i) → (first_from test xs (n + 1) ≡ Some i → First test xs (n + 1) i)
        → First test (x ∷ xs) n i
    go (inl m) rec = let f = m.1 in record { at = 0; item = x; number = omega (arith, f); is_there = refl; passes = m.0 }
    go (inr m) rec = later (rec m)

pub first_none : {A : Type 0} (test : A → Bool) (xs : List A) (n : ℕ) → first_from test xs n ≡ None
    → (k : ℕ) (x : A) → slice_get xs k ≡ Some x → test x ≡ true → ⊥
first_none test [] n e k x f g = cc
first_none test (y ∷ xs) n e zero x f g =
    let c = cond_nothing (test y) n (first_from test xs (n + 1)) e in
    let same : y ≡ x = cc in
    let h = c.0 in
    let m = ap test same in
    cc
first_none test (y ∷ xs) n e (suc k) x f g =
    first_none test xs (n + 1) (cond_nothing (test y) n (first_from test xs (n + 1)) e).1 k x f g

-- the first item that fails
abbrev pub fails_from : {A : Type 0} → (ℕ → A → Bool) → List A → ℕ → Option ℕ
fails_from test [] n = None
fails_from test (x ∷ xs) n = cond (test n x) (fails_from test xs (n + 1)) (Some n)

pub short_get : {A : Type 0} (xs : List A) (n : ℕ) → n < length xs → (x : A) × (slice_get xs n ≡ Some x)
short_get [] n h = absurd (omega arith)
short_get (x ∷ xs) zero h = (x, refl)
short_get (x ∷ xs) (suc n) h = short_get xs n (omega arith)
