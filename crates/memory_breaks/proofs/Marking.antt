-- What a walk marks, at one number.
use Rattle.std.proofs.Common.{◌≡◌, ℕ, zero, suc, ◌<◌, ◌==◌, Bool, true, false, ◌||◌, cond, List, [], ◌∷◌, length, slice_index_or, slice_set, nat_lt, refl, ap, sym, ◌∙◌, subst, arith}
use Rattle.std.specs.List.{list_any}
use Rattle.std.proofs.lemmas.Bool.Decides.{nat_tests}
use Rattle.memory_breaks.specs.Marks.{Part, marked, all_marked}

pub or-false : (b : Bool) → (b || false) ≡ b
or-false true = refl
or-false false = refl

or-true : (b : Bool) → (b || true) ≡ true
or-true true = refl
or-true false = refl

pub or-turn : (a b : Bool) → (a || b) ≡ (b || a)
or-turn true true = refl
or-turn true false = refl
or-turn false true = refl
or-turn false false = refl

pub or-assoc : (a b c : Bool) → (a || (b || c)) ≡ ((a || b) || c)
or-assoc true b c = refl
or-assoc false b c = refl

-- two of one kind and two of another
pub or-swap : (a b c d : Bool) → ((a || b) || (c || d)) ≡ ((a || c) || (b || d))
or-swap true b c d = refl
or-swap false true true d = refl
or-swap false true false d = refl
or-swap false false true d = refl
or-swap false false false d = refl

set-length : (u : List Bool) (n : ℕ) → length (slice_set u n true) ≡ length u
set-length [] n = refl
set-length (m ∷ u) zero = refl
set-length (m ∷ u) (suc n) = ap suc (set-length u n)

pub suc-zero : (n : ℕ) → (suc n == 0) ≡ false
suc-zero n = grind (arith, nat_tests)

zero-suc : (n : ℕ) → (0 == suc n) ≡ false
zero-suc n = grind (arith, nat_tests)

suc-suc : (n q : ℕ) → (suc n == suc q) ≡ (n == q)
suc-suc n q = grind (arith, nat_tests)

set-at : (u : List Bool) (n q : ℕ) → q < length u → slice_index_or (slice_set u n true) q false ≡ (slice_index_or u q false || (n == q))
set-at [] n q h = absurd (omega (arith, h))
set-at (m ∷ u) zero zero h = sym (or-true m)
set-at (m ∷ u) zero (suc q) h = sym (ap (λ b. slice_index_or u q false || b) (zero-suc q) ∙ or-false (slice_index_or u q false))
set-at (m ∷ u) (suc n) zero h = sym (ap (λ b. m || b) (suc-zero n) ∙ or-false m)
set-at (m ∷ u) (suc n) (suc q) h = set-at u n q (omega (arith, h)) ∙ sym (ap (λ b. slice_index_or u q false || b) (suc-suc n q))

not-below : (n q l : ℕ) → q < l → nat_lt n l ≡ false → (n == q) ≡ false
not-below n q l h past = grind (arith, nat_tests, h, past)

module _ (q : ℕ) where
  -- a number is marked behind a part where it was before, or if b holds
  pub record Marking (p : Part) (b : Bool) : Type 0 where
    pub long : (u : List Bool) → length (p u) ≡ length u
    pub at : (u : List Bool) → q < length u → slice_index_or (p u) q false ≡ (slice_index_or u q false || b)

  pub idle : Marking (λ u. u) false
  idle = record { long = λ u. refl; at = λ u h. sym (or-false (slice_index_or u q false)) }

  pub also : {p r : Part} {a b : Bool} → Marking p a → Marking r b → Marking (λ u. r (p u)) (a || b)
  also {p} {r} {a} {b} f g = record {
    long = λ u. g.long (p u) ∙ f.long u;
    at = λ u h.
        g.at (p u) (subst (λ n. q < n) (sym (f.long u)) h)
        ∙ ap (λ c. c || b) (f.at u h)
        ∙ sym (or-assoc (slice_index_or u q false) a b);
  }

  pub same : {p : Part} {a b : Bool} → a ≡ b → Marking p a → Marking p b
  same {p} is f = subst (Marking p) is f

  pub one-marked : (n : ℕ) → Marking (marked n) (n == q)
  one-marked n = record { long = λ u. long (nat_lt n (length u)) u; at = λ u h. by u h (nat_lt n (length u)) refl }
    where
      long : (c : Bool) (u : List Bool) → length (cond c (slice_set u n true) u) ≡ length u
      long true u = set-length u n
      long false u = refl

      by : (u : List Bool) → q < length u → (c : Bool) → nat_lt n (length u) ≡ c → slice_index_or (cond c (slice_set u n true) u) q false ≡ (slice_index_or u q false || (n == q))
      by u h true is = set-at u n q h
      by u h false is = sym (ap (λ b. slice_index_or u q false || b) (not-below n q (length u) h is) ∙ or-false (slice_index_or u q false))

  pub all-marked : (ns : List ℕ) → Marking (all_marked ns) (list_any (λ (m : ℕ). m == q) ns)
  all-marked [] = idle
  all-marked (n ∷ ns) = also (one-marked n) (all-marked ns)
