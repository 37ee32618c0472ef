-- Contexts in which no operator is too wide, and rules that are kept.
use Rattle.std.proofs.Common.{◌≡◌, ℕ, ◌≤◌, Bool, true, false, cond, List, [], ◌∷◌, ◌++◌, Option, Some, None, refl, arith, ap, sym, ◌∙◌}
use Rattle.std.specs.Prelude.{nat_lt, Ok, Err}
use Rattle.std.proofs.lemmas.Bool.Decides.{nat_tests}
use Rattle.expr_type.specs.Breaks.{Breaks, Position}
use Rattle.expr_type.specs.Typings.{Checked, refused, unless, at_all, and_at, where_whole, joined, lesser}
use Rattle.expr_type.specs.Operands.{too_wide}

-- operators behind others
pub none-left : (xs ys : List ℕ) → xs ++ ys ≡ [] → xs ≡ []
none-left [] ys h = refl
none-left (x ∷ xs) ys h = absurd (cc)

pub none-right : (xs ys : List ℕ) → xs ++ ys ≡ [] → ys ≡ []
none-right [] ys h = h
none-right (x ∷ xs) ys h = absurd (cc)

by-test : (w : ℕ) (b : Bool) → nat_lt 128 w ≡ b → (xs : List ℕ) → (b ≡ true → xs ≡ []) → too_wide w xs ≡ []
by-test w b is [] h = refl
by-test w true is (x ∷ xs) h = absurd (let e : x ∷ xs ≡ [] = h refl in cc)
by-test w false is (x ∷ xs) h = ap (λ c. cond c (x ∷ xs) []) is

wide-none : (w : ℕ) (xs : List ℕ) → nat_lt 128 w ≡ true → too_wide w xs ≡ [] → xs ≡ []
wide-none w [] is h = refl
wide-none w (x ∷ xs) is h = sym (ap (λ c. cond c (x ∷ xs) []) is) ∙ h

pub allowed : (w : ℕ) (xs : List ℕ) → w ≤ 128 → too_wide w xs ≡ []
allowed w xs h = by-test w (nat_lt 128 w) refl xs (λ e. absurd (grind (arith, nat_tests, e)))

pub allowed-left : (w : ℕ) (xs ys : List ℕ) → too_wide w (xs ++ ys) ≡ [] → too_wide w xs ≡ []
allowed-left w xs ys h = by-test w (nat_lt 128 w) refl xs (λ e. none-left xs ys (wide-none w (xs ++ ys) e h))

pub allowed-right : (w : ℕ) (xs ys : List ℕ) → too_wide w (xs ++ ys) ≡ [] → too_wide w ys ≡ []
allowed-right w xs ys h = by-test w (nat_lt 128 w) refl ys (λ e. none-right xs ys (wide-none w (xs ++ ys) e h))

word-by : (w at : ℕ) (xs : List ℕ) (b : Bool) → nat_lt 128 w ≡ b → too_wide w (at ∷ xs) ≡ [] → w ≤ 128
word-by w at xs true is h = absurd (let e : at ∷ xs ≡ [] = wide-none w (at ∷ xs) is h in cc)
word-by w at xs false is h = grind (arith, nat_tests, is)

pub word : (w at : ℕ) (xs : List ℕ) → too_wide w (at ∷ xs) ≡ [] → w ≤ 128
word w at xs h = word-by w at xs (nat_lt 128 w) refl h

pub word-in : (w at : ℕ) (xs ys : List ℕ) → too_wide w (xs ++ at ∷ ys) ≡ [] → w ≤ 128
word-in w at xs ys h = word w at ys (allowed-right w xs (at ∷ ys) h)

-- a narrower context
pub allowed-below : (w u : ℕ) (xs : List ℕ) → w ≤ u → too_wide u xs ≡ [] → too_wide w xs ≡ []
allowed-below w u [] le h = refl
allowed-below w u (x ∷ xs) le h = let short = word u x xs h in allowed w (x ∷ xs) (omega arith)

-- rules that are kept
pub refused-no : {A : Type 0} (b : Bool) (p : Position) (r : ℕ) (other : Checked A) (a : A) → refused b p r other ≡ Ok a → b ≡ false
refused-no true p r other a h = absurd (cc)
refused-no false p r other a h = refl

pub refused-then : {A : Type 0} (b : Bool) (p : Position) (r : ℕ) (other : Checked A) (a : A) → refused b p r other ≡ Ok a → other ≡ Ok a
refused-then true p r other a h = absurd (cc)
refused-then false p r other a h = h

pub none-there : (i r : ℕ) (xs : List ℕ) → at_all i r xs ≡ None → xs ≡ []
none-there i r [] h = refl
none-there i r (x ∷ xs) h = by (at_all i r xs) h
  where
    by : (o : Option Breaks) → and_at (record { instance = i; at = x }) r o ≡ None → x ∷ xs ≡ []
    by None e = absurd (cc)
    by (Some b) e = absurd (cc)

pub unless-none : {A : Type 0} (o : Option Breaks) (a b : A) → unless o a ≡ Ok b → o ≡ None
unless-none None a b h = refl
unless-none (Some x) a b h = absurd (cc)

pub unless-is : {A : Type 0} (o : Option Breaks) (a b : A) → unless o a ≡ Ok b → a ≡ b
unless-is None a b h = cc
unless-is (Some x) a b h = absurd (cc)

-- what is made of parts that are whole
pub record Whole (A B : Type 0) (x : Checked A) (f : A → Checked B) (b : B) : Type 0 where
  pub part : A
  pub is : x ≡ Ok part
  pub made : f part ≡ Ok b

pub whole-part : {A B : Type 0} (x : Checked A) (f : A → Checked B) (b : B) → where_whole x f ≡ Ok b → Whole A B x f b
whole-part (Ok a) f b h = record { part = a; is = refl; made = h }
whole-part (Err e) f b h = absurd (cc)

pub record Both (A B : Type 0) (x : Checked A) (y : Checked B) (p : A × B) : Type 0 where
  pub left : x ≡ Ok p.0
  pub right : y ≡ Ok p.1

pub joined-both : {A B : Type 0} (x : Checked A) (y : Checked B) (p : A × B) → joined x y ≡ Ok p → Both A B x y p
joined-both {A = A} {B = B} (Ok a) (Ok b) p h = let e : (a, b) ≡ p = cc in record { left = ap (λ (q : A × B). Ok q.0) e; right = ap (λ (q : A × B). Ok q.1) e }
joined-both (Ok a) (Err y) p h = absurd (cc)
joined-both (Err x) (Ok b) p h = absurd (cc)
joined-both (Err x) (Err y) p h = absurd (cc)

pub lesser-both : {A B : Type 0} (x : Checked A) (y : Checked B) (p : A × B) → lesser x y ≡ Ok p → Both A B x y p
lesser-both {A = A} {B = B} (Ok a) (Ok b) p h = let e : (a, b) ≡ p = cc in record { left = ap (λ (q : A × B). Ok q.0) e; right = ap (λ (q : A × B). Ok q.1) e }
lesser-both (Ok a) (Err y) p h = absurd (cc)
lesser-both (Err x) (Ok b) p h = absurd (cc)
lesser-both (Err x) (Err y) p h = absurd (cc)
