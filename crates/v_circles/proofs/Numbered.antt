-- The numbers of modules: of two with one name the first one counts.
use Rattle.std.proofs.Common.{◌≡◌, ℕ, suc, ◌<◌, ◌≤◌, ◌==◌, Bool, true, false, List, [], ◌∷◌, Option, Some, None, refl, sym, ap, ◌∙◌, if◌then◌else◌, arith}
use Rattle.std.proofs.lemmas.Bool.{false≢true, eq-eqb, false_from_ne_true, eqb-true}
use Rattle.std.specs.Str.{bytes_eq}
use Rattle.v_tree.specs.Names.{Name}
use Rattle.v_tree.specs.Scopes.{part, Declared, is_declared}
use Rattle.v_tree.specs.Rules.{links_of, module_links}
use Rattle.v_tree.specs.declared.items.VModule.{VModule}
use Rattle.v_rules.specs.Tables.{no_numbers, numbers_from}
use Rattle.v_circles.specs.Calls.{own_number}
use Rattle.v_circles.proofs.Shortest.{names-equal, same-name}

pub number-low : (n k : ℕ) (b : Bool) (o : Option ℕ) → (if b then Some n else o) ≡ Some k → (o ≡ Some k → suc n ≤ k) → n ≤ k
number-low n k true o e h = let same : n ≡ k = cc in omega (arith, same)
number-low n k false o e h = omega (arith, h e)

numbers-low : (n k : ℕ) (ms : List VModule) (a : Name) → numbers_from n ms no_numbers a ≡ Some k → n ≤ k
numbers-low n k [] a e = cc
numbers-low n k (m ∷ ms) a e = number-low n k (bytes_eq m.name a) (numbers_from (suc n) ms no_numbers a) e (numbers-low (suc n) k ms a)

pub number-one : (n k : ℕ) (m a b : Name) (x y : Bool) (o p : Option ℕ) → bytes_eq m a ≡ x → bytes_eq m b ≡ y → (if x then Some n else o) ≡ Some k → (if y then Some n else p) ≡ Some k
    → (o ≡ Some k → suc n ≤ k) → (p ≡ Some k → suc n ≤ k) → (o ≡ Some k → p ≡ Some k → a ≡ b) → a ≡ b
number-one n k m a b true true o p ea eb e f low high h = sym (names-equal m a ea) ∙ names-equal m b eb
number-one n k m a b true false o p ea eb e f low high h = let same : n ≡ k = cc in absurd (omega (arith, same, high f))
number-one n k m a b false true o p ea eb e f low high h = let same : n ≡ k = cc in absurd (omega (arith, same, low e))
number-one n k m a b false false o p ea eb e f low high h = h e f

-- two names with one number are one
numbers-one : (n k : ℕ) (ms : List VModule) (a b : Name) → numbers_from n ms no_numbers a ≡ Some k → numbers_from n ms no_numbers b ≡ Some k → a ≡ b
numbers-one n k [] a b e f = cc
numbers-one n k (m ∷ ms) a b e f =
    number-one n k m.name a b (bytes_eq m.name a) (bytes_eq m.name b) (numbers_from (suc n) ms no_numbers a) (numbers_from (suc n) ms no_numbers b) refl refl e f
    (numbers-low (suc n) k ms a) (numbers-low (suc n) k ms b) (numbers-one (suc n) k ms a b)

pub one-name : (ms : List VModule) (k : ℕ) (a b : Name) → numbers_from 0 ms no_numbers a ≡ Some k → numbers_from 0 ms no_numbers b ≡ Some k → a ≡ b
one-name ms k a b = numbers-one 0 k ms a b

-- a name without a number has no links
number-links : (n : ℕ) (m : VModule) (a : Name) (to rest : List Name) (b : Bool) (o : Option ℕ) → (if b then Some n else o) ≡ None → (o ≡ None → rest ≡ []) → (if b then to else rest) ≡ []
number-links n m a to rest true o e h = cc
number-links n m a to rest false o e h = h e

numbers-links : (n : ℕ) (ms : List VModule) (a : Name) → numbers_from n ms no_numbers a ≡ None → links_of (module_links ms) a ≡ []
numbers-links n [] a e = refl
numbers-links n (m ∷ ms) a e =
    number-links n m a _ (links_of (module_links ms) a) (bytes_eq m.name a) (numbers_from (suc n) ms no_numbers a) e (numbers-links (suc n) ms a)

pub no-links : (ms : List VModule) (a : Name) → numbers_from 0 ms no_numbers a ≡ None → links_of (module_links ms) a ≡ []
no-links ms a = numbers-links 0 ms a

-- Of the modules from one on, where these stand before it: a name among those before has a lesser number, and any other one the number that it has
-- among those from here on.
pub record Since (all : List VModule) (n : ℕ) (before : List Declared) (ms : List VModule) : Type 0 where
  pub old : (a : Name) → is_declared before a ≡ true → (k : ℕ) × (numbers_from 0 all no_numbers a ≡ Some k) × (k < n)
  pub new : (a : Name) → is_declared before a ≡ false → numbers_from 0 all no_numbers a ≡ numbers_from n ms no_numbers a

pub since-begin : (all : List VModule) → Since all 0 [] all
since-begin all = record { old = λ a e. absurd (false≢true e); new = λ a e. refl }

-- what a name met here has for a number
old-number : (n : ℕ) (o p : Option ℕ) (c d : Bool) → c ≡ d → (d ≡ true → (k : ℕ) × (o ≡ Some k) × (k < n)) → (d ≡ false → o ≡ p) → p ≡ Some n → (k : ℕ) × (o ≡ Some k) × (k < suc n)
old-number n o p true d e old new is = let h = old (sym e) in (h.0, h.1, omega (arith, h.2))
old-number n o p false d e old new is = (n, new (sym e) ∙ is, omega arith)

since-old : (n : ℕ) (m a : Name) (o p : Option ℕ) (b d : Bool) → (if b then true else d) ≡ true → (d ≡ true → (k : ℕ) × (o ≡ Some k) × (k < n)) → (d ≡ false → o ≡ (if b then Some n else p))
    → (k : ℕ) × (o ≡ Some k) × (k < suc n)
since-old n m a o p true d e old new = old-number n o (Some n) d d refl old new refl
since-old n m a o p false d e old new = let h = old e in (h.0, h.1, omega (arith, h.2))

pub since-new : (n : ℕ) (o p : Option ℕ) (b d : Bool) → (if b then true else d) ≡ false → (d ≡ false → o ≡ (if b then Some n else p)) → o ≡ p
since-new n o p true d e new = absurd (false≢true (sym e))
since-new n o p false d e new = new e

pub since-next : (all : List VModule) (n : ℕ) (before : List Declared) (m : VModule) (ms : List VModule) (token : ℕ) → Since all n before (m ∷ ms)
    → Since all (suc n) (record { name = m.name; token = token; thing = part } ∷ before) ms
since-next all n before m ms token h = record {
  old = λ a e. since-old n m.name a (numbers_from 0 all no_numbers a) (numbers_from (suc n) ms no_numbers a) (bytes_eq m.name a) (is_declared before a) e (h.old a) (h.new a);
  new = λ a e. since-new n (numbers_from 0 all no_numbers a) (numbers_from (suc n) ms no_numbers a) (bytes_eq m.name a) (is_declared before a) e (h.new a);
}

-- the number of a module that is the first one with its name, and of another one
own-some : (k n : ℕ) (b : Bool) → (k == n) ≡ b → b ≡ false → own_number (Some k) n ≡ None
own-some k n b e f = ap (λ c. if c then Some k else None) (e ∙ f)

own-same : (n : ℕ) → own_number (Some n) n ≡ Some n
own-same n = ap (λ c. if c then Some n else None) (eq-eqb n n refl)

less-differs : (k n : ℕ) → k < n → (k == n) ≡ false
less-differs k n low = false_from_ne_true (k == n) (λ e. absurd (omega (arith, low, eqb-true k n e)))

pub own-repeated : (all : List VModule) (n : ℕ) (before : List Declared) (m : VModule) (ms : List VModule) → Since all n before (m ∷ ms) → is_declared before m.name ≡ true
    → own_number (numbers_from 0 all no_numbers m.name) n ≡ None
own-repeated all n before m ms h e =
    let k = h.old m.name e in ap (λ o. own_number o n) k.1 ∙ own-some k.0 n (k.0 == n) refl (less-differs k.0 n k.2)

pub first-number : (all : List VModule) (n : ℕ) (before : List Declared) (m : VModule) (ms : List VModule) → Since all n before (m ∷ ms) → is_declared before m.name ≡ false
    → numbers_from 0 all no_numbers m.name ≡ Some n
first-number all n before m ms h e =
    h.new m.name e ∙ ap (λ c. if c then Some n else numbers_from (suc n) ms no_numbers m.name) (same-name m.name)

pub own-first : (all : List VModule) (n : ℕ) (before : List Declared) (m : VModule) (ms : List VModule) → Since all n before (m ∷ ms) → is_declared before m.name ≡ false
    → own_number (numbers_from 0 all no_numbers m.name) n ≡ Some n
own-first all n before m ms h e = ap (λ o. own_number o n) (first-number all n before m ms h e) ∙ own-same n
