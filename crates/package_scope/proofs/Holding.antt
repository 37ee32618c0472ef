-- The imports of all names in a scope bring what the packages that declare the name bring, each from its earliest import on.
use Rattle.std.proofs.Common.{◌≡◌, ℕ, suc, Bool, true, false, ◌&&◌, ◌||◌, nat_eq, nat_lt, cond, if◌then◌else◌, List, [], ◌∷◌, Option, Some, None, refl, sym, ap, ◌∙◌, arith}
use Rattle.std.specs.Prelude.{filter}
use Rattle.std.specs.List.{list_any}
use Rattle.std.specs.Str.{bytes_eq}
use Rattle.std.proofs.lemmas.Bool.{false≢true}
use Rattle.std.proofs.lemmas.Bool.Decides.{nat_tests}
use Rattle.package_scope.specs.Earliest.{is_before, sooner}
use Rattle.package_scope.specs.Lookup.{or_later, is_named, is_everywhere, first_from, everywhere_from, or_everywhere, own, in_scope_of, package_scope, stands_in, found, same_or_twice, both, brought, brings, all_bring, by_wildcards}
use Rattle.package_scope.specs.Packages.{same_scope, start_if, start_from, holders_from, held, all_held}
use Rattle.package_scope.specs.declared.table.Declaration.{Declaration}
use Rattle.package_scope.specs.declared.table.Found.{Found}
use Rattle.package_scope.specs.declared.table.Found.TheVariants.{Decl, Absent, Twice}
use Rattle.package_scope.specs.declared.table.Table.{Table}
use Rattle.package_scope.specs.declared.table.WildcardImport.{WildcardImport}

-- What two imports bring together doesn't hang on their order.
both-comm : (a b : Found) → both a b ≡ both b a
both-comm Absent Absent = refl
both-comm Absent (Decl m) = refl
both-comm Absent Twice = refl
both-comm Twice Absent = refl
both-comm Twice (Decl m) = refl
both-comm Twice Twice = refl
both-comm (Decl n) Absent = refl
both-comm (Decl n) Twice = refl
both-comm (Decl n) (Decl m) = by (nat_eq n m) refl
  where
    by : (b : Bool) → nat_eq n m ≡ b → same_or_twice (nat_eq n m) n ≡ same_or_twice (nat_eq m n) m
    by true h =
        let is : n ≡ m = grind (arith, nat_tests, h) in
        let back : nat_eq m n ≡ true = grind (arith, nat_tests, h) in
        ap (λ b. same_or_twice b n) h ∙ ap Decl is ∙ sym (ap (λ b. same_or_twice b m) back)
    by false h =
        let back : nat_eq m n ≡ false = grind (arith, nat_tests, h) in
        ap (λ b. same_or_twice b n) h ∙ sym (ap (λ b. same_or_twice b m) back)

absent-behind : (b : Bool) (n : ℕ) → both (same_or_twice b n) Absent ≡ same_or_twice b n
absent-behind true n = refl
absent-behind false n = refl

twice-behind : (b : Bool) (n : ℕ) → both (same_or_twice b n) Twice ≡ Twice
twice-behind true n = refl
twice-behind false n = refl

three : (n m k : ℕ) (a b c : Bool) → nat_eq n m ≡ a → nat_eq m k ≡ b → nat_eq n k ≡ c → both (same_or_twice a n) (Decl k) ≡ both (Decl n) (same_or_twice b m)
three n m k true true c n_m m_k n_k =
    let same : nat_eq n k ≡ true = grind (arith, nat_tests, n_m, m_k) in
    ap (λ b. same_or_twice b n) same ∙ sym (ap (λ b. same_or_twice b n) n_m)
three n m k true false c n_m m_k n_k =
    let other : nat_eq n k ≡ false = grind (arith, nat_tests, n_m, m_k) in
    ap (λ b. same_or_twice b n) other
three n m k false true c n_m m_k n_k = sym (ap (λ b. same_or_twice b n) n_m)
three n m k false false c n_m m_k n_k = refl

both-assoc : (a b c : Found) → both (both a b) c ≡ both a (both b c)
both-assoc Absent b c = refl
both-assoc Twice b c = refl
both-assoc (Decl n) Absent c = refl
both-assoc (Decl n) Twice c = refl
both-assoc (Decl n) (Decl m) Absent = absent-behind (nat_eq n m) n
both-assoc (Decl n) (Decl m) Twice = twice-behind (nat_eq n m) n
both-assoc (Decl n) (Decl m) (Decl k) = three n m k (nat_eq n m) (nat_eq m k) (nat_eq n k) refl refl refl

four : (a b c d : Found) → both (both a b) (both c d) ≡ both (both a c) (both b d)
four a b c d =
    both-assoc a b (both c d)
    ∙ ap (both a) (sym (both-assoc b c d) ∙ ap (λ x. both x d) (both-comm b c) ∙ both-assoc c b d)
    ∙ sym (both-assoc a c (both b d))

-- over a list of scopes
abbrev over : (ℕ → Found) → List ℕ → Found
over f [] = Absent
over f (p ∷ ps) = both (f p) (over f ps)

over-both : (f g : ℕ → Found) (ps : List ℕ) → over (λ p. both (f p) (g p)) ps ≡ both (over f ps) (over g ps)
over-both f g [] = refl
over-both f g (p ∷ ps) = ap (both (both (f p) (g p))) (over-both f g ps) ∙ four (f p) (g p) (over f ps) (over g ps)

over-same : (f g : ℕ → Found) (ps : List ℕ) → ((p : ℕ) → f p ≡ g p) → over f ps ≡ over g ps
over-same f g [] same = refl
over-same f g (p ∷ ps) same = ap (λ x. both x (over f ps)) (same p) ∙ ap (both (g p)) (over-same f g ps same)

over-absent : (ps : List ℕ) → over (λ p. Absent) ps ≡ Absent
over-absent [] = refl
over-absent (p ∷ ps) = over-absent ps

both-self : (o : Option ℕ) → both (found o) (found o) ≡ found o
both-self None = refl
both-self (Some n) = let same : nat_eq n n ≡ true = grind (arith, nat_tests) in ap (λ b. same_or_twice b n) same

both-none : (o : Option ℕ) → both (found o) Absent ≡ found o
both-none None = refl
both-none (Some n) = refl

both-brought : (b c : Bool) (o : Option ℕ) → both (brought b o) (brought c o) ≡ brought (b || c) o
both-brought true true o = both-self o
both-brought true false o = both-none o
both-brought false c o = refl

over-picked : (q : ℕ) (o : Option ℕ) (ps : List ℕ) → over (λ p. brought (nat_eq q p) o) ps ≡ brought (list_any (nat_eq q) ps) o
over-picked q o [] = refl
over-picked q o (p ∷ ps) = ap (both (brought (nat_eq q p) o)) (over-picked q o ps) ∙ both-brought (nat_eq q p) (list_any (nat_eq q) ps) o

-- A scope that doesn't declare a name brings nothing under it.
or-parts : (a b : Bool) → (a || b) ≡ false → (a ≡ false) × (b ≡ false)
or-parts false false e = (refl, refl)
or-parts false true e = absurd (false≢true (sym e))
or-parts true b e = absurd (false≢true (sym e))

and-false : (b : Bool) → (b && false) ≡ false
and-false true = refl
and-false false = refl

and-true : (b : Bool) → (b && true) ≡ b
and-true true = refl
and-true false = refl

not-here : (q : ℕ) (name : List ℕ) (d : Declaration) (ds : List Declaration) → list_any (nat_eq q) (holders_from name (d ∷ ds)) ≡ false
    → (is_named q name d ≡ false) × (list_any (nat_eq q) (holders_from name ds) ≡ false)
not-here q name d ds none = by (bytes_eq d.name name) refl
  where
    by : (b : Bool) → bytes_eq d.name name ≡ b → (is_named q name d ≡ false) × (list_any (nat_eq q) (holders_from name ds) ≡ false)
    by true h =
        let parts : (nat_eq q d.scope ≡ false) × (list_any (nat_eq q) (holders_from name ds) ≡ false) =
        or-parts (nat_eq q d.scope) (list_any (nat_eq q) (holders_from name ds))
        (sym (ap (λ b. list_any (nat_eq q) (cond b (d.scope ∷ holders_from name ds) (holders_from name ds))) h) ∙ none) in
        let other : nat_eq d.scope q ≡ false = grind (arith, nat_tests, parts.0) in
        (ap (λ b. b && bytes_eq d.name name) other, parts.1)
    by false h = (
      ap (λ b. nat_eq d.scope q && b) h ∙ and-false (nat_eq d.scope q),
      sym (ap (λ b. list_any (nat_eq q) (cond b (d.scope ∷ holders_from name ds) (holders_from name ds))) h) ∙ none,
    )

first-absent : (q : ℕ) (name : List ℕ) (n : ℕ) (ds : List Declaration) → list_any (nat_eq q) (holders_from name ds) ≡ false → first_from n q name ds ≡ None
first-absent q name n [] none = refl
first-absent q name n (d ∷ ds) none =
    ap (λ b. or_later b n (first_from (suc n) q name ds)) (not-here q name d ds none).0 ∙ first-absent q name (suc n) ds (not-here q name d ds none).1

everywhere-absent : (q : ℕ) (name : List ℕ) (n : ℕ) (ds : List Declaration) → list_any (nat_eq q) (holders_from name ds) ≡ false → everywhere_from n q name ds ≡ None
everywhere-absent q name n [] none = refl
everywhere-absent q name n (d ∷ ds) none =
    ap (λ b. or_later (b && is_everywhere d.what) n (everywhere_from (suc n) q name ds)) (not-here q name d ds none).0
    ∙ everywhere-absent q name (suc n) ds (not-here q name d ds none).1

own-absent : (t : Table) (q : ℕ) (name : List ℕ) (at : ℕ) → list_any (nat_eq q) (holders_from name t.declared) ≡ false → own t q name at ≡ None
own-absent t q name at none =
    ap (λ o. or_everywhere t at o (everywhere_from 0 q name t.declared)) (first-absent q name 0 t.declared none)
    ∙ everywhere-absent q name 0 t.declared none

-- one import, among all scopes that declare the name
in-scope : (t : Table) (q : ℕ) (name : List ℕ) (at p : ℕ) (b : Bool) → nat_eq q p ≡ b → brought (nat_eq q p && true) (own t p name at) ≡ brought (nat_eq q p) (own t q name at)
in-scope t q name at p true h =
    let is : p ≡ q = grind (arith, nat_tests, h) in
    ap (λ b. brought (b && true) (own t p name at)) h ∙ ap (λ x. found (own t x name at)) is ∙ sym (ap (λ b. brought b (own t q name at)) h)
in-scope t q name at p false h =
    ap (λ b. brought (b && true) (own t p name at)) h ∙ sym (ap (λ b. brought b (own t q name at)) h)

if-held : (t : Table) (q : ℕ) (name : List ℕ) (at : ℕ) (b : Bool) → list_any (nat_eq q) (holders_from name t.declared) ≡ b
    → brought (list_any (nat_eq q) (holders_from name t.declared)) (own t q name at) ≡ found (own t q name at)
if-held t q name at true h = ap (λ b. brought b (own t q name at)) h
if-held t q name at false h = ap (λ b. brought b (own t q name at)) h ∙ sym (ap found (own-absent t q name at h))

none-brought : (c : Bool) → Absent ≡ brought c None
none-brought true = refl
none-brought false = refl

from-package : (t : Table) (name : List ℕ) (at : ℕ) (o : Option ℕ) (c : Bool)
    → over (λ p. brought (same_scope o p && c) (own t p name at)) (holders_from name t.declared) ≡ brought c (in_scope_of t o name at)
from-package t name at None c = over-absent (holders_from name t.declared) ∙ none-brought c
from-package t name at (Some q) false =
    over-same (λ p. brought (nat_eq q p && false) (own t p name at)) (λ p. Absent) (holders_from name t.declared)
    (λ p. ap (λ b. brought b (own t p name at)) (and-false (nat_eq q p)))
    ∙ over-absent (holders_from name t.declared)
from-package t name at (Some q) true =
    over-same (λ p. brought (nat_eq q p && true) (own t p name at)) (λ p. brought (nat_eq q p) (own t q name at)) (holders_from name t.declared)
    (λ p. in-scope t q name at p (nat_eq q p) refl)
    ∙ over-picked q (own t q name at) (holders_from name t.declared)
    ∙ if-held t q name at (list_any (nat_eq q) (holders_from name t.declared)) refl

-- one more import
or-false : (b : Bool) → b ≡ (b || false)
or-false true = refl
or-false false = refl

sooner-either : (a n at : ℕ) (b c d : Bool) → nat_lt a n ≡ b → nat_lt a at ≡ c → nat_lt n at ≡ d → nat_lt (if b then a else n) at ≡ (c || d)
sooner-either a n at true true d h k l = k
sooner-either a n at true false true h k l = grind (arith, nat_tests, h, k, l)
sooner-either a n at true false false h k l = k
sooner-either a n at false true true h k l = l
sooner-either a n at false true false h k l = grind (arith, nat_tests, h, k, l)
sooner-either a n at false false d h k l = l

sooner-before : (a : ℕ) (r : Option ℕ) (at : ℕ) → nat_lt (sooner a r) at ≡ (nat_lt a at || is_before r at)
sooner-before a None at = or-false (nat_lt a at)
sooner-before a (Some n) at = sooner-either a n at (nat_lt a n) (nat_lt a at) (nat_lt n at) refl refl refl

one-more : (c : Bool) (a : ℕ) (r : Option ℕ) (at : ℕ) (o : Option ℕ)
    → brought (is_before (start_if c a r) at) o ≡ both (brought (c && nat_lt a at) o) (brought (is_before r at) o)
one-more false a r at o = refl
one-more true a r at o = ap (λ b. brought b o) (sooner-before a r at) ∙ sym (both-brought (nat_lt a at) (is_before r at) o)

-- the import i first, which stands in the scope or doesn't
abbrev from : Table → ℕ → List ℕ → ℕ → WildcardImport → List WildcardImport → Bool → ℕ → Found
from t s name at i is b p = brought (is_before (start_if (b && same_scope (package_scope t i.source i.source_at) p) i.at (start_from t s p is)) at) (own t p name at)

abbrev later : Table → ℕ → List ℕ → ℕ → List WildcardImport → ℕ → Found
later t s name at is p = brought (is_before (start_from t s p is) at) (own t p name at)

abbrev first : Table → List ℕ → ℕ → WildcardImport → ℕ → Found
first t name at i p = brought (same_scope (package_scope t i.source i.source_at) p && nat_lt i.at at) (own t p name at)

import-first : (t : Table) (s : ℕ) (name : List ℕ) (at : ℕ) (i : WildcardImport) (is : List WildcardImport) (b : Bool) → stands_in s i ≡ b
    → over (later t s name at is) (holders_from name t.declared) ≡ all_bring t name at (filter (stands_in s) is)
    → over (from t s name at i is b) (holders_from name t.declared) ≡ all_bring t name at (if b then i ∷ filter (stands_in s) is else filter (stands_in s) is)
import-first t s name at i is false h so_far = so_far
import-first t s name at i is true h so_far =
    over-same (from t s name at i is true) (λ p. both (first t name at i p) (later t s name at is p))
    (holders_from name t.declared) (λ p. one-more (same_scope (package_scope t i.source i.source_at) p) i.at (start_from t s p is) at (own t p name at))
    ∙ over-both (first t name at i) (later t s name at is) (holders_from name t.declared)
    ∙ ap (λ x. both x (over (later t s name at is) (holders_from name t.declared))) (from-package t name at (package_scope t i.source i.source_at) (nat_lt i.at at))
    ∙ ap (both (brings t name at i)) so_far

by-holders : (t : Table) (s : ℕ) (name : List ℕ) (at : ℕ) (is : List WildcardImport)
    → over (later t s name at is) (holders_from name t.declared) ≡ all_bring t name at (filter (stands_in s) is)
by-holders t s name at [] = over-absent (holders_from name t.declared)
by-holders t s name at (i ∷ is) = import-first t s name at i is (stands_in s i) refl (by-holders t s name at is)

held-over : (t : Table) (s : ℕ) (name : List ℕ) (at : ℕ) (ps : List ℕ) → all_held t s name at ps ≡ over (held t s name at) ps
held-over t s name at [] = refl
held-over t s name at (p ∷ ps) = ap (both (held t s name at p)) (held-over t s name at ps)

pub held-is : (t : Table) (s : ℕ) (name : List ℕ) (at : ℕ) → all_held t s name at (holders_from name t.declared) ≡ by_wildcards t s name at
held-is t s name at = held-over t s name at (holders_from name t.declared) ∙ by-holders t s name at t.wildcards
