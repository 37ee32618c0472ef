-- Where all items of a pattern are whole in each type that takes them, what is made of them is whole.
use Rattle.std.proofs.Common.{◌≡◌, ◌<◌, ℕ, zero, suc, ◌+◌, ◌*◌, ◌%◌, Bool, true, false, not, cond, List, [], ◌∷◌, ◌++◌, length, map, Some, refl, arith, ap, sym, ◌∙◌, subst}
use Rattle.std.specs.Prelude.{Ok, flat_map, slice_get, zip, ◌==◌}
use Rattle.std.proofs.lemmas.Bool.Decides.{nat_tests}
use Rattle.std.proofs.lemmas.Nat.{mod_below}
use Rattle.sv_types.specs.declared.expression.Expr.{Expr}
use Rattle.sv_types.specs.declared.expression.Form.TheVariants as F
use Rattle.sv_types.specs.declared.types.SvType.{SvType}
use Rattle.pattern_fit.specs.declared.pattern.PatternItem.{PatternItem}
use Rattle.pattern_fit.specs.declared.pattern.PatternItem.TheVariants as I
use Rattle.pattern_fit.specs.declared.pattern.Rest.{Rest}
use Rattle.pattern_fit.specs.declared.pattern.Rest.TheVariants.{Absent}
use Rattle.expr_type.specs.Answers.{reason}
use Rattle.expr_type.specs.Names.{Source}
use Rattle.expr_type.specs.Operands.{Operand, passed}
use Rattle.expr_type.specs.Operators.{expr_at}
use Rattle.expr_type.specs.Patterns.{Item, Taken, by_item, default_types, defaults, is_default, is_item, keyed, leaves, levels, made, rest_of, spread, takes_itself, tried, tries, types_in, value_of}
use Rattle.expr_type.specs.Typings.{Checked, all_of, where_whole}
use Rattle.pattern_laws.specs.Reasons.{IsWhole}
use Rattle.pattern_laws.proofs.Covering.{AllThere, IsThere}
use Rattle.pattern_laws.proofs.Reasons.{followed-left, followed-right, followed-whole, reason-all, where-fine}
use Rattle.pattern_laws.proofs.Tried.{AllPassed, all-passed, passed-back, passed-front}

-- lists of what is whole
pub all-more : {A : Type 0} (x : Checked A) (xs : List (Checked A)) → IsWhole x → IsWhole (all_of xs) → IsWhole (all_of (x ∷ xs))
all-more x xs h g = reason-all x xs ∙ followed-whole (reason x) (reason (all_of xs)) h g

pub all-first : {A : Type 0} (x : Checked A) (xs : List (Checked A)) → IsWhole (all_of (x ∷ xs)) → IsWhole x
all-first x xs h = followed-left (reason x) (reason (all_of xs)) (sym (reason-all x xs) ∙ h)

pub all-behind : {A : Type 0} (x : Checked A) (xs : List (Checked A)) → IsWhole (all_of (x ∷ xs)) → IsWhole (all_of xs)
all-behind x xs h = followed-right (reason x) (reason (all_of xs)) (sym (reason-all x xs) ∙ h)

-- the value of `default` on its way into members
spread-by : (k : Source) (tick : ℕ) (v : Operand) (f : SvType → Checked Expr) (g : SvType → List SvType) (t : SvType) (b : Bool) → AllPassed k v (cond b (t ∷ []) (flat_map g (types_in t)))
    → (AllPassed k v (flat_map g (types_in t)) → IsWhole (all_of (map f (types_in t)))) → IsWhole (cond b (passed k t v) (where_whole (all_of (map f (types_in t))) (λ es. Ok (expr_at k tick t (F.Pattern es)))))
spread-by k tick v f g t true h all = h.0
spread-by k tick v f g t false h all = where-fine (all_of (map f (types_in t))) (λ es. expr_at k tick t (F.Pattern es)) ∙ all h

all-spread : (k : Source) (v : Operand) (f : SvType → Checked Expr) (g : SvType → List SvType) (ts : List SvType) → ((t : SvType) → AllPassed k v (g t) → IsWhole (f t))
    → AllPassed k v (flat_map g ts) → IsWhole (all_of (map f ts))
all-spread k v f g [] one h = refl
all-spread k v f g (t ∷ ts) one h =
    all-more (f t) (map f ts) (one t (passed-front k v (g t) (flat_map g ts) h)) (all-spread k v f g ts one (passed-back k v (g t) (flat_map g ts) h))

pub spread-whole : (k : Source) (tick n : ℕ) (rest : Rest) (v : Operand) (t : SvType) → AllPassed k v (leaves n rest t) → IsWhole (spread k tick n rest (λ u. passed k u v) t)
spread-whole k tick zero rest v t h = h.0
spread-whole k tick (suc n) rest v t h =
    spread-by k tick v (spread k tick n rest (λ u. passed k u v)) (leaves n rest) t (takes_itself rest t) h
    (all-spread k v (spread k tick n rest (λ u. passed k u v)) (leaves n rest) (types_in t) (λ u g. spread-whole k tick n rest v u g))

-- what each item is given to
some-item : (x i : Item) → Some x ≡ Some i → x ≡ i
some-item x i h = cc

abbrev tries_by : Bool → Source → ℕ → Rest → List Taken → ℕ → Item → List Item → List (Checked (List Expr))
tries_by b k count rest ps n i is =
    cond b (tried k i.value (flat_map (default_types rest) ps) ∷ tries k count rest ps n is) (tried k i.value (by_item count n ps) ∷ tries k count rest ps (suc n) is)

keyed-by : (k : Source) (count : ℕ) (rest : Rest) (ps : List Taken) (n j : ℕ) (x i : Item) (is : List Item) (b : Bool) → IsWhole (all_of (tries_by b k count rest ps n x is))
    → slice_get (cond (not b) (x ∷ keyed is) (keyed is)) j ≡ Some i
    → ((m l : ℕ) → IsWhole (all_of (tries k count rest ps m is)) → slice_get (keyed is) l ≡ Some i → AllPassed k i.value (by_item count (m + l) ps)) → AllPassed k i.value (by_item count (n + j) ps)
keyed-by k count rest ps n j x i is true h at more = more n j (all-behind (tried k x.value (flat_map (default_types rest) ps)) (tries k count rest ps n is) h) at
keyed-by k count rest ps n zero x i is false h at more =
    let e : n ≡ n + 0 = omega arith in
    let one = all-passed k x.value (by_item count n ps) (all-first (tried k x.value (by_item count n ps)) (tries k count rest ps (suc n) is) h) in
    subst (λ m. AllPassed k i.value (by_item count m ps)) e (subst (λ (y : Item). AllPassed k y.value (by_item count n ps)) (some-item x i at) one)
keyed-by k count rest ps n (suc j) x i is false h at more =
    let e : suc n + j ≡ n + suc j = omega arith in
    subst (λ m. AllPassed k i.value (by_item count m ps)) e (more (suc n) j (all-behind (tried k x.value (by_item count n ps)) (tries k count rest ps (suc n) is) h) at)

tries-keyed : (k : Source) (count : ℕ) (rest : Rest) (ps : List Taken) (n j : ℕ) (i : Item) (is : List Item) → IsWhole (all_of (tries k count rest ps n is)) → slice_get (keyed is) j ≡ Some i
    → AllPassed k i.value (by_item count (n + j) ps)
tries-keyed k count rest ps n j i [] h at = absurd (cc)
tries-keyed k count rest ps n j i (x ∷ is) h at = keyed-by k count rest ps n j x i is (is_default x.key) h at (λ m l g a. tries-keyed k count rest ps m l i is g a)

default-by : (k : Source) (count : ℕ) (rest : Rest) (ps : List Taken) (n : ℕ) (x i : Item) (is : List Item) (b : Bool) → IsWhole (all_of (tries_by b k count rest ps n x is))
    → slice_get (cond b (x ∷ defaults is) (defaults is)) 0 ≡ Some i
    → ((m : ℕ) → IsWhole (all_of (tries k count rest ps m is)) → slice_get (defaults is) 0 ≡ Some i → AllPassed k i.value (flat_map (default_types rest) ps)) → AllPassed k i.value (flat_map (default_types rest) ps)
default-by k count rest ps n x i is true h at more =
    let one = all-passed k x.value (flat_map (default_types rest) ps) (all-first (tried k x.value (flat_map (default_types rest) ps)) (tries k count rest ps n is) h) in
    subst (λ (y : Item). AllPassed k y.value (flat_map (default_types rest) ps)) (some-item x i at) one
default-by k count rest ps n x i is false h at more = more (suc n) (all-behind (tried k x.value (by_item count n ps)) (tries k count rest ps (suc n) is) h) at

tries-default : (k : Source) (count : ℕ) (rest : Rest) (ps : List Taken) (n : ℕ) (i : Item) (is : List Item) → IsWhole (all_of (tries k count rest ps n is)) → slice_get (defaults is) 0 ≡ Some i
    → AllPassed k i.value (flat_map (default_types rest) ps)
tries-default k count rest ps n i [] h at = absurd (cc)
tries-default k count rest ps n i (x ∷ is) h at = default-by k count rest ps n x i is (is_default x.key) h at (λ m g a. tries-default k count rest ps m i is g a)

-- what is made
abbrev GivenKeyed : Source → List Item → List Taken → Type 0
GivenKeyed k is qs = (j : ℕ) (i : Item) → slice_get (keyed is) j ≡ Some i → AllPassed k i.value (by_item (length (keyed is)) j qs)

abbrev GivenDefault : Source → List Item → List Taken → Type 0
GivenDefault k is qs = (i : Item) → slice_get (defaults is) 0 ≡ Some i → AllPassed k i.value (flat_map (default_types (rest_of (defaults is))) qs)

keyed-rest : (k : Source) (is : List Item) (q : Taken) (qs : List Taken) → GivenKeyed k is (q ∷ qs) → GivenKeyed k is qs
keyed-rest k is q qs h j i at = passed-back k i.value (cond (is_item (length (keyed is)) j q.0) (q.1 ∷ []) []) (by_item (length (keyed is)) j qs) (h j i at)

default-rest : (k : Source) (is : List Item) (q : Taken) (qs : List Taken) → GivenDefault k is (q ∷ qs) → GivenDefault k is qs
default-rest k is q qs h i at = passed-back k i.value (default_types (rest_of (defaults is)) q) (flat_map (default_types (rest_of (defaults is))) qs) (h i at)

pub there-at : {A : Type 0} (xs : List A) (n : ℕ) → n < length xs → (x : A) × (slice_get xs n ≡ Some x)
there-at [] n h = absurd (omega arith)
there-at (x ∷ xs) zero h = (x, refl)
there-at (x ∷ xs) (suc n) h = there-at xs n (omega arith)

first-there : (ds : List Item) → (rest_of ds ≡ Absent → ⊥) → (i : Item) × (slice_get ds 0 ≡ Some i)
first-there [] h = elim (h refl) [ ]
first-there (d ∷ ds) h = (d, refl)

one-by : (k : Source) (v : Operand) (t : SvType) (b : Bool) (ts : List SvType) → b ≡ true → AllPassed k v (cond b (t ∷ []) [] ++ ts) → IsWhole (passed k t v)
one-by k v t true ts e h = h.0
one-by k v t false ts e h = absurd (cc)

self-eq : (n : ℕ) → (n == n) ≡ true
self-eq n = grind (arith, nat_tests)

item-made : (k : Source) (is : List Item) (m : ℕ) (t : SvType) (qs : List Taken) (i : Item) → slice_get (keyed is) (m % length (keyed is)) ≡ Some i
    → GivenKeyed k is ((I.Item m, t) ∷ qs) → IsWhole (value_of (slice_get (keyed is) (m % length (keyed is))) k t)
item-made k is m t qs i at h =
    ap (λ o. reason (value_of o k t)) at
    ∙ one-by k i.value t (is_item (length (keyed is)) (m % length (keyed is)) (I.Item m)) (by_item (length (keyed is)) (m % length (keyed is)) qs) (self-eq (m % length (keyed is))) (h (m % length (keyed is)) i at)

default-made : (k : Source) (tick : ℕ) (is : List Item) (t : SvType) (i : Item) → slice_get (defaults is) 0 ≡ Some i → AllPassed k i.value (leaves (levels t) (rest_of (defaults is)) t)
    → IsWhole (spread k tick (levels t) (rest_of (defaults is)) (value_of (slice_get (defaults is) 0) k) t)
default-made k tick is t i at h =
    ap (λ o. reason (spread k tick (levels t) (rest_of (defaults is)) (value_of o k) t)) at ∙ spread-whole k tick (levels t) (rest_of (defaults is)) i.value t h

times-none : (n m : ℕ) → n ≡ 0 → m * n ≡ 0
times-none n m e = ap (λ x. m * x) e ∙ omega arith

some-keyed : (times m n : ℕ) → m < times * n → 0 < n
some-keyed times m zero h = let e = times-none 0 times refl in absurd (omega (arith, h, e))
some-keyed times m (suc n) h = omega arith

one-made : (k : Source) (tick times : ℕ) (is : List Item) (x : PatternItem) (t : SvType) (qs : List Taken) → IsThere (times * length (keyed is)) (rest_of (defaults is)) x
    → GivenKeyed k is ((x, t) ∷ qs) → GivenDefault k is ((x, t) ∷ qs) → IsWhole (made k tick is (x, t))
one-made k tick times is (I.Item m) t qs there h g =
    let n = length (keyed is) in
    let found = there-at (keyed is) (m % n) (mod_below m n (some-keyed times m n there)) in
    item-made k is m t qs found.0 found.1 h
one-made k tick times is I.Default t qs there h g =
    let found = first-there (defaults is) there in
    default-made k tick is t found.0 found.1 (passed-front k found.0.value (leaves (levels t) (rest_of (defaults is)) t) (flat_map (default_types (rest_of (defaults is))) qs) (g found.0 found.1))
one-made k tick times is I.Spread t qs there h g =
    let found = first-there (defaults is) there in
    default-made k tick is t found.0 found.1 (passed-front k found.0.value (leaves (levels t) (rest_of (defaults is)) t) (flat_map (default_types (rest_of (defaults is))) qs) (g found.0 found.1))

abbrev AllTaken : ℕ → Rest → List Taken → Type 0
AllTaken n rest [] = Unit {0}
AllTaken n rest (q ∷ qs) = IsThere n rest q.0 × AllTaken n rest qs

all-made : (k : Source) (tick times : ℕ) (is : List Item) (qs : List Taken) → AllTaken (times * length (keyed is)) (rest_of (defaults is)) qs
    → GivenKeyed k is qs → GivenDefault k is qs → IsWhole (all_of (map (made k tick is) qs))
all-made k tick times is [] there h g = refl
all-made k tick times is (q ∷ qs) there h g =
    all-more (made k tick is q) (map (made k tick is) qs) (one-made k tick times is q.0 q.1 qs there.0 h g)
    (all-made k tick times is qs there.1 (keyed-rest k is q qs h) (default-rest k is q qs g))

pub zipped : (n : ℕ) (rest : Rest) (xs : List PatternItem) (ts : List SvType) → AllThere n rest xs → AllTaken n rest (zip xs ts)
zipped n rest [] ts h = tt
zipped n rest (x ∷ xs) [] h = tt
zipped n rest (x ∷ xs) (t ∷ ts) h = (h.0, zipped n rest xs ts h.1)

pub made-whole : (k : Source) (tick times : ℕ) (is : List Item) (xs : List PatternItem) (ts : List SvType) → AllThere (times * length (keyed is)) (rest_of (defaults is)) xs
    → IsWhole (all_of (tries k (length (keyed is)) (rest_of (defaults is)) (zip xs ts) 0 is)) → IsWhole (all_of (map (made k tick is) (zip xs ts)))
made-whole k tick times is xs ts there h =
    let n = length (keyed is) in
    let rest = rest_of (defaults is) in
    all-made k tick times is (zip xs ts) (zipped (times * n) rest xs ts there)
    (λ j i at. let e : 0 + j ≡ j = omega arith in subst (λ m. AllPassed k i.value (by_item n m (zip xs ts))) e (tries-keyed k n rest (zip xs ts) 0 j i is h at))
    (λ i at. tries-default k n rest (zip xs ts) 0 i is h at)
