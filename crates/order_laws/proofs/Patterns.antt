-- Assignment patterns keep the order of the text, whatever they are given to.
use Rattle.std.proofs.Common.{◌≡◌, ℕ, zero, suc, ◌+◌, ◌*◌, ◌≤◌, ◌<◌, Bool, true, false, ◌&&◌, not, cond, List, [], ◌∷◌, length, map, Option, Some, None, refl, arith, ap, sym, ◌∙◌, subst, length-append}
use Rattle.std.specs.Prelude.{Ok, Err, flat_map, nat_lt, zip}
use Rattle.std.proofs.Math.Nat.{suc-mul}
use Rattle.sv_tree.specs.Extents.{qualified_first}
use Rattle.sv_types.specs.declared.expression.Expr.{Expr}
use Rattle.sv_types.specs.declared.expression.Form.TheVariants as F
use Rattle.sv_types.specs.declared.types.SvType.{SvType}
use Rattle.sv_types.specs.Layouts.{width_of}
use Rattle.pattern_fit.specs.declared.pattern.Key.{Key}
use Rattle.pattern_fit.specs.declared.pattern.Key.TheVariants as K
use Rattle.pattern_fit.specs.declared.pattern.PatternItem.{PatternItem}
use Rattle.pattern_fit.specs.declared.pattern.Rest.{Rest}
use Rattle.pattern_fit.specs.Fits.{fits}
use Rattle.expr_type.specs.Names.{Context, Source, Thing, Signal, Local, Constant, TypeName, Interface, Other, Nothing, position, thing, word}
use Rattle.expr_type.specs.Operands.{Operand, has_bits, is_value, number_of, passed, width}
use Rattle.expr_type.specs.Operators.{by_itself, expr_at, not_too_long}
use Rattle.expr_type.specs.Patterns.{ByDefault, InPlace, Item, ItemKey, Named, Numbered, Parts, Taken, all_keys, and_key, by_item, constant_key, count_fits, default_types, defaults, fitted, fitted_by, has_members, is_default, key_in, key_of_number, keyed, made, named_key, other_key, rest_of, taken, taken_by, times_over, tried, tries, types_in}
use Rattle.expr_type.specs.Placed.{OperandStands, Placed, Stands}
use Rattle.expr_type.specs.Selects.{is_index, most_of_index}
use Rattle.expr_type.specs.Shapes.{is_unpacked, most_bits}
use Rattle.expr_type.specs.Typings.{Checked, all_of, joined, least_of_all, lesser, where_whole}
use Rattle.expr_type.specs.declared.operand.Valued.{Valued}
use Rattle.expr_type.proofs.Forms.{placed-wider}
use Rattle.expr_type.proofs.Ordering.{place}
use Rattle.expr_type.proofs.Placing.{placed-joined, placed-lesser, placed-refused, placed-then}
use Rattle.pattern_laws.specs.Reasons.{IsWhole}
use Rattle.pattern_laws.proofs.Covering.{AllThere, fits-covered}
use Rattle.pattern_laws.proofs.Whole.{made-whole}
use Rattle.order_laws.proofs.Given.{passed-stands, value-stands}
use Rattle.order_laws.proofs.Meant.{Anything, ItemStands, KeyStands, PartsStand}
use Rattle.order_laws.proofs.Operands.{placed-in}
use Rattle.order_laws.proofs.Typings.{Each, as-refused, as-then}

-- one of two, and lists of what stands in a row
placed-more : {A : Type 0} (i : ℕ) (x : Checked A) (xs : List (Checked A)) (low between high : ℕ) → low ≤ between → between ≤ high
    → Placed i low between x → Placed i between high (all_of xs) → Placed i low high (all_of (x ∷ xs))
placed-more i x xs low between high h m p q =
    placed-then i (joined x (all_of xs)) (λ t. Ok (t.0 ∷ t.1)) low high (placed-joined i x (all_of xs) low between high h m p q) (λ t. tt)

least-placed : {A : Type 0} (i : ℕ) (f : SvType → Checked A) (ts : List SvType) (low high : ℕ) → ((t : SvType) → Placed i low high (f t)) → Placed i low high (least_of_all (map f ts))
least-placed i f [] low high p = tt
least-placed i f (t ∷ ts) low high p =
    placed-then i (lesser (f t) (least_of_all (map f ts))) (λ x. Ok (x.0 ∷ x.1)) low high
    (placed-lesser i (f t) (least_of_all (map f ts)) low high (p t) (least-placed i f ts low high p)) (λ x. tt)

-- keys
module _ (k : Context) (at low high : ℕ) (from : low ≤ at) (before : at < high) where
  abbrev FirstStands : Valued → Type 0
  FirstStands v = (low ≤ v.first) × (v.first < high)

  constant-key : (v : Valued) → FirstStands v → Placed k.source.instance low high (constant_key k.source v)
  constant-key v s =
      placed-in k.source.instance low high Anything (constant_key k.source v)
      (as-then k.source.instance FirstStands Anything (has_bits k.source v) (λ u. where_whole (is_index k.source u) (λ i. Ok (key_of_number (number_of [] i.expr)))) low high
      (as-refused k.source.instance FirstStands (is_unpacked v.expr.of) (position k.source v.first) 508 (Ok v) low high (place k.source v.first low high s.0 s.1) s)
      (λ u r. as-then k.source.instance Anything Anything (is_index k.source u) (λ i. Ok (key_of_number (number_of [] i.expr))) low high
      (as-refused k.source.instance Anything (nat_lt most_of_index (width u)) (position k.source u.first) 507 (Ok u) low high (place k.source u.first low high r.0 r.1) tt)
      (λ i q. tt)))

  other-by : (o : Option ℕ) → Placed k.source.instance low high (other_key k.source at o)
  other-by None = tt
  other-by (Some rule) = place k.source at low high from before

  named-by : (t : Thing) → Placed k.source.instance low high (named_key k at t)
  named-by (Signal n t) = place k.source at low high from before
  named-by (Local n t) = place k.source at low high from before
  named-by (Constant t v) = constant-key (by_itself k.source at t (F.Constant v)) (from, before)
  named-by (TypeName t) = place k.source at low high from before
  named-by (Interface n) = place k.source at low high from before
  named-by (Other n) = other-by (k.key_rule n)
  named-by Nothing = tt

key-placed : (k : Context) (t : SvType) (key : ItemKey) (low high : ℕ) → KeyStands low high key → Placed k.source.instance low high (key_in k t key)
key-placed k t InPlace low high s = tt
key-placed k t ByDefault low high s = tt
key-placed k t (Named of) low high s = by (has_members t)
  where
    by : (b : Bool) → Placed k.source.instance low high (cond b (Ok (Some (K.Member (word k.source of.name)))) (named_key k (qualified_first of) (thing k of)))
    by true = tt
    by false = named-by k (qualified_first of) low high s.0 s.1 (thing k of)
key-placed k t (Numbered n) low high s = tt

abbrev keys-of : Context → SvType → List Item → List (Checked (Option Key))
keys-of k t items = map (λ (i : Item). key_in k t i.key) (keyed items)

keys-more : (k : Context) (t : SvType) (x : Item) (xs : List Item) (b : Bool) (low between high : ℕ) → low ≤ between → between ≤ high → Placed k.source.instance low between (key_in k t x.key)
    → Placed k.source.instance between high (all_of (keys-of k t xs)) → Placed k.source.instance low high (all_of (map (λ (i : Item). key_in k t i.key) (cond b (x ∷ keyed xs) (keyed xs))))
keys-more k t x xs true low between high h m p q = placed-more k.source.instance (key_in k t x.key) (keys-of k t xs) low between high h m p q
keys-more k t x xs false low between high h m p q = placed-wider k.source.instance (all_of (keys-of k t xs)) between high low high h (omega arith) q

keys-placed : (k : Context) (t : SvType) (items : List Item) (low high : ℕ) → Each (ItemStands k.source.instance) low high items → Placed k.source.instance low high (all_of (keys-of k t items))
keys-placed k t [] low high p = tt
keys-placed k t (x ∷ xs) low high p =
    keys-more k t x xs (not (is_default x.key)) low p.0 high p.1 p.2 (key-placed k t x.key low p.0 p.3.0) (keys-placed k t xs p.0 high p.4)

-- values, each given to the types that take it
tried-placed : (k : Source) (v : Operand) (ts : List SvType) (low high : ℕ) → OperandStands k.instance low high v → Placed k.instance low high (tried k v ts)
tried-placed k v [] low high s =
    placed-then k.instance (is_value k v) (λ u. Ok []) low high (placed-in k.instance low high (Stands low high) (is_value k v) (value-stands k low high v s)) (λ u. tt)
tried-placed k v (t ∷ ts) low high s = least-placed k.instance (λ u. passed k u v) (t ∷ ts) low high (λ u. placed-in k.instance low high Anything (passed k u v) (passed-stands k low high u v s))

tries-more : (k : Source) (x : Item) (ts us : List SvType) (ys zs : List (Checked (List Expr))) (b : Bool) (low between high : ℕ) → low ≤ between → between ≤ high
    → OperandStands k.instance low between x.value → Placed k.instance between high (all_of ys) → Placed k.instance between high (all_of zs)
    → Placed k.instance low high (all_of (cond b (tried k x.value ts ∷ ys) (tried k x.value us ∷ zs)))
tries-more k x ts us ys zs true low between high h m s p q = placed-more k.instance (tried k x.value ts) ys low between high h m (tried-placed k x.value ts low between s) p
tries-more k x ts us ys zs false low between high h m s p q = placed-more k.instance (tried k x.value us) zs low between high h m (tried-placed k x.value us low between s) q

tries-placed : (k : Source) (count : ℕ) (rest : Rest) (ps : List Taken) (n : ℕ) (items : List Item) (low high : ℕ) → Each (ItemStands k.instance) low high items
    → Placed k.instance low high (all_of (tries k count rest ps n items))
tries-placed k count rest ps n [] low high p = tt
tries-placed k count rest ps n (x ∷ xs) low high p =
    tries-more k x (flat_map (default_types rest) ps) (by_item count n ps) (tries k count rest ps n xs) (tries k count rest ps (suc n) xs) (is_default x.key) low p.0 high p.1 p.2 p.3.1
    (tries-placed k count rest ps n xs p.0 high p.4) (tries-placed k count rest ps (suc n) xs p.0 high p.4)

-- how much is taken
length-over : {A : Type 0} (n : ℕ) (xs : List A) → length (times_over n xs) ≡ n * length xs
length-over zero xs = omega arith
length-over (suc n) xs = length-append xs (times_over n xs) ∙ ap (λ m. length xs + m) (length-over n xs) ∙ omega (arith, suc-mul n (length xs))

length-and : (key : Option Key) (o : Option (List Key)) (n : ℕ) (ks : List Key) → ((ls : List Key) → o ≡ Some ls → length ls ≡ n) → and_key key o ≡ Some ks → length ks ≡ suc n
length-and None o n ks h e = absurd (cc)
length-and (Some key) None n ks h e = absurd (cc)
length-and (Some key) (Some ls) n ks h e = let same : key ∷ ls ≡ ks = cc in sym (ap (λ (xs : List Key). length xs) same) ∙ ap suc (h ls refl)

length-keys : (keys : List (Option Key)) (ks : List Key) → all_keys keys ≡ Some ks → length ks ≡ length keys
length-keys [] ks e = let same : [] ≡ ks = cc in sym (ap (λ (xs : List Key). length xs) same)
length-keys (key ∷ keys) ks e = length-and key (all_keys keys) (length keys) ks (λ ls g. length-keys keys ls g) e

length-joined : {A : Type 0} (x : Checked A) (m : Checked (List A)) (n : ℕ) (as' : List A) → ((bs : List A) → m ≡ Ok bs → length bs ≡ n) → where_whole (joined x m) (λ p. Ok (p.0 ∷ p.1)) ≡ Ok as' → length as' ≡ suc n
length-joined (Ok a) (Ok bs) n as' h e = let same : a ∷ bs ≡ as' = cc in sym (ap length same) ∙ ap suc (h bs refl)
length-joined (Ok a) (Err y) n as' h e = absurd (cc)
length-joined (Err x) (Ok b) n as' h e = absurd (cc)
length-joined (Err x) (Err y) n as' h e = absurd (cc)

length-all : {A B : Type 0} (f : A → Checked B) (xs : List A) (ys : List B) → all_of (map f xs) ≡ Ok ys → length ys ≡ length xs
length-all f [] ys e = let same : [] ≡ ys = cc in sym (ap length same)
length-all f (x ∷ xs) ys e = length-joined (f x) (all_of (map f xs)) (length xs) ys (λ bs g. length-all f xs bs g) e

-- what is made of values that are whole is whole
module _ (k : Source) (tick at : ℕ) (t : SvType) (p : Parts) (low high : ℕ) (from : low ≤ tick) (before : tick < high) (s : PartsStand k.instance low high p) where
  abbrev AllItems : List PatternItem → Type 0
  AllItems xs = AllThere (p.times * length (keyed p.items)) (rest_of (defaults p.items)) xs

  made-by : (xs : List PatternItem) (x : Checked (List (List Expr))) (m : Checked (List Expr)) → Placed k.instance low high x → (IsWhole x → IsWhole m)
      → Placed k.instance low high (where_whole x (λ y. where_whole m (λ es. not_too_long k tick (width_of t) (Ok (expr_at k at t (F.Pattern es))))))
  made-by xs (Ok y) (Ok es) w h =
      placed-refused k.instance (nat_lt most_bits (width_of t)) (position k tick) 701 (Ok (expr_at k at t (F.Pattern es))) low high (place k tick low high from before) tt
  made-by xs (Ok y) (Err b) w h = absurd (let e = h refl in cc)
  made-by xs (Err b) m w h = w

  fitted-by : (o : Option (List PatternItem)) → ((xs : List PatternItem) → o ≡ Some xs → AllItems xs) → Placed k.instance low high (fitted_by k tick at t p.items o)
  fitted-by None h = place k tick low high from before
  fitted-by (Some xs) h =
      let n = length (keyed p.items) in
      let rest = rest_of (defaults p.items) in
      let ps = zip xs (types_in t) in
      made-by xs (all_of (tries k n rest ps 0 p.items)) (all_of (map (made k tick p.items) ps)) (tries-placed k n rest ps 0 p.items low high s)
      (λ w. made-whole k tick p.times p.items xs (types_in t) (h xs refl) w)

  taken-there : (ks : List Key) (xs : List PatternItem) → length ks ≡ length (keyed p.items) → taken t p ks ≡ Some xs → AllItems xs
  taken-there ks xs many e = by (count_fits t p && not (nat_lt 1 (length (defaults p.items)))) e
    where
      by : (b : Bool) → cond b (fits t (record { keys = times_over p.times ks; rest = rest_of (defaults p.items) })) None ≡ Some xs → AllItems xs
      by true e =
          let c = fits-covered t (record { keys = times_over p.times ks; rest = rest_of (defaults p.items) }) xs e in
          subst (λ m. AllThere m (rest_of (defaults p.items)) xs) (length-over p.times ks ∙ ap (λ m. p.times * m) many) c.there
      by false e = absurd (cc)

  taken-by : (keys : List (Option Key)) (o : Option (List Key)) (xs : List PatternItem) → all_keys keys ≡ o → length keys ≡ length (keyed p.items) → taken_by t p o ≡ Some xs → AllItems xs
  taken-by keys None xs e many h = absurd (cc)
  taken-by keys (Some ks) xs e many h = taken-there ks xs (length-keys keys ks e ∙ many) h

  all-fitted : (m : Checked (List (Option Key))) → Placed k.instance low high m → ((keys : List (Option Key)) → m ≡ Ok keys → length keys ≡ length (keyed p.items))
      → Placed k.instance low high (where_whole m (λ ks. fitted_by k tick at t p.items (taken_by t p (all_keys ks))))
  all-fitted (Ok keys) w h = fitted-by (taken_by t p (all_keys keys)) (λ xs e. taken-by keys (all_keys keys) xs refl (h keys refl) e)
  all-fitted (Err b) w h = w

pub fitted-placed : (k : Context) (tick : ℕ) (p : Parts) (at : ℕ) (t : SvType) (low high : ℕ) → low ≤ tick → tick < high → PartsStand k.source.instance low high p
    → Placed k.source.instance low high (fitted k tick p at t)
fitted-placed k tick p at t low high from before s =
    all-fitted k.source tick at t p low high from before s (all_of (keys-of k t p.items)) (keys-placed k t p.items low high s)
    (λ keys e. length-all (λ (i : Item). key_in k t i.key) (keyed p.items) keys e)
