-- A pattern with an index that no element can have doesn't fit.
use Rattle.std.proofs.Common.{◌≡◌, ◌<◌, ℕ, zero, suc, Bool, true, false, not, cond, ℤ, List, [], ◌∷◌, ◌++◌, length, map, Option, Some, None, refl, ap, arith}
use Rattle.std.specs.Prelude.{◌&&◌, ◌||◌, is_some, is_none, ◌-ℤ◌, unsigned_abs}
use Rattle.std.specs.List.{list_all, list_any}
use Rattle.std.proofs.lemmas.Int.{ints}
use Rattle.sv_types.specs.declared.types.Member.{Member}
use Rattle.sv_types.specs.declared.types.SvType.{SvType, SvType-F, out-SvType}
use Rattle.pattern_fit.specs.declared.pattern.Key.{Key}
use Rattle.pattern_fit.specs.declared.pattern.Key.TheVariants as K
use Rattle.pattern_fit.specs.declared.pattern.Pattern.{Pattern}
use Rattle.pattern_fit.specs.declared.pattern.Rest.{Rest}
use Rattle.pattern_fit.specs.Fits.{Places, between, by_key, by_place, covers, element_number, fit_in, fit_places, fits, is_once, is_place, item_at, places_of}
use Rattle.expr_type.specs.Names.{Source}
use Rattle.expr_type.specs.Patterns.{times_over}
use Rattle.pattern_types.specs.declared.operand.ItemKey.{ItemKey}
use Rattle.pattern_types.specs.declared.operand.ItemKey.TheVariants as I
use Rattle.pattern_types.specs.Far.{near_in, near_bounds}
use Rattle.pattern_types.specs.Keys.{all_near, index_key, is_near, is_near_if, is_near_key, number_of_name, plain_key}

-- a key with which nothing fits
abbrev is_bad : (Key → Option ℕ) → Key → Bool
is_bad number key = not (is_place key) && is_none (number key)

all-by : (a b c d : Bool) → ((not a && b) || c) ≡ true → (c ≡ true → d ≡ false) → (a && d) ≡ false
all-by true b c d h more = more h
all-by false b c d h more = refl

not-all : (number : Key → Option ℕ) (ks : List Key) → list_any (is_bad number) ks ≡ true → list_all is_place ks ≡ false
not-all number [] h = absurd (cc)
not-all number (k ∷ ks) h = all-by (is_place k) (is_none (number k)) (list_any (is_bad number) ks) (list_all is_place ks) h (not-all number ks)

and-false : (b c : Bool) → c ≡ false → (b && c) ≡ false
and-false true c h = h
and-false false c h = refl

or-right : (a b : Bool) → ((a && false) || b) ≡ true → b ≡ true
or-right true b h = h
or-right false b h = h

once-by : (a : Bool) (o : Option ℕ) (os : List (Option ℕ)) (c : Bool) → ((a && is_none o) || c) ≡ true → (c ≡ true → is_once os ≡ false) → is_once (o ∷ os) ≡ false
once-by a None os c h more = refl
once-by a (Some n) os c h more = and-false (not (is_some (item_at 0 os n))) (is_once os) (more (or-right a c h))

not-once : (number : Key → Option ℕ) (ks : List Key) → list_any (is_bad number) ks ≡ true → is_once (map number ks) ≡ false
not-once number [] h = absurd (cc)
not-once number (k ∷ ks) h = once-by (not (is_place k)) (number k) (map number ks) (list_any (is_bad number) ks) h (not-once number ks)

any-by : (b c d : Bool) → (b || c) ≡ true → (c ≡ true → d ≡ true) → (b || d) ≡ true
any-by true c d h more = refl
any-by false c d h more = more h

any-more : (f : Key → Bool) (xs ys : List Key) → list_any f xs ≡ true → list_any f (xs ++ ys) ≡ true
any-more f [] ys h = absurd (cc)
any-more f (x ∷ xs) ys h = any-by (f x) (list_any f xs) (list_any f (xs ++ ys)) h (any-more f xs ys)

any-times : (f : Key → Bool) (n : ℕ) (ks : List Key) → 0 < n → list_any f ks ≡ true → list_any f (times_over n ks) ≡ true
any-times f zero ks some h = absurd (omega arith)
any-times f (suc n) ks some h = any-more f ks (times_over n ks) h

in-none : (p : Pattern) (places : Places) → list_any (is_bad places.number) p.keys ≡ true → fit_in p places ≡ None
in-none p places h = by (list_any is_place p.keys)
  where
    by : (b : Bool) → cond b (cond (list_all is_place p.keys) (by_place p.rest (length p.keys) (length places.types)) None) (by_key p.rest (map places.number p.keys) places.types) ≡ None
    by true = ap (λ c. cond c (by_place p.rest (length p.keys) (length places.types)) None) (not-all places.number p.keys h)
    by false = ap (λ c. cond c (covers p.rest (map places.number p.keys) 0 places.types) None) (not-once places.number p.keys h)

-- a key that is far
name-bad : (number : Key → Option ℕ) → ((n : ℤ) → is_near n ≡ false → number (K.Index n) ≡ None) → (o : Option ℤ) → is_near_if o ≡ false → is_bad number (index_key o) ≡ true
name-bad number far None h = absurd (cc)
name-bad number far (Some n) h = ap (λ (x : Option ℕ). is_none x) (far n h)

key-bad : (number : Key → Option ℕ) → ((n : ℤ) → is_near n ≡ false → number (K.Index n) ≡ None) → (k : Source) (members : Bool) (key : ItemKey) → is_near_key members key ≡ false
    → is_bad number (plain_key k members key) ≡ true
key-bad number far k members I.InPlace h = absurd (cc)
key-bad number far k members I.ByDefault h = absurd (cc)
key-bad number far k true (I.Named of otherwise) h = absurd (cc)
key-bad number far k false (I.Named of otherwise) h = name-bad number far (number_of_name otherwise) h
key-bad number far k members (I.Numbered n) h = name-bad number far n h

some-bad : (bad more : Bool) → more ≡ true → (bad || more) ≡ true
some-bad true more h = refl
some-bad false more h = h

bad-by : (near all bad more : Bool) → (near && all) ≡ false → (near ≡ false → bad ≡ true) → (all ≡ false → more ≡ true) → (bad || more) ≡ true
bad-by true all bad more h one rest = some-bad bad more (rest h)
bad-by false all bad more h one rest = ap (λ b. b || more) (one refl)

keys-bad : (number : Key → Option ℕ) → ((n : ℤ) → is_near n ≡ false → number (K.Index n) ≡ None) → (k : Source) (members : Bool) (keys : List ItemKey) → all_near members keys ≡ false
    → list_any (is_bad number) (map (plain_key k members) keys) ≡ true
keys-bad number far k members [] h = absurd (cc)
keys-bad number far k members (key ∷ keys) h =
    bad-by (is_near_key members key) (all_near members keys) (is_bad number (plain_key k members key)) (list_any (is_bad number) (map (plain_key k members) keys)) h
    (key-bad number far k members key) (keys-bad number far k members keys)

-- an index that is far lies between no bounds
between-far : (l r i : ℤ) → is_near l ≡ true → is_near r ≡ true → is_near i ≡ false → between l r i ≡ false
between-far l r i hl hr hi = grind (arith, ints)

both-near : (a b : Bool) → (a && b) ≡ true → (a ≡ true) × (b ≡ true)
both-near true b h = (refl, h)
both-near false b h = absurd (cc)

element-far : (l r : ℤ) → (is_near l && is_near r) ≡ true → (n : ℤ) → is_near n ≡ false → element_number l r (K.Index n) ≡ None
element-far l r h n far = let b = both-near (is_near l) (is_near r) h in ap (λ c. cond c (Some (unsigned_abs (l -ℤ n))) None) (between-far l r n b.0 b.1 far)

pub never-fits : (k : Source) (members : Bool) (t : SvType) (n : ℕ) (keys : List ItemKey) (rest : Rest) → near_bounds t ≡ true → 0 < n → all_near members keys ≡ false
    → fits t (record { keys = times_over n (map (plain_key k members) keys); rest = rest }) ≡ None
never-fits k members t n keys rest near some far = by (out-SvType t) near
  where
    in-places : (places : Places) → ((i : ℤ) → is_near i ≡ false → places.number (K.Index i) ≡ None) → fit_in (record { keys = times_over n (map (plain_key k members) keys); rest = rest }) places ≡ None
    in-places places out =
        in-none (record { keys = times_over n (map (plain_key k members) keys); rest = rest }) places
        (any-times (is_bad places.number) n (map (plain_key k members) keys) some (keys-bad places.number out k members keys far))

    by : (f : SvType-F SvType Member) → near_in f ≡ true → fit_places (record { keys = times_over n (map (plain_key k members) keys); rest = rest }) (places_of f) ≡ None
    by (SvType-F.Scalar four s) h = refl
    by (SvType-F.PackedArray l r s item) h = in-places _ (element-far l r h)
    by (SvType-F.Struct id packed s ms) h = in-places _ (λ i out. refl)
    by (SvType-F.Union id s ms) h = refl
    by (SvType-F.Enum id base names) h = refl
    by (SvType-F.UnpackedArray l r item) h = in-places _ (element-far l r h)
