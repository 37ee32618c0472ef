-- What a pattern that fits a type gives its members or elements.
use Rattle.std.proofs.Common.{◌≡◌, ◌<◌, ℕ, ◌+◌, zero, suc, Bool, true, false, cond, List, [], ◌∷◌, length, map, Option, Some, None, refl, arith, ap, ◌∙◌, subst}
use Rattle.std.specs.Prelude.{◌==◌}
use Rattle.std.specs.List.{list_all, list_any}
use Rattle.std.proofs.lemmas.Bool.Decides.{nat_tests}
use Rattle.sv_types.specs.declared.types.SvType.{SvType, out-SvType}
use Rattle.sv_types.specs.Windows.{tabulated}
use Rattle.pattern_fit.specs.declared.pattern.Pattern.{Pattern}
use Rattle.pattern_fit.specs.declared.pattern.PatternItem.{PatternItem}
use Rattle.pattern_fit.specs.declared.pattern.PatternItem.TheVariants as I
use Rattle.pattern_fit.specs.declared.pattern.Rest.{Rest}
use Rattle.pattern_fit.specs.declared.pattern.Rest.TheVariants.{Absent, Plain, Typed}
use Rattle.pattern_fit.specs.Fits.{Places, and_all, by_default, by_key, by_place, covers, fit_places, fits, is_once, is_place, is_plain, item_at, item_or, places_of}
use Rattle.pattern_fit.proofs.Tables.{length-tabulated}
use Rattle.expr_type.specs.Patterns.{types_in}

-- what is taken is an item of so many, or what stands behind `default`
abbrev pub IsThere : ℕ → Rest → PatternItem → Type 0
IsThere n rest (I.Item m) = m < n
IsThere n rest I.Default = rest ≡ Absent → ⊥
IsThere n rest I.Spread = rest ≡ Absent → ⊥

abbrev pub AllThere : ℕ → Rest → List PatternItem → Type 0
AllThere n rest [] = Unit {0}
AllThere n rest (x ∷ xs) = IsThere n rest x × AllThere n rest xs

pub record Covered (n : ℕ) (rest : Rest) (ts : List SvType) (xs : List PatternItem) : Type 0 where
  pub length : length xs ≡ length ts
  pub there : AllThere n rest xs

-- items by their places
tabled : (n m : ℕ) (rest : Rest) (f : ℕ → PatternItem) → ((j : ℕ) → j < m → IsThere n rest (f j)) → AllThere n rest (tabulated m f)
tabled n zero rest f h = tt
tabled n (suc m) rest f h = (h 0 (omega arith), tabled n m rest (λ j. f (suc j)) (λ j g. h (suc j) (omega arith)))

place-by : (n : ℕ) (ts : List SvType) (xs : List PatternItem) (b : Bool) → (n == length ts) ≡ b → cond b (Some (tabulated n (λ j. I.Item j))) None ≡ Some xs → Covered n Absent ts xs
place-by n ts xs true e h =
    let is : tabulated n (λ j. I.Item j) ≡ xs = cc in
    let same : n ≡ length ts = grind (arith, nat_tests) in
    subst (λ ys. Covered n Absent ts ys) is (record { length = length-tabulated n (λ j. I.Item j) ∙ same; there = tabled n n Absent (λ j. I.Item j) (λ j g. g) })
place-by n ts xs false e h = absurd (cc)

placed : (n : ℕ) (rest : Rest) (ts : List SvType) (xs : List PatternItem) → by_place rest n (length ts) ≡ Some xs → Covered n rest ts xs
placed n Absent ts xs h = place-by n ts xs (n == length ts) refl h
placed n Plain ts xs h = absurd (cc)
placed n (Typed t) ts xs h = absurd (cc)

-- items by their keys
at-by : (n place m : ℕ) (ks : List (Option ℕ)) (b : Bool) → cond b (Some n) (item_at (suc n) ks place) ≡ Some m → (item_at (suc n) ks place ≡ Some m → m < suc n + length ks) → m < n + suc (length ks)
at-by n place m ks true h g = let e : n ≡ m = cc in omega (arith, e)
at-by n place m ks false h g = omega (arith, g h)

item-there : (n : ℕ) (ks : List (Option ℕ)) (place m : ℕ) → item_at n ks place ≡ Some m → m < n + length ks
item-there n [] place m h = absurd (cc)
item-there n (None ∷ ks) place m h = omega (arith, item-there (suc n) ks place m h)
item-there n (Some k ∷ ks) place m h = at-by n place m ks (k == place) h (λ g. item-there (suc n) ks place m g)

default-by : (n : ℕ) (rest : Rest) (b : Bool) (x : PatternItem) → (rest ≡ Absent → ⊥) → Some (cond b I.Default I.Spread) ≡ Some x → IsThere n rest x
default-by n rest true x some h = let e : I.Default ≡ x = cc in subst (λ y. IsThere n rest y) e some
default-by n rest false x some h = let e : I.Spread ≡ x = cc in subst (λ y. IsThere n rest y) e some

default-there : (n : ℕ) (rest : Rest) (t : SvType) (x : PatternItem) → by_default rest t ≡ Some x → IsThere n rest x
default-there n Absent t x h = absurd (cc)
default-there n Plain t x h = default-by n Plain (is_plain (out-SvType t)) x (λ e. cc) h
default-there n (Typed u) t x h = default-by n (Typed u) _ x (λ e. cc) h

taken-there : (n : ℕ) (rest : Rest) (t : SvType) (x : PatternItem) (o : Option ℕ) → ((m : ℕ) → o ≡ Some m → m < n) → item_or o (by_default rest t) ≡ Some x → IsThere n rest x
taken-there n rest t x None h is = default-there n rest t x is
taken-there n rest t x (Some m) h is = let e : I.Item m ≡ x = cc in subst (λ y. IsThere n rest y) e (h m refl)

record AndAll (o : Option PatternItem) (os : Option (List PatternItem)) (xs : List PatternItem) : Type 0 where
  x : PatternItem
  rest : List PatternItem
  here : o ≡ Some x
  behind : os ≡ Some rest
  all : x ∷ rest ≡ xs

and-inverse : (o : Option PatternItem) (os : Option (List PatternItem)) (xs : List PatternItem) → and_all o os ≡ Some xs → AndAll o os xs
and-inverse None os xs h = absurd (cc)
and-inverse (Some x) None xs h = absurd (cc)
and-inverse (Some x) (Some ys) xs h = record { x = x; rest = ys; here = refl; behind = refl; all = cc }

covered : (rest : Rest) (ks : List (Option ℕ)) (n : ℕ) (ts : List SvType) (xs : List PatternItem) → covers rest ks n ts ≡ Some xs → Covered (length ks) rest ts xs
covered rest ks n [] xs h = let e : [] ≡ xs = cc in subst (λ ys. Covered (length ks) rest [] ys) e (record { length = refl; there = tt })
covered rest ks n (t ∷ ts) xs h =
    let r = and-inverse (item_or (item_at 0 ks n) (by_default rest t)) (covers rest ks (suc n) ts) xs h in
    let more = covered rest ks (suc n) ts r.rest r.behind in
    subst (λ ys. Covered (length ks) rest (t ∷ ts) ys) r.all (record {
      length = ap suc more.length;
      there = (taken-there (length ks) rest t r.x (item_at 0 ks n) (λ m e. let g = item-there 0 ks n m e in omega (arith, g)) r.here, more.there);
    })

key-by : (rest : Rest) (ks : List (Option ℕ)) (ts : List SvType) (xs : List PatternItem) (b : Bool) → cond b (covers rest ks 0 ts) None ≡ Some xs → Covered (length ks) rest ts xs
key-by rest ks ts xs true h = covered rest ks 0 ts xs h
key-by rest ks ts xs false h = absurd (cc)

length-map : {A B : Type 0} (f : A → B) (xs : List A) → length (map f xs) ≡ length xs
length-map f [] = refl
length-map f (x ∷ xs) = ap suc (length-map f xs)

fit-in-by : (p : Pattern) (places : Places) (xs : List PatternItem) (a b : Bool)
    → cond a (cond b (by_place p.rest (length p.keys) (length places.types)) None) (by_key p.rest (map places.number p.keys) places.types) ≡ Some xs → Covered (length p.keys) p.rest places.types xs
fit-in-by p places xs true true h = placed (length p.keys) p.rest places.types xs h
fit-in-by p places xs true false h = absurd (cc)
fit-in-by p places xs false b h =
    let ks = map places.number p.keys in
    subst (λ n. Covered n p.rest places.types xs) (length-map places.number p.keys) (key-by p.rest ks places.types xs (is_once ks) h)

places-by : (p : Pattern) (o : Option Places) (xs : List PatternItem) → fit_places p o ≡ Some xs → Covered (length p.keys) p.rest (elim o [ None ↦ [] | Some places ↦ places.types ]) xs
places-by p None xs h = absurd (cc)
places-by p (Some places) xs h = fit-in-by p places xs (list_any is_place p.keys) (list_all is_place p.keys) h

pub fits-covered : (t : SvType) (p : Pattern) (xs : List PatternItem) → fits t p ≡ Some xs → Covered (length p.keys) p.rest (types_in t) xs
fits-covered t p xs h = places-by p (places_of (out-SvType t)) xs h
