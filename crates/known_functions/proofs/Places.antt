-- Where functions are found.
use Rattle.std.proofs.Common.{◌≡◌, ℕ, suc, ◌+◌, Bool, true, false, ◌&&◌, cond, List, [], ◌∷◌, ◌++◌, length, Option, Some, None, refl, arith, ap, sym, ◌∙◌, subst}
use Rattle.std.specs.Prelude.{slice_get, MatchOption, nat_eq, if◌then◌else◌}
use Rattle.std.specs.Option.{option_map}
use Rattle.std.specs.Str.{bytes_eq}
use Rattle.std.proofs.lemmas.Bool.{eq-eqb, eqb-true}
use Rattle.std.proofs.lemmas.Slice.Eq.{bytes_eq-Decides}
use Rattle.sv_types.specs.declared.statement.Function.{Function}
use Rattle.expr_type.specs.Names.{Called}
use Rattle.expr_type.specs.Functions.{is_it, known_from}
use Rattle.function_places.specs.Places.{Declared, same_declared, place_of, first_place}
use Rattle.typing_fits.proofs.Full.{and-left, and-right}
use Rattle.known_functions.specs.Behind.{declared_of, or_else, place_if, IsFound}

-- one declaration
both-and : (a b c : Bool) → (a && (b && c)) ≡ ((a && b) && c)
both-and true b c = refl
both-and false b c = refl

is-it-same : (d : Declared) (f : Function) → is_it d.0 d.1 d.2 f ≡ same_declared (declared_of f) d
is-it-same d f = both-and (nat_eq f.instance d.0) (nat_eq f.spot.at d.1) (bytes_eq f.path d.2)

same-parts : (a b c d : ℕ) (s t : List ℕ) → a ≡ c → b ≡ d → s ≡ t → Path Declared (a, b, s) (c, d, t)
same-parts a b c d s t e f g = cc

pub same-is : (x y : Declared) → same_declared x y ≡ true → x ≡ y
same-is x y h =
    let front = and-left (nat_eq x.0 y.0 && nat_eq x.1 y.1) (bytes_eq x.2 y.2) h in
    same-parts x.0 x.1 y.0 y.1 x.2 y.2 (eqb-true x.0 y.0 (and-left (nat_eq x.0 y.0) (nat_eq x.1 y.1) front)) (eqb-true x.1 y.1 (and-right (nat_eq x.0 y.0) (nat_eq x.1 y.1) front))
    ((bytes_eq-Decides x.2 y.2).0 (and-right (nat_eq x.0 y.0 && nat_eq x.1 y.1) (bytes_eq x.2 y.2) h))

both-true : (a b c : Bool) → a ≡ true → b ≡ true → c ≡ true → ((a && b) && c) ≡ true
both-true a b c e f g = cc

pub same-itself : (x : Declared) → same_declared x x ≡ true
same-itself x =
    both-true (nat_eq x.0 x.0) (nat_eq x.1 x.1) (bytes_eq x.2 x.2) (eq-eqb x.0 x.0 refl) (eq-eqb x.1 x.1 refl) ((bytes_eq-Decides x.2 x.2).1 refl)

-- one function more: what was found before is found still
first-or : {A : Type 0} (b : Bool) (x : A) (o p q : Option A) → o ≡ or_else p q → cond b (Some x) o ≡ or_else (cond b (Some x) p) q
first-or true x o p q e = refl
first-or false x o p q e = e

abbrev called_if : ℕ → ℕ → List ℕ → Function → ℕ → Option Called
called_if instance at path f n = cond (is_it instance at path f) (Some (record { place = n; of = f })) None

pub known-behind : (fs : List Function) (n instance at : ℕ) (path : List ℕ) (f : Function) → known_from n instance at path (fs ++ f ∷ []) ≡ or_else (known_from n instance at path fs) (called_if instance at path f (n + length fs))
known-behind [] n instance at path f =
    let e : n ≡ n + 0 = omega arith in
    ap (called_if instance at path f) e
known-behind (g ∷ gs) n instance at path f =
    let e : suc n + length gs ≡ n + suc (length gs) = omega arith in
    first-or (is_it instance at path g) (record { place = n; of = g }) (known_from (suc n) instance at path (gs ++ f ∷ [])) (known_from (suc n) instance at path gs) (called_if instance at path f (suc n + length gs)) (known-behind gs (suc n) instance at path f)
    ∙ ap (λ m. or_else (known_from n instance at path (g ∷ gs)) (called_if instance at path f m)) e

map-or : (o p : Option Called) → option_map place_of (or_else o p) ≡ or_else (option_map place_of o) (option_map place_of p)
map-or None p = refl
map-or (Some c) p = refl

map-if : (b : Bool) (n : ℕ) (f : Function) → option_map place_of (cond b (Some (record { place = n; of = f })) None) ≡ (if b then Some n else None)
map-if true n f = refl
map-if false n f = refl

pub place-behind : (d : Declared) (fs : List Function) (f : Function) → first_place d (fs ++ f ∷ []) ≡ or_else (first_place d fs) (place_if (declared_of f) (length fs) d)
place-behind d fs f =
    let e : 0 + length fs ≡ length fs = omega arith in
    ap (option_map place_of) (known-behind fs 0 d.0 d.1 d.2 f ∙ ap (λ n. or_else (known_from 0 d.0 d.1 d.2 fs) (called_if d.0 d.1 d.2 f n)) e)
    ∙ map-or (known_from 0 d.0 d.1 d.2 fs) (called_if d.0 d.1 d.2 f (length fs))
    ∙ ap (or_else (first_place d fs)) (map-if (is_it d.0 d.1 d.2 f) (length fs) f)
    ∙ ap (λ (b : Bool). or_else (first_place d fs) (if b then Some (length fs) else None)) (is-it-same d f)

-- what is found stands there
record At (n : ℕ) (c : Called) (fs : List Function) : Type 0 where
  pub from : ℕ
  pub place : c.place ≡ n + from
  pub there : slice_get fs from ≡ Some c.of

abbrev some_call : Called → Option Called
some_call c = Some c

chosen : (b : Bool) (o : Option Called) (x c : Called) (n : ℕ) (fs : List Function) → cond b (Some x) o ≡ Some c → (x ≡ c → At n c fs) → (o ≡ Some c → At n c fs) → At n c fs
chosen true o x c n fs h this rest = this (cc)
chosen false o x c n fs h this rest = rest h

one-further : (n : ℕ) (c : Called) (f : Function) (fs : List Function) → At (suc n) c fs → At n c (f ∷ fs)
one-further n c f fs a = record { from = suc a.from; place = omega (arith, a.place); there = a.there }

at-first : (n : ℕ) (c : Called) (f : Function) (fs : List Function) → Path Called (record { place = n; of = f }) c → At n c (f ∷ fs)
at-first n c f fs is = subst (λ (x : Called). At n x (f ∷ fs)) is (record { from = 0; place = omega arith; there = refl })

found-in : (fs : List Function) (n instance at : ℕ) (path : List ℕ) (c : Called) → known_from n instance at path fs ≡ Some c → At n c fs
found-in [] n instance at path c h = absurd (cc)
found-in (f ∷ fs) n instance at path c h =
    chosen (is_it instance at path f) (known_from (suc n) instance at path fs) (record { place = n; of = f }) c n (f ∷ fs) h (at-first n c f fs)
    (λ is. one-further n c f fs (found-in fs (suc n) instance at path c is))

found-by : (d : Declared) (fs : List Function) (n : ℕ) (o : Option Called) → known_from 0 d.0 d.1 d.2 fs ≡ o → option_map place_of o ≡ Some n → IsFound n d fs
found-by d fs n None e h = absurd (cc)
found-by d fs n (Some c) e h =
    let a = found-in fs 0 d.0 d.1 d.2 c e in
    let is : c.place ≡ n = cc in
    let there : a.from ≡ n = omega (arith, a.place, is) in
    record {
      of = c.of;
      known = subst (λ m. slice_get fs m ≡ Some c.of) there a.there;
      first = e ∙ ap (λ m. some_call (record { place = m; of = c.of })) is;
    }

pub found-there : (d : Declared) (fs : List Function) (n : ℕ) → first_place d fs ≡ Some n → IsFound n d fs
found-there d fs n h = found-by d fs n (known_from 0 d.0 d.1 d.2 fs) refl h

not-found : (o : Option Called) → option_map place_of o ≡ None → o ≡ None
not-found None h = refl
not-found (Some c) h = absurd (cc)

pub found : (d : Declared) (fs : List Function) (r : Option ℕ) → r ≡ first_place d fs → MatchOption r (known_from 0 d.0 d.1 d.2 fs ≡ None) (λ n. IsFound n d fs)
found d fs None e = not-found (known_from 0 d.0 d.1 d.2 fs) (sym e)
found d fs (Some n) e = found-there d fs n (sym e)

-- the places of the functions behind which one more is put
pub declared-by : (f : Function) (path : List ℕ) → path ≡ f.path → Path Declared (f.instance, f.spot.at, path) (declared_of f)
declared-by f path e = same-parts f.instance f.spot.at f.instance f.spot.at path f.path refl refl e

pub place-kept : (fs gs : List Function) (f : Function) (p q : Declared → Option ℕ) (declared : Declared) (place : ℕ) → ((d : Declared) → p d ≡ first_place d fs) → declared ≡ declared_of f → place ≡ length fs → ((d : Declared) → q d ≡ or_else (p d) (place_if declared place d))
    → gs ≡ fs ++ f ∷ [] → (d : Declared) → q d ≡ first_place d gs
place-kept fs gs f p q declared place all is at puts behind d =
    puts d
    ∙ ap (λ (o : Option ℕ). or_else o (place_if declared place d)) (all d)
    ∙ ap (λ (x : Declared). or_else (first_place d fs) (place_if x place d)) is
    ∙ ap (λ (n : ℕ). or_else (first_place d fs) (place_if (declared_of f) n d)) at
    ∙ sym (place-behind d fs f)
    ∙ ap (λ (xs : List Function). first_place d xs) (sym behind)
