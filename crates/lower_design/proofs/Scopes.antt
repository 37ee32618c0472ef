-- What names stand for in the lowered design.
use Rattle.std.proofs.Common.{◌≡◌, ℕ, zero, suc, ◌+◌, ◌==◌, ◌≤◌, Bool, true, false, if◌then◌else◌, List, [], ◌∷◌, ◌++◌, map, filter, cond, Option, Some, None, refl, sym, ap, subst, ◌∙◌, inl, inr, arith}
use Rattle.std.specs.List.{slice_get}
use Rattle.std.specs.Str.{bytes_eq}
use Rattle.std.proofs.lemmas.Bool.{false≢true, eqb-true}
use Rattle.row_machine.specs.Valuation.{Member}
use Rattle.sv_core.specs.declared.design.SignalKind.{SignalKind}
use Rattle.sv_core.specs.declared.design.SignalKind.TheVariants.{InputNet, OutputVar, Variable}
use Rattle.sv_core.specs.declared.design.Signal.{Signal}
use Rattle.v_tree.specs.Names.{Name, distinct}
use Rattle.v_tree.specs.Scopes.{Kind, input, net, variable, Thing, value, Declared, inside, nowhere, is_declared, repeated, bits_of, has_range}
use Rattle.v_tree.specs.Rules.{declared_signal}
use Rattle.lower_design.specs.Translatable.{is_input, path_of}
use Rattle.lower_design.specs.Shape.{trigger}
use Rattle.lower_design.specs.Lowered.{range_of, declaration_of}
use Rattle.lower_design.proofs.Names.{true_or_false, same_bytes, differ_bytes, pick_true, pick_false, first_fresh, rest_distinct, distinct_more}

-- a name and what it stands for
abbrev pub Known : Type 0
Known = Name × Thing

abbrev pub known : Declared → Known
known d = (d.name, d.thing)

abbrev pub known_name : Known → Name
known_name k = k.0

abbrev pub found : List Known → Name → Option Thing
found [] name = None
found (k ∷ ks) name = if bytes_eq k.0 name then Some k.1 else found ks name

-- tokens don't matter to what names stand for
pub inside-found : (ds : List Declared) (name : Name) → inside ds nowhere name ≡ found (map known ds) name
inside-found [] name = refl
inside-found (d ∷ ds) name = by (bytes_eq d.name name) (inside-found ds name)
  where
    by : (b : Bool) → inside ds nowhere name ≡ found (map known ds) name → (if b then Some d.thing else inside ds nowhere name) ≡ (if b then Some d.thing else found (map known ds) name)
    by true e = refl
    by false e = e

pub found-member : (ks : List Known) → distinct (map known_name ks) ≡ true → (k : Known) → Member ks k → found ks k.0 ≡ Some k.1
found-member [] d k m = elim m [ ]
found-member (j ∷ ks) d k (inl e) = pick_true (bytes_eq j.0 k.0) _ _ (subst (λ (x : Known). bytes_eq x.0 k.0 ≡ true) e (same_bytes k.0)) ∙ ap (λ (x : Known). Some x.1) (sym e)
found-member (j ∷ ks) d k (inr m) =
    pick_false (bytes_eq j.0 k.0) _ _ (differ_bytes j.0 k.0 (λ e. first_fresh j.0 (map known_name ks) d (subst (λ n. Member (map known_name ks) n) (sym e) (named ks m))))
    ∙ found-member ks (rest_distinct j.0 (map known_name ks) d) k m
  where
    named : (xs : List Known) → Member xs k → Member (map known_name xs) k.0
    named [] l = elim l [ ]
    named (x ∷ xs) (inl e) = inl (ap known_name e)
    named (x ∷ xs) (inr l) = inr (named xs l)

-- distinct names are not repeated
not-declared : (before : List Declared) (name : Name) → (Member (map known_name (map known before)) name → ⊥) → is_declared before name ≡ false
not-declared [] name h = refl
not-declared (d ∷ before) name h =
    pick_false (bytes_eq d.name name) _ _ (differ_bytes d.name name (λ e. h (inl (sym e)))) ∙ not-declared before name (λ m. h (inr m))

pub repeated-none : (before ds : List Declared) → distinct (map known_name (map known ds)) ≡ true
    → ((n : Name) → Member (map known_name (map known before)) n → Member (map known_name (map known ds)) n → ⊥) → repeated before ds ≡ []
repeated-none before [] d apart = refl
repeated-none before (x ∷ ds) d apart =
    pick_false (is_declared before x.name) _ _ (not-declared before x.name (λ m. apart x.name m (inl refl)))
    ∙ repeated-none (x ∷ before) ds (rest_distinct x.name (map known_name (map known ds)) d) further
  where
    further : (n : Name) → Member (map known_name (map known (x ∷ before))) n → Member (map known_name (map known ds)) n → ⊥
    further n (inl e) m = first_fresh x.name (map known_name (map known ds)) d (subst (λ k. Member (map known_name (map known ds)) k) e m)
    further n (inr l) m = apart n l (inr m)

pub distinct-filter : (test : Signal → Bool) (ss : List Signal) → distinct (map path_of ss) ≡ true → distinct (map path_of (filter test ss)) ≡ true
distinct-filter test [] d = refl
distinct-filter test (s ∷ ss) d =
    pick (test s) (distinct-filter test ss (rest_distinct s.path (map path_of ss) d)) (λ m. first_fresh s.path (map path_of ss) d (unfiltered ss m))
  where
    unfiltered : (xs : List Signal) → Member (map path_of (filter test xs)) s.path → Member (map path_of xs) s.path
    unfiltered [] m = m
    unfiltered (x ∷ xs) m = by_test (test x) (unfiltered xs) m
      where
        by_test : (b : Bool) → (Member (map path_of (filter test xs)) s.path → Member (map path_of xs) s.path)
            → Member (map path_of (cond b (x ∷ filter test xs) (filter test xs))) s.path → Member (map path_of (x ∷ xs)) s.path
        by_test true more (inl e) = inl e
        by_test true more (inr k) = inr (more k)
        by_test false more k = inr (more k)

    pick : (b : Bool) → distinct (map path_of (filter test ss)) ≡ true → (Member (map path_of (filter test ss)) s.path → ⊥)
        → distinct (map path_of (cond b (s ∷ filter test ss) (filter test ss))) ≡ true
    pick true d fresh = distinct_more s.path (map path_of (filter test ss)) fresh d
    pick false d fresh = d

-- a declared range gives back the width
pub bits-keep : (w : ℕ) → 1 ≤ w → bits_of (range_of w) ≡ w
bits-keep w h = elim (true_or_false (w == 1)) [
  | inl e ↦ ap bits_of (pick_true (w == 1) _ _ e) ∙ sym (eqb-true w 1 e)
  | inr e ↦ ap bits_of (pick_false (w == 1) _ _ e) ∙ omega arith
]

-- what a signal's name stands for
abbrev pub kind_by : SignalKind → Bool → Kind
kind_by InputNet driven = input
kind_by OutputVar true = net
kind_by OutputVar false = variable
kind_by Variable true = net
kind_by Variable false = variable

pub driven-kind : (kind : SignalKind) → is_input kind ≡ false → kind_by kind true ≡ net
driven-kind InputNet e = absurd (false≢true (sym e))
driven-kind OutputVar e = refl
driven-kind Variable e = refl

pub other-kind : (kind : SignalKind) → is_input kind ≡ false → kind_by kind false ≡ variable
other-kind InputNet e = absurd (false≢true (sym e))
other-kind OutputVar e = refl
other-kind Variable e = refl

abbrev pub thing_of : Bool → Signal → Thing
thing_of driven s = value (kind_by s.kind driven) (bits_of (range_of s.width)) (has_range (range_of s.width))

abbrev pub things : (ℕ → Bool) → ℕ → List Signal → List Known
things driven k [] = []
things driven k (s ∷ rest) = (s.path, thing_of (driven k) s) ∷ things driven (suc k) rest

abbrev pub trigger_thing : Thing
trigger_thing = value variable 1 false

abbrev pub helper_things : Bool → List Known
helper_things true = (trigger, trigger_thing) ∷ []
helper_things false = []

pub thing-names : (driven : ℕ → Bool) (k : ℕ) (ss : List Signal) (more : List Known) → map known_name (things driven k ss ++ more) ≡ map path_of ss ++ map known_name more
thing-names driven k [] more = refl
thing-names driven k (s ∷ ss) more = ap (λ ns. s.path ∷ ns) (thing-names driven (suc k) ss more)

pub thing-member : (driven : ℕ → Bool) (k : ℕ) (ss : List Signal) (more : List Known) (n : ℕ) (s : Signal) → slice_get ss n ≡ Some s
    → Member (things driven k ss ++ more) (s.path, thing_of (driven (k + n)) s)
thing-member driven k [] more n s e = cc
thing-member driven k (t ∷ ss) more zero s e =
    let same : t ≡ s = cc in
    let index : k ≡ k + 0 = omega arith in
    inl (sym (λ i. ((same i).path, thing_of (driven (index i)) (same i))))
thing-member driven k (t ∷ ss) more (suc n) s e =
    let index : suc k + n ≡ k + suc n = omega arith in
    inr (subst (λ j. Member (things driven (suc k) ss ++ more) (s.path, thing_of (driven j) s)) index (thing-member driven (suc k) ss more n s e))

-- a declaration declares it
pub declared-known : (s : Signal) (driven : Bool) (at : ℕ) → known (declared_signal (declaration_of driven s) at) ≡ (s.path, thing_of driven s)
declared-known s driven at = by_kind s.path s.width s.kind driven
  where
    by_kind : (path : Name) (width : ℕ) (kind : SignalKind) (driven : Bool) →
        (let s : Signal = record { path = path; width = width; kind = kind } in known (declared_signal (declaration_of driven s) at) ≡ (s.path, thing_of driven s))
    by_kind path width InputNet driven = refl
    by_kind path width OutputVar true = refl
    by_kind path width OutputVar false = refl
    by_kind path width Variable true = refl
    by_kind path width Variable false = refl
