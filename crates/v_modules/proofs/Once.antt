-- In a design that keeps the rules the names of signals stand once.
use Rattle.std.proofs.Common.{◌≡◌, ℕ, ◌+◌, Bool, true, false, not, ◌&&◌, ◌||◌, List, [], ◌∷◌, ◌++◌, None, Some, refl, sym, ap, ◌∙◌, if◌then◌else◌}
use Rattle.std.specs.Str.{bytes_eq}
use Rattle.std.proofs.lemmas.Slice.Eq.{bytes_eq-Decides}
use Rattle.v_tree.specs.Names.{Name, among, distinct}
use Rattle.v_tree.specs.Scopes.{Declared, is_declared, inside, nowhere, repeated}
use Rattle.v_tree.specs.ExprRules.{Around}
use Rattle.v_tree.specs.Rules.{item_size, module_size, ports_size, declared_signal, declared_by, declared_in, listed_ports, undeclared, unlisted, items_broken, module_broken, modules_broken, module_names, ports_of}
use Rattle.v_tree.specs.declared.items.VItem.{VItem}
use Rattle.v_tree.specs.declared.items.VItem.TheVariants as I
use Rattle.v_tree.specs.declared.items.VModule.{VModule}
use Rattle.v_tree.specs.declared.items.VRegRest.TheVariants as R
use Rattle.v_tree.specs.declared.items.VSignal.{VSignal}
use Rattle.v_tree.specs.declared.items.VSignal.TheVariants.{Input, Output, OutputReg, Wire, Reg}
use Rattle.v_meaning.specs.Modules as M
use Rattle.v_meaning.specs.Modules.{signals}
use Rattle.v_modules.specs.Named.{names_of_signals}
use Rattle.v_modules.specs.Tables.{NamesStandOnce}
use Rattle.v_modules.specs.Laws.{NamesOfRules}

-- parts of an empty list
pub left-empty : {A : Type 0} (xs ys : List A) → xs ++ ys ≡ [] → xs ≡ []
left-empty [] ys e = refl
left-empty (x ∷ xs) ys e = absurd (cc)

pub right-empty : {A : Type 0} (xs ys : List A) → xs ++ ys ≡ [] → ys ≡ []
right-empty [] ys e = e
right-empty (x ∷ xs) ys e = absurd (cc)

-- no declared thing repeats one before it
abbrev Fresh : List Declared → List Declared → Type 0
Fresh before ds = repeated before ds ≡ []

first-fresh : (before : List Declared) (d : Declared) (ds : List Declared) → Fresh before (d ∷ ds) → is_declared before d.name ≡ false
first-fresh before d ds e = by (is_declared before d.name) e
  where
    by : (b : Bool) → (if b then d.token ∷ repeated (d ∷ before) ds else repeated (d ∷ before) ds) ≡ [] → b ≡ false
    by true e = absurd (cc)
    by false e = refl

rest-fresh : (before : List Declared) (d : Declared) (ds : List Declared) → Fresh before (d ∷ ds) → Fresh (d ∷ before) ds
rest-fresh before d ds e = by (is_declared before d.name) e
  where
    by : (b : Bool) → (if b then d.token ∷ repeated (d ∷ before) ds else repeated (d ∷ before) ds) ≡ [] → Fresh (d ∷ before) ds
    by true e = absurd (cc)
    by false e = e

-- what was declared before is so behind others
record Behind (before ys : List Declared) : Type 0 where
  after : List Declared
  fresh : Fresh after ys
  keeps : (n : Name) → is_declared before n ≡ true → is_declared after n ≡ true

declared-more : (b : Bool) (c : Bool) → c ≡ true → (if b then true else c) ≡ true
declared-more true c e = refl
declared-more false c e = e

behind : (xs before ys : List Declared) → Fresh before (xs ++ ys) → Behind before ys
behind [] before ys e = record { after = before; fresh = e; keeps = λ n h. h }
behind (x ∷ xs) before ys e =
    let b = behind xs (x ∷ before) ys (rest-fresh before x (xs ++ ys) e) in
    record { after = b.after; fresh = b.fresh; keeps = λ n h. b.keeps n (declared-more (bytes_eq x.name n) (is_declared before n) h) }

-- the names of signals, none of which was declared before
record Once (before : List Declared) (is : List VItem) : Type 0 where
  once : distinct (names_of_signals (signals is)) ≡ true
  new : (n : Name) → is_declared before n ≡ true → among (names_of_signals (signals is)) n ≡ false

both-true : (b c : Bool) → b ≡ false → c ≡ true → (not b && c) ≡ true
both-true true c e h = absurd (cc)
both-true false c e h = h

both-false : (b c : Bool) → b ≡ false → c ≡ false → (b || c) ≡ false
both-false true c e h = absurd (cc)
both-false false c e h = h

same-declared : (d : Declared) (before : List Declared) → is_declared (d ∷ before) d.name ≡ true
same-declared d before = ap (λ b. if b then true else is_declared before d.name) ((bytes_eq-Decides d.name d.name).1 refl)

apart : (d : Declared) (before : List Declared) (n : Name) → is_declared before d.name ≡ false → is_declared before n ≡ true → bytes_eq d.name n ≡ false
apart d before n old there = by (bytes_eq d.name n) refl
  where
    by : (b : Bool) → bytes_eq d.name n ≡ b → b ≡ false
    by true e = let same : is_declared before d.name ≡ is_declared before n = ap (is_declared before) ((bytes_eq-Decides d.name n).0 e) in absurd (cc)
    by false e = refl

one-more : (d : Declared) (before rest : List Declared) (is : List VItem) → Fresh before (d ∷ rest) → Once (d ∷ before) is
    → (distinct (d.name ∷ names_of_signals (signals is)) ≡ true) × ((n : Name) → is_declared before n ≡ true → among (d.name ∷ names_of_signals (signals is)) n ≡ false)
one-more d before rest is e o = (
  both-true (among (names_of_signals (signals is)) d.name) (distinct (names_of_signals (signals is))) (o.new d.name (same-declared d before)) o.once,
  λ n h. both-false (bytes_eq d.name n) (among (names_of_signals (signals is)) n) (apart d before n (first-fresh before d rest e) h)
      (o.new n (declared-more (bytes_eq d.name n) (is_declared before n) h)),
)

signal-once : (s : VSignal) (at : ℕ) (before rest : List Declared) (is : List VItem) → (declared_signal s at).name ≡ (M.signal s).name → Fresh before (declared_signal s at ∷ rest)
    → Once (declared_signal s at ∷ before) is → Once before (I.Signal s ∷ is)
signal-once s at before rest is e f o =
    let h = one-more (declared_signal s at) before rest is f o in
    record {
      once = sym (ap (λ n. distinct (n ∷ names_of_signals (signals is))) e) ∙ h.0;
      new = λ n d. sym (ap (λ m. among (m ∷ names_of_signals (signals is)) n) e) ∙ h.1 n d;
    }

signal-name : (s : VSignal) (at : ℕ) → (declared_signal s at).name ≡ (M.signal s).name
signal-name (Input range name) at = refl
signal-name (Output range name) at = refl
signal-name (OutputReg range name None) at = refl
signal-name (OutputReg range name (Some v)) at = refl
signal-name (Wire range name) at = refl
signal-name (Reg range name None) at = refl
signal-name (Reg range name (Some (R.Memory left))) at = refl
signal-name (Reg range name (Some (R.Initial v))) at = refl

later-once : (before ys : List Declared) (is : List VItem) (b : Behind before ys) → Once b.after is → Once before is
later-once before ys is b o = record { once = o.once; new = λ n h. o.new n (b.keeps n h) }

items-once : (is : List VItem) (at : ℕ) (before : List Declared) → Fresh before (declared_in is at) → Once before is
items-once [] at before e = record { once = refl; new = λ n h. refl }
items-once (I.Signal s ∷ is) at before e =
    let next = at + item_size (I.Signal s) in
    signal-once s at before (declared_in is next) is (signal-name s at) e
    (items-once is next (declared_signal s at ∷ before) (rest-fresh before (declared_signal s at) (declared_in is next) e))
items-once (I.Initial i ∷ is) at before e =
    let next = at + item_size (I.Initial i) in
    let b = behind (declared_by (I.Initial i) at) before (declared_in is next) e in
    let o = items-once is next b.after b.fresh in record { once = o.once; new = λ n h. o.new n (b.keeps n h) }
items-once (I.Process p ∷ is) at before e =
    let next = at + item_size (I.Process p) in
    let b = behind (declared_by (I.Process p) at) before (declared_in is next) e in
    let o = items-once is next b.after b.fresh in record { once = o.once; new = λ n h. o.new n (b.keeps n h) }
items-once (I.Function f ∷ is) at before e =
    let next = at + item_size (I.Function f) in
    let b = behind (declared_by (I.Function f) at) before (declared_in is next) e in
    let o = items-once is next b.after b.fresh in record { once = o.once; new = λ n h. o.new n (b.keeps n h) }
items-once (I.Instance x ∷ is) at before e =
    let next = at + item_size (I.Instance x) in
    let b = behind (declared_by (I.Instance x) at) before (declared_in is next) e in
    let o = items-once is next b.after b.fresh in record { once = o.once; new = λ n h. o.new n (b.keeps n h) }

module-once : (ms : List VModule) (m : VModule) (at : ℕ) → module_broken ms m at ≡ [] → distinct (names_of_signals (signals m.items)) ≡ true
module-once ms m at e =
    let first = at + (3 + ports_size m.ports) in
    let own = declared_in m.items first in
    let ports = ports_of m.items first in
    let list = listed_ports m.ports (at + 3) in
    let around : Around = record { scope = inside own nowhere; leads_back = λ f. false } in
    let items = items_broken ms m around m.items first in
    let behind_list = right-empty (repeated [] list) (undeclared ports list ++ (unlisted m.ports ports ++ (repeated [] own ++ items))) e in
    let behind_undeclared = right-empty (undeclared ports list) (unlisted m.ports ports ++ (repeated [] own ++ items)) behind_list in
    let behind_unlisted = right-empty (unlisted m.ports ports) (repeated [] own ++ items) behind_undeclared in
    (items-once m.items first [] (left-empty (repeated [] own) items behind_unlisted)).once

modules-once : (all ms : List VModule) (at : ℕ) → modules_broken all ms at ≡ [] → NamesStandOnce ms
modules-once all [] at e = tt
modules-once all (m ∷ ms) at e = (
  module-once all m at (left-empty (module_broken all m at) (modules_broken all ms (at + module_size m)) e),
  modules-once all ms (at + module_size m) (right-empty (module_broken all m at) (modules_broken all ms (at + module_size m)) e),
)

pub once : NamesOfRules
once e keeps = modules-once e.modules e.modules 0 (right-empty (repeated [] (module_names e.modules 0)) (modules_broken e.modules e.modules 0) keeps)
