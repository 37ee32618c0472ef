-- What the rules on declarations and port lists say of inputs (IEEE 1364-2005 clauses 12.3.2 and 12.3.3).
use Rattle.std.proofs.Common.{◌≡◌, ℕ, zero, suc, ◌+◌, Bool, true, false, not, ◌&&◌, ◌||◌, cond, List, [], ◌∷◌, ◌++◌, None, Some, slice_get, refl, sym, ap, ◌∙◌, subst, inl, inr, arith}
use Rattle.std.proofs.lemmas.Bool.{false≢true, or_cases}
use Rattle.std.proofs.lemmas.Slice.Eq.{bytes_eq-Decides}
use Rattle.std.specs.Str.{bytes_eq}
use Rattle.row_machine.specs.Valuation.{Member}
use Rattle.v_tree.specs.Names.{Name, among, distinct}
use Rattle.v_tree.specs.ExprRules.{only_if}
use Rattle.v_tree.specs.Rules.{Port, module_named, ports_by, ports_of, unlisted, signal_size, item_size, module_size, module_broken, modules_broken, ports_size, listed_ports, undeclared, declared_in, items_broken}
use Rattle.v_tree.specs.Scopes.{repeated, inside, nowhere}
use Rattle.v_tree.specs.ExprRules.{Around}
use Rattle.v_tree.specs.declared.items.VItem.{VItem}
use Rattle.v_tree.specs.declared.items.VItem.TheVariants as I
use Rattle.v_tree.specs.declared.items.VModule.{VModule}
use Rattle.v_tree.specs.declared.items.VRegRest.TheVariants as R
use Rattle.v_tree.specs.declared.items.VSignal.{VSignal}
use Rattle.v_tree.specs.declared.items.VSignal.TheVariants.{Input, Output, OutputReg, Wire, Reg}
use Rattle.v_meaning.specs.Scopes.{Named, named}
use Rattle.v_meaning.specs.Modules.{Signal, signal, signals, items_of, numbered, kind_of}
use Rattle.v_meaning.specs.Machine.{is_input}
use Rattle.v_modules.specs.Named.{names_of_signals}
use Rattle.v_modules.specs.Tables.{NamesStandOnce}
use Rattle.v_modules.proofs.Once.{left-empty, right-empty}
use Rattle.v_eval.proofs.Naming.{either-way}
use Rattle.cycle_dst.specs.Designs.{top_ports}

none-said : (b : Bool) (token : ℕ) (rest : List ℕ) → only_if (not b) token ++ rest ≡ [] → b ≡ true
none-said true token rest e = refl
none-said false token rest e = absurd (cc)

unlisted-append : (names : List Name) (xs ys : List Port) → unlisted names (xs ++ ys) ≡ unlisted names xs ++ unlisted names ys
unlisted-append names [] ys = refl
unlisted-append names (x ∷ xs) ys =
    ap (λ l. only_if (not (among names x.name)) x.token ++ l) (unlisted-append names xs ys)
    ∙ sym (append-more (only_if (not (among names x.name)) x.token) (unlisted names xs) (unlisted names ys))
  where
    append-more : (a b c : List ℕ) → (a ++ b) ++ c ≡ a ++ (b ++ c)
    append-more [] b c = refl
    append-more (x ∷ a) b c = ap (λ l. x ∷ l) (append-more a b c)

no-input : {C : Type 0} (s t : Signal) → is_input s.kind ≡ false → s ≡ t → is_input t.kind ≡ true → C
no-input s t f e h = absurd (false≢true (sym f ∙ ap (λ (x : Signal). is_input x.kind) e ∙ h))

-- a declared input is in the port list
own-listed : (names : List Name) (v : VSignal) (at : ℕ) → unlisted names (ports_by v at) ≡ [] → (s : Signal) → signal v ≡ s → is_input s.kind ≡ true → among names s.name ≡ true
own-listed names (Input range name) at none s e h = ap (λ (x : Signal). among names x.name) (sym e) ∙ none-said (among names name) _ [] none
own-listed names (Output range name) at none s e h = no-input (signal (Output range name)) s refl e h
own-listed names (OutputReg range name None) at none s e h = no-input (signal (OutputReg range name None)) s refl e h
own-listed names (OutputReg range name (Some v)) at none s e h = no-input (signal (OutputReg range name (Some v))) s refl e h
own-listed names (Wire range name) at none s e h = no-input (signal (Wire range name)) s refl e h
own-listed names (Reg range name None) at none s e h = no-input (signal (Reg range name None)) s refl e h
own-listed names (Reg range name (Some (R.Memory left))) at none s e h = no-input (signal (Reg range name (Some (R.Memory left)))) s refl e h
own-listed names (Reg range name (Some (R.Initial v))) at none s e h = no-input (signal (Reg range name (Some (R.Initial v)))) s refl e h

items-listed : (names : List Name) (is : List VItem) (at : ℕ) → unlisted names (ports_of is at) ≡ [] → (k : ℕ) (s : Signal) → slice_get (signals is) k ≡ Some s → is_input s.kind ≡ true → among names s.name ≡ true
items-listed names [] at none k s there h = absurd (cc)
items-listed names (I.Signal v ∷ is) at none zero s there h =
    let parted = sym (unlisted-append names (ports_by v at) (ports_of is (at + signal_size v))) ∙ none in
    own-listed names v at (left-empty (unlisted names (ports_by v at)) (unlisted names (ports_of is (at + signal_size v))) parted) s (cc) h
items-listed names (I.Signal v ∷ is) at none (suc k) s there h =
    let parted = sym (unlisted-append names (ports_by v at) (ports_of is (at + signal_size v))) ∙ none in
    items-listed names is (at + signal_size v) (right-empty (unlisted names (ports_by v at)) (unlisted names (ports_of is (at + signal_size v))) parted) k s there h
items-listed names (I.Initial x ∷ is) at none k s there h = items-listed names is (at + item_size (I.Initial x)) none k s there h
items-listed names (I.Process x ∷ is) at none k s there h = items-listed names is (at + item_size (I.Process x)) none k s there h
items-listed names (I.Function x ∷ is) at none k s there h = items-listed names is (at + item_size (I.Function x)) none k s there h
items-listed names (I.Instance x ∷ is) at none k s there h = items-listed names is (at + item_size (I.Instance x)) none k s there h

module-listed : (ms : List VModule) (m : VModule) (at : ℕ) → module_broken ms m at ≡ [] → (k : ℕ) (s : Signal) → slice_get (signals m.items) k ≡ Some s → is_input s.kind ≡ true → among m.ports s.name ≡ true
module-listed ms m at e =
    let first = at + (3 + ports_size m.ports) in
    let own = declared_in m.items first in
    let ports = ports_of m.items first in
    let list = listed_ports m.ports (at + 3) in
    let around : Around = record { scope = inside own nowhere; leads_back = λ f. false } in
    let items = items_broken ms m around m.items first in
    let behind_list = right-empty (repeated [] list) (undeclared ports list ++ (unlisted m.ports ports ++ (repeated [] own ++ items))) e in
    let behind_undeclared = right-empty (undeclared ports list) (unlisted m.ports ports ++ (repeated [] own ++ items)) behind_list in
    items-listed m.ports m.items first (left-empty (unlisted m.ports ports) (repeated [] own ++ items) behind_undeclared)

-- an input of the module with a name is in its port list
pub inputs-listed : (all ms : List VModule) (at : ℕ) (top : Name) → modules_broken all ms at ≡ [] → (k : ℕ) (s : Signal) → slice_get (signals (items_of ms top)) k ≡ Some s → is_input s.kind ≡ true
    → among (top_ports (module_named ms top)) s.name ≡ true
inputs-listed all [] at top e k s there h = absurd (cc)
inputs-listed all (m ∷ ms) at top e k s there h =
    by (bytes_eq m.name top) (module-listed all m at (left-empty (module_broken all m at) (modules_broken all ms (at + module_size m)) e) k s)
    (λ t. inputs-listed all ms (at + module_size m) top (right-empty (module_broken all m at) (modules_broken all ms (at + module_size m)) e) k s t h) there
  where
    by : (b : Bool) → (slice_get (signals m.items) k ≡ Some s → is_input s.kind ≡ true → among m.ports s.name ≡ true)
        → (slice_get (signals (items_of ms top)) k ≡ Some s → among (top_ports (module_named ms top)) s.name ≡ true)
        → slice_get (signals (cond b m.items (items_of ms top))) k ≡ Some s → among (top_ports (cond b (Some m) (module_named ms top))) s.name ≡ true
    by true own others t = own t h
    by false own others t = others t

-- the names of signals stand once
pub items-once : (ms : List VModule) (top : Name) → NamesStandOnce ms → distinct (names_of_signals (signals (items_of ms top))) ≡ true
items-once [] top h = refl
items-once (m ∷ ms) top h = by (bytes_eq m.name top) h.0 (items-once ms top h.1)
  where
    by : (b : Bool) → distinct (names_of_signals (signals m.items)) ≡ true → distinct (names_of_signals (signals (items_of ms top))) ≡ true
        → distinct (names_of_signals (signals (cond b m.items (items_of ms top)))) ≡ true
    by true own others = own
    by false own others = others

left-false : (b c : Bool) → (b || c) ≡ false → b ≡ false
left-false true c e = e
left-false false c e = refl

right-false : (b c : Bool) → (b || c) ≡ false → c ≡ false
right-false true c e = absurd (cc)
right-false false c e = e

not-false : (b c : Bool) → (not b && c) ≡ true → b ≡ false
not-false true c e = absurd (cc)
not-false false c e = refl

and-right : (b c : Bool) → (b && c) ≡ true → c ≡ true
and-right true c e = e
and-right false c e = absurd (cc)

apart : (ss : List Signal) (name : Name) (k : ℕ) (s : Signal) → among (names_of_signals ss) name ≡ false → slice_get ss k ≡ Some s → bytes_eq name s.name ≡ false
apart [] name k s none there = absurd (cc)
apart (x ∷ ss) name zero s none there =
    let e : x ≡ s = cc in
    either-way name s.name ∙ ap (λ (y : Signal). bytes_eq y.name name) (sym e) ∙ left-false (bytes_eq x.name name) (among (names_of_signals ss) name) none
apart (x ∷ ss) name (suc k) s none there = apart ss name k s (right-false (bytes_eq x.name name) (among (names_of_signals ss) name) none) there

-- what a signal's name stands for, where names stand once
pub record NamedAs (n : ℕ) (ss : List Signal) (k : ℕ) (s : Signal) : Type 0 where
  pub number : (named (numbered n ss) s.name).number ≡ n + k
  pub kind : kind_of ss s.name ≡ s.kind

here-named : (n : ℕ) (x : Signal) (ss : List Signal) → NamedAs n (x ∷ ss) 0 x
here-named n x ss =
    let same : bytes_eq x.name x.name ≡ true = (bytes_eq-Decides x.name x.name).1 refl in
    let own : Named = record { name = x.name; number = n; width = x.width; words = x.words } in
    record {
      number = ap (λ b. (cond b own (named (numbered (suc n) ss) x.name)).number) same ∙ omega arith;
      kind = ap (λ b. cond b x.kind (kind_of ss x.name)) same;
    }

pub as-named : (n : ℕ) (ss : List Signal) (k : ℕ) (s : Signal) → distinct (names_of_signals ss) ≡ true → slice_get ss k ≡ Some s → NamedAs n ss k s
as-named n [] k s once there = absurd (cc)
as-named n (x ∷ ss) zero s once there = subst (NamedAs n (x ∷ ss) 0) (let e : x ≡ s = cc in e) (here-named n x ss)
as-named n (x ∷ ss) (suc k) s once there =
    let rest = as-named (suc n) ss k s (and-right (not (among (names_of_signals ss) x.name)) (distinct (names_of_signals ss)) once) there in
    let other = apart ss x.name k s (not-false (among (names_of_signals ss) x.name) (distinct (names_of_signals ss)) once) there in
    let own : Named = record { name = x.name; number = n; width = x.width; words = x.words } in
    let next : suc n + k ≡ n + suc k = omega arith in
    record {
      number = ap (λ b. (cond b own (named (numbered (suc n) ss) s.name)).number) other ∙ rest.number ∙ next;
      kind = ap (λ b. cond b x.kind (kind_of ss s.name)) other ∙ rest.kind;
    }

-- the signal that a name stands for, if it is that of an input
pub record InputAt (n : ℕ) (ss : List Signal) (name : Name) : Type 0 where
  pub k : ℕ
  pub s : Signal
  pub there : slice_get ss k ≡ Some s
  pub input : is_input s.kind ≡ true
  pub number : (named (numbered n ss) name).number ≡ n + k

none-more : (n : ℕ) → n ≡ n + 0
none-more n = omega arith

next-one : (n k : ℕ) → suc n + k ≡ n + suc k
next-one n k = omega arith

pub input-at : (n : ℕ) (ss : List Signal) (name : Name) → is_input (kind_of ss name) ≡ true → InputAt n ss name
input-at n [] name h = absurd (false≢true h)
input-at n (x ∷ ss) name h = by (bytes_eq x.name name) refl (input-at (suc n) ss name) h
  where
    own : Named
    own = record { name = x.name; number = n; width = x.width; words = x.words }

    by : (b : Bool) → bytes_eq x.name name ≡ b → (is_input (kind_of ss name) ≡ true → InputAt (suc n) ss name) → is_input (cond b x.kind (kind_of ss name)) ≡ true → InputAt n (x ∷ ss) name
    by true e more h = record { k = 0; s = x; there = refl; input = h; number = ap (λ b. (cond b own (named (numbered (suc n) ss) name)).number) e ∙ none-more n }
    by false e more h =
        let rest = more h in
        record { k = suc rest.k; s = rest.s; there = rest.there; input = rest.input; number = ap (λ b. (cond b own (named (numbered (suc n) ss) name)).number) e ∙ rest.number ∙ next-one n rest.k }

pub among-member : (names : List Name) (name : Name) → among names name ≡ true → Member names name
among-member [] name h = absurd (false≢true h)
among-member (n ∷ names) name h =
    elim (or_cases (bytes_eq n name) (among names name) h) [
      | inl e ↦ inl (sym ((bytes_eq-Decides n name).0 e))
      | inr e ↦ inr (among-member names name e)
    ]
