-- Values of signals in a design that keeps the rules.
use Rattle.std.proofs.Common.{◌≡◌, ℕ, zero, suc, ◌+◌, ◌-◌, ◌*◌, ◌≤◌, ◌==◌, Bool, true, false, not, cond, List, [], ◌∷◌, ◌++◌, append_assoc, length, drop, map, replicate, Option, Some, None, refl, sym, ap, ◌∙◌, subst, arith}
use Rattle.std.specs.Prelude.{if◌then◌else◌, slice_get}
use Rattle.std.specs.Str.{bytes_eq}
use Rattle.std.proofs.lemmas.Bool.Decides.{nat_tests}
use Rattle.std.proofs.lemmas.List.{length-append, length-replicate}
use Rattle.b4_core.specs.declared.bit.Bit4.{Bit4}
use Rattle.b4_core.specs.declared.bit.Bit4.TheVariants.{X}
use Rattle.round_runner.specs.Stores.{Holds}
use Rattle.v_tree.specs.ExprRules.{Around, only_if, total}
use Rattle.v_tree.specs.StmtRules.{range_size, rules_of_branch}
use Rattle.v_tree.specs.Names.{Name}
use Rattle.v_tree.specs.Scopes.{input, net, variable, local, Thing, value, memory, function, result, part, Declared, inside, nowhere, repeated, bits_of}
use Rattle.v_tree.specs.Rules.{init_bits, declared_signal, declared_in, event_size, input_bits, item_size, module_size, ports_size, listed_ports, undeclared, unlisted, ports_of, value_broken, width_broken, rest_broken, signal_broken, initial_broken, item_broken, items_broken, module_broken, modules_broken, module_names, Keeps}
use Rattle.v_tree.specs.declared.items.VDesign.{VDesign}
use Rattle.v_tree.specs.declared.items.VInit.{VInit}
use Rattle.v_tree.specs.declared.items.VInit.TheVariants as V
use Rattle.v_tree.specs.declared.items.VItem.{VItem}
use Rattle.v_tree.specs.declared.items.VItem.TheVariants as I
use Rattle.v_tree.specs.declared.items.VModule.{VModule}
use Rattle.v_tree.specs.declared.items.VProcess.TheVariants.{Assign, Always}
use Rattle.v_tree.specs.declared.items.VRegRest.{VRegRest}
use Rattle.v_tree.specs.declared.items.VRegRest.TheVariants as G
use Rattle.v_tree.specs.declared.items.VSignal.{VSignal}
use Rattle.v_tree.specs.declared.items.VSignal.TheVariants.{Input, Output, OutputReg, Wire, Reg}
use Rattle.v_tree.proofs.Induction.{Each}
use Rattle.v_meaning.specs.Scopes as M
use Rattle.v_meaning.specs.Scopes.{Named, bits_of_range, named}
use Rattle.v_meaning.specs.Machine.{size}
use Rattle.v_meaning.specs.Modules.{Signal, InitialValue, Parts, Child, signal, signals, numbers, bits_of_init, items_of, numbered, scope_of, children, signal_count, initials, joined_parts, parts_from, parts}
use Rattle.v_instances.specs.Walks.{child_signals, signals_from}
use Rattle.v_instances.proofs.Counting.{signals-are, count-is}
use Rattle.v_exec.proofs.KeptExprs.{left-none, right-none}
use Rattle.v_exec.proofs.KeptRuns.{AllParts, range-bits, branch-good}
use Rattle.v_stores.specs.Stores.{padded, rooms, initially}
use Rattle.v_zero.specs.Zero.{InitialsFit}
use Rattle.v_zero.specs.Laws.{RoomsOfRules, InitialHeld, InitialsOfRules}

-- the items that a name stands for are those of a module that keeps the rules, or none
either : (P : List VItem → Type 0) (b : Bool) (is js : List VItem) → P is → P js → P (cond b is js)
either P true is js h g = h
either P false is js h g = g

of-modules : (P : List VItem → Type 0) → P [] → (all ms : List VModule) (at : ℕ) (name : Name) → ((m : VModule) (at : ℕ) → module_broken all m at ≡ [] → P m.items) → modules_broken all ms at ≡ [] → P (items_of ms name)
of-modules P empty all [] at name each none = empty
of-modules P empty all (m ∷ ms) at name each none =
    either P (bytes_eq m.name name) m.items (items_of ms name) (each m at (left-none (module_broken all m at) (modules_broken all ms (at + module_size m)) none))
    (of-modules P empty all ms (at + module_size m) name each (right-none (module_broken all m at) (modules_broken all ms (at + module_size m)) none))

of-design : (P : List VItem → Type 0) → P [] → (e : VDesign) (name : Name) → ((m : VModule) (at : ℕ) → module_broken e.modules m at ≡ [] → P m.items) → Keeps e → P (items_of e.modules name)
of-design P empty e name each keeps = of-modules P empty e.modules e.modules 0 name each (right-none (repeated [] (module_names e.modules 0)) (modules_broken e.modules e.modules 0) keeps)

abbrev pub around_of : VModule → ℕ → Around
around_of m at = record { scope = inside (declared_in m.items (at + (3 + ports_size m.ports))) nowhere; leads_back = λ f. false }

of-module : (ms : List VModule) (m : VModule) (at : ℕ) → module_broken ms m at ≡ [] → items_broken ms m (around_of m at) m.items (at + (3 + ports_size m.ports)) ≡ []
of-module ms m at none =
    let first = at + (3 + ports_size m.ports) in
    let own = declared_in m.items first in
    let ports = ports_of m.items first in
    let list = listed_ports m.ports (at + 3) in
    let items = items_broken ms m (around_of m at) m.items first in
    let last = repeated [] own ++ items in
    let third = unlisted m.ports ports in
    let second = undeclared ports list in
    right-none (repeated [] own) items (right-none third last (right-none second (third ++ last) (right-none (repeated [] list) (second ++ (third ++ last)) none)))

-- a test that fails at no token
only-none : (a b t : ℕ) → only_if (not (a == b)) t ≡ [] → a ≡ b
only-none a b t h = by (a == b) refl h
  where
    same : (a b : ℕ) → (a == b) ≡ true → a ≡ b
    same a b h = grind (arith, nat_tests)

    by : (c : Bool) → (a == b) ≡ c → only_if (not c) t ≡ [] → a ≡ b
    by true e h = same a b e
    by false e h = absurd (cc)

-- declared values
numbers-long : (vs : List (List Bit4)) → length (numbers vs) ≡ total (map length vs)
numbers-long [] = refl
numbers-long (v ∷ vs) = let h = numbers-long vs in let e = length-append (numbers vs) v in omega (arith, h, e)

init-long : (v : VInit) → length (bits_of_init v) ≡ init_bits v
init-long (V.Number bits) = refl
init-long (V.Concat vs) = numbers-long vs

abbrev pub Short : Signal → Type 0
Short s = length s.initial ≤ size s

x-long : (n : ℕ) → length (replicate n X) ≤ n
x-long n = let h = length-replicate n X in omega (arith, h)

words-long : (n left : ℕ) → length (replicate n X) ≤ (left + 1) * n
words-long n left = let h = x-long n in by (length (replicate n X)) h
  where
    by : (k : ℕ) → k ≤ n → k ≤ (left + 1) * n
    by k h = grind arith

value-short : (range : Option ℕ) (v : VInit) (t : ℕ) → value_broken range (Some v) t ≡ [] → length (bits_of_init v) ≤ bits_of_range range
value-short range v t none =
    let e = init-long v in
    let h = only-none (init_bits v) (bits_of range) (t + 2) none in
    let r = range-bits range in
    omega (arith, e, h, r)

output-short : (range : Option ℕ) (name : Name) (v : Option VInit) (at : ℕ) → value_broken range v (2 + (at + range_size range)) ≡ [] → Short (signal (OutputReg range name v))
output-short range name None at none = x-long (bits_of_range range)
output-short range name (Some v) at none = value-short range v (2 + (at + range_size range)) none

reg-short : (range : Option ℕ) (name : Name) (rest : Option VRegRest) (t : ℕ) → rest_broken range rest t ≡ [] → Short (signal (Reg range name rest))
reg-short range name None t none = x-long (bits_of_range range)
reg-short range name (Some (G.Memory left)) t none = words-long (bits_of_range range) left
reg-short range name (Some (G.Initial v)) t none = value-short range v t none

signal-short : (s : VSignal) (at : ℕ) → signal_broken s at ≡ [] → Short (signal s)
signal-short (Input range name) at none = x-long (bits_of_range range)
signal-short (Output range name) at none = x-long (bits_of_range range)
signal-short (OutputReg range name v) at none =
    output-short range name v at (right-none (width_broken range (2 + (at + range_size range))) (value_broken range v (2 + (at + range_size range))) none)
signal-short (Wire range name) at none = x-long (bits_of_range range)
signal-short (Reg range name rest) at none =
    reg-short range name rest (suc at + range_size range) (right-none (width_broken range (suc at + range_size range)) (rest_broken range rest (suc at + range_size range)) none)

items-short : (ms : List VModule) (m : VModule) (around : Around) (is : List VItem) (at : ℕ) → items_broken ms m around is at ≡ [] → Each Short (signals is)
items-short ms m around [] at none = tt
items-short ms m around (I.Signal s ∷ is) at none = (
  signal-short s at (left-none (signal_broken s at) (items_broken ms m around is (at + item_size (I.Signal s))) none),
  items-short ms m around is (at + item_size (I.Signal s)) (right-none (signal_broken s at) (items_broken ms m around is (at + item_size (I.Signal s))) none),
)
items-short ms m around (I.Initial i ∷ is) at none =
    items-short ms m around is (at + item_size (I.Initial i)) (right-none (item_broken ms m around (I.Initial i) at) (items_broken ms m around is (at + item_size (I.Initial i))) none)
items-short ms m around (I.Process p ∷ is) at none =
    items-short ms m around is (at + item_size (I.Process p)) (right-none (item_broken ms m around (I.Process p) at) (items_broken ms m around is (at + item_size (I.Process p))) none)
items-short ms m around (I.Function f ∷ is) at none =
    items-short ms m around is (at + item_size (I.Function f)) (right-none (item_broken ms m around (I.Function f) at) (items_broken ms m around is (at + item_size (I.Function f))) none)
items-short ms m around (I.Instance i ∷ is) at none =
    items-short ms m around is (at + item_size (I.Instance i)) (right-none (item_broken ms m around (I.Instance i) at) (items_broken ms m around is (at + item_size (I.Instance i))) none)

each-both : {A : Type 0} (P : A → Type 0) (xs ys : List A) → Each P xs → Each P ys → Each P (xs ++ ys)
each-both P [] ys h g = g
each-both P (x ∷ xs) ys h g = (h.0, each-both P xs ys h.1 g)

children-short : (f : Name → List Signal) → ((name : Name) → Each Short (f name)) → (is : List VItem) → Each Short (child_signals f is)
children-short f short [] = tt
children-short f short (I.Signal s ∷ is) = children-short f short is
children-short f short (I.Initial i ∷ is) = children-short f short is
children-short f short (I.Process p ∷ is) = children-short f short is
children-short f short (I.Function x ∷ is) = children-short f short is
children-short f short (I.Instance i ∷ is) = each-both Short (f i.of) (child_signals f is) (short i.of) (children-short f short is)

all-short : (e : VDesign) (depth : ℕ) (name : Name) → Keeps e → Each Short (signals_from depth e.modules name)
unfolding signals_from
all-short e zero name keeps = tt
all-short e (suc depth) name keeps =
    each-both Short (signals (items_of e.modules name)) (child_signals (signals_from depth e.modules) (items_of e.modules name))
    (of-design (λ is. Each Short (signals is)) tt e name (λ m at none. items-short e.modules m (around_of m at) m.items (at + (3 + ports_size m.ports)) (of-module e.modules m at none)) keeps)
    (children-short (signals_from depth e.modules) (λ n. all-short e depth n keeps) (items_of e.modules name))

room-is : (s : Signal) → Short s → length (padded s) ≡ size s
room-is s short =
    let e = length-append s.initial (replicate (size s - length s.initial) X) in
    let r = length-replicate (size s - length s.initial) X in
    by (length s.initial) (length (replicate (size s - length s.initial) X)) (size s) short e r
  where
    by : (a b w : ℕ) → a ≤ w → length (padded s) ≡ a + b → b ≡ w - a → length (padded s) ≡ w
    by a b w h e r = omega (arith, h, e, r)

rooms-are : (ss : List Signal) → Each Short ss → rooms ss ≡ map size ss
rooms-are [] h = refl
rooms-are (s ∷ ss) h = ap (λ n. n ∷ rooms ss) (room-is s h.0) ∙ ap (λ ns. size s ∷ ns) (rooms-are ss h.1)

pub rooms-of-rules : RoomsOfRules
rooms-of-rules e top keeps =
    rooms-are (parts e.modules top).signals (subst (λ ss. Each Short ss) (sym (signals-are (length e.modules) e.modules 0 top)) (all-short e (length e.modules) top keeps))

pub initial-held : InitialHeld
initial-held e top own ss vs keeps is held =
    let h = subst (λ (ts : List Signal). Holds (rooms ts) (initially ts) vs) is held in
    record { values = h.values; shape = h.shape ∙ rooms-of-rules e top keeps }

-- what a name stands for to the rules, and which signal it is
abbrev pub Stands : List ℕ → Option Thing → Named → Type 0
Stands ws None n = Unit {0}
Stands ws (Some (value kind width ranged)) n = slice_get ws n.number ≡ Some width
Stands ws (Some (memory width ranged)) n = Unit {0}
Stands ws (Some (function width inputs)) n = Unit {0}
Stands ws (Some (result width ranged inputs)) n = Unit {0}
Stands ws (Some part) n = Unit {0}

size-at : (all : List Signal) (n : ℕ) (s : Signal) (rest : List Signal) → drop n all ≡ s ∷ rest → slice_get (map size all) n ≡ Some (size s)
size-at [] zero s rest is = absurd (cc)
size-at [] (suc n) s rest is = absurd (cc)
size-at (a ∷ all) zero s rest is = let same : a ≡ s = cc in ap (λ (x : Signal). Some (size x)) same
size-at (a ∷ all) (suc n) s rest is = size-at all n s rest is

drop-more : (all : List Signal) (n : ℕ) (s : Signal) (rest : List Signal) → drop n all ≡ s ∷ rest → drop (suc n) all ≡ rest
drop-more [] zero s rest is = absurd (cc)
drop-more [] (suc n) s rest is = absurd (cc)
drop-more (a ∷ all) zero s rest is = cc
drop-more (a ∷ all) (suc n) s rest is = drop-more all n s rest is

drop-behind : (all : List Signal) (n : ℕ) (xs ys : List Signal) → drop n all ≡ xs ++ ys → drop (n + length xs) all ≡ ys
drop-behind all n [] ys is = ap (λ k. drop k all) (let e : n + 0 ≡ n = omega arith in e) ∙ is
drop-behind all n (x ∷ xs) ys is =
    ap (λ k. drop k all) (let e : n + suc (length xs) ≡ suc n + length xs = omega arith in e) ∙ drop-behind all (suc n) xs ys (drop-more all n x (xs ++ ys) is)

abbrev pub one : Signal → ℕ → Named
one s n = record { name = s.name; number = n; width = s.width; words = s.words }

stands-if : (ws : List ℕ) (b : Bool) (t u : Option Thing) (n m : Named) → Stands ws t n → Stands ws u m → Stands ws (if b then t else u) (cond b n m)
stands-if ws true t u n m h g = h
stands-if ws false t u n m h g = g

part-stands : (ws : List ℕ) (t : Thing) (n : Named) → t ≡ part → Stands ws (Some t) n
part-stands ws (value kind width ranged) n e = absurd (cc)
part-stands ws (memory width ranged) n e = tt
part-stands ws (function width inputs) n e = tt
part-stands ws (result width ranged inputs) n e = tt
part-stands ws part n e = tt

parts-before : (ws : List ℕ) (ds rest : List Declared) (name : Name) (n : Named) → AllParts ds → Stands ws (inside rest nowhere name) n → Stands ws (inside (ds ++ rest) nowhere name) n
parts-before ws [] rest name n h g = g
parts-before ws (d ∷ ds) rest name n h g = by (bytes_eq d.name name) (parts-before ws ds rest name n h.1 g)
  where
    by : (b : Bool) → Stands ws (inside (ds ++ rest) nowhere name) n → Stands ws (if b then Some d.thing else inside (ds ++ rest) nowhere name) n
    by true more = part-stands ws d.thing n h.0
    by false more = more

function-before : (ws : List ℕ) (b : Bool) (w : ℕ) (is : List ℕ) (t : Option Thing) (n : Named) → Stands ws t n → Stands ws (if b then Some (function w is) else t) n
function-before ws true w is t n h = tt
function-before ws false w is t n h = h

-- a signal as it is declared
abbrev pub SignalStands : Declared → Signal → Type 0
SignalStands d s = (d.name ≡ s.name) × ((ws : List ℕ) (n : Named) → slice_get ws n.number ≡ Some (size s) → Stands ws (Some d.thing) n)

plain : (r : Option ℕ) (ws : List ℕ) (n : Named) → slice_get ws n.number ≡ Some (bits_of_range r) → slice_get ws n.number ≡ Some (bits_of r)
plain r ws n h = h ∙ ap (λ w. Some w) (range-bits r)

signal-stands : (s : VSignal) (at : ℕ) → SignalStands (declared_signal s at) (signal s)
signal-stands (Input r name) at = (refl, plain r)
signal-stands (Output r name) at = (refl, plain r)
signal-stands (OutputReg r name None) at = (refl, plain r)
signal-stands (OutputReg r name (Some v)) at = (refl, plain r)
signal-stands (Wire r name) at = (refl, plain r)
signal-stands (Reg r name None) at = (refl, plain r)
signal-stands (Reg r name (Some (G.Memory left))) at = (refl, λ ws n h. tt)
signal-stands (Reg r name (Some (G.Initial v))) at = (refl, plain r)

signal-first : (ws : List ℕ) (d : Declared) (s : Signal) (t : Option Thing) (m : Named) (n : ℕ) (name : Name) → SignalStands d s → slice_get ws n ≡ Some (size s) → Stands ws t m
    → Stands ws (if bytes_eq d.name name then Some d.thing else t) (cond (bytes_eq s.name name) (one s n) m)
signal-first ws d s t m n name h there g =
    subst (λ (k : Name). Stands ws (if bytes_eq k name then Some d.thing else t) (cond (bytes_eq s.name name) (one s n) m)) (sym h.0)
    (stands-if ws (bytes_eq s.name name) (Some d.thing) t (one s n) m (h.1 ws (one s n) there) g)

items-stand : (all : List Signal) (is : List VItem) (at n : ℕ) (rest : List Signal) (name : Name) → drop n all ≡ signals is ++ rest
    → Stands (map size all) (inside (declared_in is at) nowhere name) (named (numbered n (signals is)) name)
items-stand all [] at n rest name h = tt
items-stand all (I.Signal s ∷ is) at n rest name h =
    signal-first (map size all) (declared_signal s at) (signal s) (inside (declared_in is (at + item_size (I.Signal s))) nowhere name) (named (numbered (suc n) (signals is)) name) n name (signal-stands s at)
    (size-at all n (signal s) (signals is ++ rest) h)
    (items-stand all is (at + item_size (I.Signal s)) (suc n) rest name (drop-more all n (signal s) (signals is ++ rest) h))
items-stand all (I.Initial i ∷ is) at n rest name h = items-stand all is (at + item_size (I.Initial i)) n rest name h
items-stand all (I.Process (Assign to x) ∷ is) at n rest name h = items-stand all is (at + item_size (I.Process (Assign to x))) n rest name h
items-stand all (I.Process (Always on body) ∷ is) at n rest name h =
    parts-before (map size all) ((rules_of_branch body).blocks (at + (2 + event_size on))) (declared_in is (at + item_size (I.Process (Always on body)))) name (named (numbered n (signals is)) name)
    ((branch-good body).0 (at + (2 + event_size on))) (items-stand all is (at + item_size (I.Process (Always on body))) n rest name h)
items-stand all (I.Function f ∷ is) at n rest name h =
    function-before (map size all) (bytes_eq f.name name) (bits_of f.range) (input_bits f) (inside (declared_in is (at + item_size (I.Function f))) nowhere name) (named (numbered n (signals is)) name)
    (items-stand all is (at + item_size (I.Function f)) n rest name h)
items-stand all (I.Instance i ∷ is) at n rest name h =
    parts-before (map size all) (record { name = i.name; token = suc at; thing = part } ∷ []) (declared_in is (at + item_size (I.Instance i))) name (named (numbered n (signals is)) name) (refl, tt)
    (items-stand all is (at + item_size (I.Instance i)) n rest name h)

-- the values that an instance's `initial` items give
initial-fits : (ws : List ℕ) (t : Option Thing) (n : Named) (bits at : ℕ) → Stands ws t n → initial_broken t bits at ≡ [] → slice_get ws n.number ≡ Some bits
initial-fits ws None n bits at h none = absurd (cc)
initial-fits ws (Some (value input width ranged)) n bits at h none = absurd (cc)
initial-fits ws (Some (value net width ranged)) n bits at h none = absurd (cc)
initial-fits ws (Some (value variable width ranged)) n bits at h none = h ∙ ap (λ w. Some w) (only-none width bits (at + 3) none)
initial-fits ws (Some (value local width ranged)) n bits at h none = absurd (cc)
initial-fits ws (Some (memory width ranged)) n bits at h none = absurd (cc)
initial-fits ws (Some (function width inputs)) n bits at h none = absurd (cc)
initial-fits ws (Some (result width ranged inputs)) n bits at h none = absurd (cc)
initial-fits ws (Some part) n bits at h none = absurd (cc)

own-fit : (ws : List ℕ) (sc : M.Scope) (ms : List VModule) (m : VModule) (around : Around) (is : List VItem) (at : ℕ) → ((name : Name) → Stands ws (around.scope name) (named sc.names name)) → items_broken ms m around is at ≡ []
    → InitialsFit ws (initials sc is)
own-fit ws sc ms m around [] at stand none = tt
own-fit ws sc ms m around (I.Signal s ∷ is) at stand none =
    own-fit ws sc ms m around is (at + item_size (I.Signal s)) stand (right-none (item_broken ms m around (I.Signal s) at) (items_broken ms m around is (at + item_size (I.Signal s))) none)
own-fit ws sc ms m around (I.Initial i ∷ is) at stand none = (
  initial-fits ws (around.scope i.name) (named sc.names i.name) (length i.value) at (stand i.name) (left-none (item_broken ms m around (I.Initial i) at) (items_broken ms m around is (at + item_size (I.Initial i))) none),
  own-fit ws sc ms m around is (at + item_size (I.Initial i)) stand (right-none (item_broken ms m around (I.Initial i) at) (items_broken ms m around is (at + item_size (I.Initial i))) none),
)
own-fit ws sc ms m around (I.Process p ∷ is) at stand none =
    own-fit ws sc ms m around is (at + item_size (I.Process p)) stand (right-none (item_broken ms m around (I.Process p) at) (items_broken ms m around is (at + item_size (I.Process p))) none)
own-fit ws sc ms m around (I.Function f ∷ is) at stand none =
    own-fit ws sc ms m around is (at + item_size (I.Function f)) stand (right-none (item_broken ms m around (I.Function f) at) (items_broken ms m around is (at + item_size (I.Function f))) none)
own-fit ws sc ms m around (I.Instance i ∷ is) at stand none =
    own-fit ws sc ms m around is (at + item_size (I.Instance i)) stand (right-none (item_broken ms m around (I.Instance i) at) (items_broken ms m around is (at + item_size (I.Instance i))) none)

abbrev pub InitialsStand : List VItem → Type 0
InitialsStand is = (all : List Signal) (n : ℕ) (rest : List Signal) → drop n all ≡ signals is ++ rest → InitialsFit (map size all) (initials (scope_of n is) is)

initials-stand : (ms : List VModule) (m : VModule) (at : ℕ) → module_broken ms m at ≡ [] → InitialsStand m.items
initials-stand ms m at none all n rest is =
    own-fit (map size all) (scope_of n m.items) ms m (around_of m at) m.items (at + (3 + ports_size m.ports)) (λ name. items-stand all m.items (at + (3 + ports_size m.ports)) n rest name is) (of-module ms m at none)

both-fit : (ws : List ℕ) (xs ys : List InitialValue) → InitialsFit ws xs → InitialsFit ws ys → InitialsFit ws (xs ++ ys)
both-fit ws [] ys h g = g
both-fit ws (x ∷ xs) ys h g = (h.0, both-fit ws xs ys h.1 g)

-- those of the children
children-fit : (f : ℕ → Name → Parts) (count : Name → ℕ) (all : List Signal) → ((n : ℕ) (name : Name) → length (f n name).signals ≡ count name)
    → ((n : ℕ) (name : Name) (rest : List Signal) → drop n all ≡ (f n name).signals ++ rest → InitialsFit (map size all) (f n name).initials) → (n : ℕ) (is : List VItem) (rest : List Signal)
    → drop n all ≡ (joined_parts (map (λ (c : Child). f c.first c.of) (children count n is))).signals ++ rest → InitialsFit (map size all) (joined_parts (map (λ (c : Child). f c.first c.of) (children count n is))).initials
children-fit f count all long fits n [] rest is = tt
children-fit f count all long fits n (I.Signal s ∷ xs) rest is = children-fit f count all long fits n xs rest is
children-fit f count all long fits n (I.Initial i ∷ xs) rest is = children-fit f count all long fits n xs rest is
children-fit f count all long fits n (I.Process p ∷ xs) rest is = children-fit f count all long fits n xs rest is
children-fit f count all long fits n (I.Function x ∷ xs) rest is = children-fit f count all long fits n xs rest is
children-fit f count all long fits n (I.Instance i ∷ xs) rest is =
    let p = f n i.of in
    let q = joined_parts (map (λ (c : Child). f c.first c.of) (children count (n + count i.of) xs)) in
    let here : drop n all ≡ p.signals ++ (q.signals ++ rest) = is ∙ append_assoc p.signals q.signals rest in
    let next = ap (λ k. drop (n + k) all) (sym (long n i.of)) ∙ drop-behind all n p.signals (q.signals ++ rest) here in
    both-fit (map size all) p.initials q.initials (fits n i.of (q.signals ++ rest) here) (children-fit f count all long fits (n + count i.of) xs rest next)

parts-fit : (e : VDesign) (keeps : Keeps e) (depth : ℕ) (all : List Signal) (n : ℕ) (name : Name) (rest : List Signal) → drop n all ≡ (parts_from depth e.modules n name).signals ++ rest
    → InitialsFit (map size all) (parts_from depth e.modules n name).initials
unfolding parts_from
parts-fit e keeps zero all n name rest is = tt
parts-fit e keeps (suc depth) all n name rest is =
    let ms = e.modules in
    let items = items_of ms name in
    let own = signals items in
    let count = signal_count depth ms in
    let q = joined_parts (map (λ (c : Child). parts_from depth ms c.first c.of) (children count (n + length own) items)) in
    let here : drop n all ≡ own ++ (q.signals ++ rest) = is ∙ append_assoc own q.signals rest in
    both-fit (map size all) (initials (scope_of n items) items) q.initials
    (of-design InitialsStand (λ all n rest is. tt) e name (λ m at none. initials-stand ms m at none) keeps all n (q.signals ++ rest) here)
    (children-fit (parts_from depth ms) count all (λ m x. ap (λ (ss : List Signal). length ss) (signals-are depth ms m x) ∙ count-is depth ms x) (λ m x r. parts-fit e keeps depth all m x r) (n + length own) items rest
    (drop-behind all n own (q.signals ++ rest) here))

append-none : (xs : List Signal) → xs ≡ xs ++ []
append-none [] = refl
append-none (x ∷ xs) = ap (λ ys. x ∷ ys) (append-none xs)

pub initials-of-rules : InitialsOfRules
initials-of-rules e top keeps = parts-fit e keeps (length e.modules) (parts e.modules top).signals 0 top [] (append-none (parts e.modules top).signals)

pub ruleset ruled = (rooms-of-rules, initials-of-rules)
