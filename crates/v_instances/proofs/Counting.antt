-- Signals of instances, and how many they are.
use Rattle.std.proofs.Common.{◌≡◌, ℕ, zero, suc, ◌+◌, ◌≤◌, Bool, true, false, cond, List, [], ◌∷◌, ◌++◌, length, map, take, drop, ◌<◌, slice_index_or, Option, Some, slice_get, refl, sym, ap, ◌∙◌, arith}
use Rattle.std.specs.Str.{bytes_eq}
use Rattle.std.specs.Prelude.{get_or, if◌then◌else◌, Result, Ok, Err, OnOk}
use Rattle.b4_core.specs.declared.bit.Bit4.{Bit4}
use Rattle.std.proofs.lemmas.List.{length-append, length-map}
use Rattle.std.proofs.Math.Seq.{drop-cons}
use Rattle.v_tree.specs.Names.{Name}
use Rattle.v_tree.specs.declared.items.VItem.{VItem}
use Rattle.v_tree.specs.declared.items.VItem.TheVariants as I
use Rattle.v_tree.specs.declared.items.VModule.{VModule}
use Rattle.v_rules.specs.Tables.{Numbers, numbers_from, no_numbers}
use Rattle.v_meaning.specs.Modules.{numbers, Signal, Process, InitialValue, Parts, Child, signals, items_of, below, children, signal_count, joined_parts, own_parts, parts_from}
use Rattle.v_instances.specs.Slots.{signal_of}
use Rattle.v_instances.specs.declared.slots.Slot.{Slot}
use Rattle.v_instances.specs.declared.walk.VInst.{VInst}
use Rattle.v_instances.specs.declared.walk.Walk.{Walk}
use Rattle.v_instances.specs.Instances.{Instance, child_instances, instances_from, own_of, PartsOfInstances}
use Rattle.v_instances.specs.Walks.{child_signals, signals_from, items_in, items_at, inst_of, Meets}

pub signals_cons : (i : VItem) (is : List VItem) → signals (i ∷ is) ≡ signals (i ∷ []) ++ signals is
signals_cons (I.Signal s) is = refl
signals_cons (I.Initial i) is = refl
signals_cons (I.Process p) is = refl
signals_cons (I.Function f) is = refl
signals_cons (I.Instance i) is = refl

-- the signals of parts
child-signals : (f : ℕ → Name → Parts) (g : Name → List Signal) (h : (n : ℕ) (name : Name) → (f n name).signals ≡ g name) (count : Name → ℕ) (n : ℕ) (is : List VItem)
    → (joined_parts (map (λ (c : Child). f c.first c.of) (children count n is))).signals ≡ child_signals g is
child-signals f g h count n [] = refl
child-signals f g h count n (I.Signal s ∷ is) = child-signals f g h count n is
child-signals f g h count n (I.Initial i ∷ is) = child-signals f g h count n is
child-signals f g h count n (I.Process p ∷ is) = child-signals f g h count n is
child-signals f g h count n (I.Function x ∷ is) = child-signals f g h count n is
child-signals f g h count n (I.Instance i ∷ is) =
    ap (λ ss. ss ++ (joined_parts (map (λ (c : Child). f c.first c.of) (children count (n + count i.of) is))).signals) (h n i.of)
    ∙ ap (λ ss. g i.of ++ ss) (child-signals f g h count (n + count i.of) is)

pub signals-are : (depth : ℕ) (ms : List VModule) (n : ℕ) (name : Name) → (parts_from depth ms n name).signals ≡ signals_from depth ms name
unfolding parts_from signals_from
signals-are zero ms n name = refl
signals-are (suc depth) ms n name =
    ap (λ ss. signals (items_of ms name) ++ ss)
    (child-signals (parts_from depth ms) (signals_from depth ms) (signals-are depth ms) (signal_count depth ms) (n + length (signals (items_of ms name))) (items_of ms name))

-- how many they are
child-count : (g : Name → List Signal) (count : Name → ℕ) (h : (name : Name) → length (g name) ≡ count name) (is : List VItem) → length (child_signals g is) ≡ below count is
child-count g count h [] = refl
child-count g count h (I.Signal s ∷ is) = child-count g count h is
child-count g count h (I.Initial i ∷ is) = child-count g count h is
child-count g count h (I.Process p ∷ is) = child-count g count h is
child-count g count h (I.Function x ∷ is) = child-count g count h is
child-count g count h (I.Instance i ∷ is) =
    length-append (g i.of) (child_signals g is) ∙ (ap (λ n. n + length (child_signals g is)) (h i.of) ∙ ap (λ n. count i.of + n) (child-count g count h is))

pub count-is : (depth : ℕ) (ms : List VModule) (name : Name) → length (signals_from depth ms name) ≡ signal_count depth ms name
unfolding signals_from signal_count
count-is zero ms name = refl
count-is (suc depth) ms name =
    length-append (signals (items_of ms name)) (child_signals (signals_from depth ms) (items_of ms name))
    ∙ ap (λ n. length (signals (items_of ms name)) + n) (child-count (signals_from depth ms) (signal_count depth ms) (count-is depth ms) (items_of ms name))

-- parts one behind the other
pub append-nil : {A : Type 0} (xs : List A) → xs ++ [] ≡ xs
append-nil [] = refl
append-nil (x ∷ xs) = ap (λ l. x ∷ l) (append-nil xs)

append-assoc : {A : Type 0} (xs ys zs : List A) → (xs ++ ys) ++ zs ≡ xs ++ (ys ++ zs)
append-assoc [] ys zs = refl
append-assoc (x ∷ xs) ys zs = ap (λ l. x ∷ l) (append-assoc xs ys zs)

abbrev both : Parts → Parts → Parts
both p q = record { signals = p.signals ++ q.signals; processes = p.processes ++ q.processes; initials = p.initials ++ q.initials }

abbrev made : List Signal → List Process → List InitialValue → Parts
made ss ps is = record { signals = ss; processes = ps; initials = is }

triple : (ss ss' : List Signal) (ps ps' : List Process) (is is' : List InitialValue) → ss ≡ ss' → ps ≡ ps' → is ≡ is' → made ss ps is ≡ made ss' ps' is'
triple ss ss' ps ps' is is' e f g = ap (λ l. made l ps is) e ∙ (ap (λ l. made ss' l is) f ∙ ap (made ss' ps') g)

joined-append : (xs ys : List Parts) → joined_parts (xs ++ ys) ≡ both (joined_parts xs) (joined_parts ys)
joined-append [] ys = refl
joined-append (x ∷ xs) ys =
    ap (both x) (joined-append xs ys)
    ∙ triple _ _ _ _ _ _ (sym (append-assoc x.signals (joined_parts xs).signals (joined_parts ys).signals))
    (sym (append-assoc x.processes (joined_parts xs).processes (joined_parts ys).processes))
    (sym (append-assoc x.initials (joined_parts xs).initials (joined_parts ys).initials))

map-append : {A B : Type 0} (f : A → B) (xs ys : List A) → map f (xs ++ ys) ≡ map f xs ++ map f ys
map-append f [] ys = refl
map-append f (x ∷ xs) ys = ap (λ l. f x ∷ l) (map-append f xs ys)

child-parts : (f : ℕ → Name → Parts) (own : Instance → Parts) (g : ℕ → Name → List Instance) (h : (n : ℕ) (name : Name) → f n name ≡ joined_parts (map own (g n name)))
    (count : Name → ℕ) (n : ℕ) (is : List VItem)
    → joined_parts (map (λ (c : Child). f c.first c.of) (children count n is)) ≡ joined_parts (map own (child_instances g count n is))
child-parts f own g h count n [] = refl
child-parts f own g h count n (I.Signal s ∷ is) = child-parts f own g h count n is
child-parts f own g h count n (I.Initial i ∷ is) = child-parts f own g h count n is
child-parts f own g h count n (I.Process p ∷ is) = child-parts f own g h count n is
child-parts f own g h count n (I.Function x ∷ is) = child-parts f own g h count n is
child-parts f own g h count n (I.Instance i ∷ is) =
    let rest = child_instances g count (n + count i.of) is in
    ap (λ p. both p (joined_parts (map (λ (c : Child). f c.first c.of) (children count (n + count i.of) is)))) (h n i.of)
    ∙ (ap (both (joined_parts (map own (g n i.of)))) (child-parts f own g h count (n + count i.of) is)
    ∙ (sym (joined-append (map own (g n i.of)) (map own rest))
    ∙ ap joined_parts (sym (map-append own (g n i.of) rest))))

pub parts-are : PartsOfInstances
unfolding parts_from instances_from
parts-are zero ms n name = refl
parts-are (suc depth) ms n name =
    ap (both (own_parts ms (signal_count depth ms) n (items_of ms name)))
    (child-parts (parts_from depth ms) (own_of ms) (instances_from depth ms) (parts-are depth ms) (signal_count depth ms) (n + length (signals (items_of ms name))) (items_of ms name))

-- the last number of a concatenation is the least significant
pub numbers_take : (vs : List (List Bit4)) (k : ℕ) (d v : List Bit4) → k < length vs → v ≡ slice_index_or vs k d → numbers (take (suc k) vs) ≡ v ++ numbers (take k vs)
numbers_take [] k d v h e = absurd (omega (arith, h))
numbers_take (u ∷ vs) zero d v h e = sym e ∙ sym (append-nil v)
numbers_take (u ∷ vs) (suc k) d v h e =
    ap (λ l. l ++ u) (numbers_take vs k d v (omega (arith, h)) e) ∙ append-assoc v (numbers (take k vs)) u

pub take_whole : {A : Type 0} (xs : List A) → take (length xs) xs ≡ xs
take_whole [] = refl
take_whole (x ∷ xs) = ap (λ l. x ∷ l) (take_whole xs)

-- the modules by their numbers
drop-next : {A : Type 0} (k : ℕ) (xs : List A) (y : A) (ys : List A) → drop k xs ≡ y ∷ ys → (slice_get xs k ≡ Some y) × (drop (suc k) xs ≡ ys)
drop-next zero [] y ys e = cc
drop-next zero (x ∷ xs) y ys e = (cc, cc)
drop-next (suc k) [] y ys e = cc
drop-next (suc k) (x ∷ xs) y ys e = drop-next k xs y ys e

item-by : (all : List VModule) (k : ℕ) (m : VModule) (name : Name) (b : Bool) (o : Option ℕ) (is : List VItem) → slice_get all k ≡ Some m → items_at all o ≡ is
    → items_at all (if b then Some k else o) ≡ cond b m.items is
item-by all k m name true o is e h = ap items_in e
item-by all k m name false o is e h = h

items-from : (all : List VModule) (k : ℕ) (ms : List VModule) (name : Name) → drop k all ≡ ms → items_at all (numbers_from k ms no_numbers name) ≡ items_of ms name
items-from all k [] name e = refl
items-from all k (m ∷ ms) name e =
    let h = drop-next k all m ms e in
    item-by all k m name (bytes_eq m.name name) (numbers_from (suc k) ms no_numbers name) (items_of ms name) h.0 (items-from all (suc k) ms name h.1)

pub items-numbered : (ms : List VModule) (name : Name) → items_at ms (numbers_from 0 ms no_numbers name) ≡ items_of ms name
items-numbered ms name = items-from ms 0 ms name refl

pub numbers_left : (vs : List (List Bit4)) (k j : ℕ) (d v bits : List Bit4) → k ≡ suc j → k ≤ length vs → v ≡ slice_index_or vs j d → bits ++ numbers (take k vs) ≡ (bits ++ v) ++ numbers (take j vs)
numbers_left vs k j d v bits h low e =
    ap (λ n. bits ++ numbers (take n vs)) h
    ∙ (ap (λ l. bits ++ l) (numbers_take vs j d v (omega (arith, h, low)) e) ∙ sym (append-assoc bits v (numbers (take j vs))))

-- a step of the walk
pub signals-level : (depth d : ℕ) (ms : List VModule) (name : Name) → depth ≡ suc d
    → signals_from depth ms name ≡ signals (items_of ms name) ++ child_signals (signals_from d ms) (items_of ms name)
unfolding signals_from
signals-level depth d ms name h = ap (λ k. signals_from k ms name) h

pub signals-none : (depth : ℕ) (ms : List VModule) (name : Name) → depth ≡ 0 → signals_from depth ms name ≡ []
unfolding signals_from
signals-none depth ms name h = ap (λ k. signals_from k ms name) h

pub instances-level : (depth d : ℕ) (ms : List VModule) (n : ℕ) (name : Name) → depth ≡ suc d
    → instances_from depth ms n name
    ≡ record { of = name; first = n; depth = d }
    ∷ child_instances (instances_from d ms) (signal_count d ms) (n + length (signals (items_of ms name))) (items_of ms name)
unfolding instances_from
instances-level depth d ms n name h = ap (λ k. instances_from k ms n name) h

pub instances-none : (depth : ℕ) (ms : List VModule) (n : ℕ) (name : Name) → depth ≡ 0 → instances_from depth ms n name ≡ []
unfolding instances_from
instances-none depth ms n name h = ap (λ k. instances_from k ms n name) h

-- what is met by a walk into an instance, behind what was met before it
pub enter-signals : (depth d : ℕ) (ms : List VModule) (name : Name) (is : List VItem) (ss own all : List Signal) → depth ≡ suc d → is ≡ items_of ms name
    → own ≡ ss ++ signals is → all ≡ own ++ child_signals (signals_from d ms) is → all ≡ ss ++ signals_from depth ms name
enter-signals depth d ms name is ss own all h e o a =
    a ∙ (ap (λ l. l ++ child_signals (signals_from d ms) is) o
    ∙ (append-assoc ss (signals is) (child_signals (signals_from d ms) is)
    ∙ ap (λ l. ss ++ l) (ap (λ l. signals l ++ child_signals (signals_from d ms) l) e ∙ sym (signals-level depth d ms name h))))

pub enter-instances : (depth d : ℕ) (ms : List VModule) (n m : ℕ) (name : Name) (is : List VItem) (ns : Numbers) (before own all : List VInst) → depth ≡ suc d → is ≡ items_of ms name
    → m ≡ n + length (signals is) → own ≡ before ++ (record { of = ns name; first = n } ∷ [])
    → all ≡ own ++ map (inst_of ns) (child_instances (instances_from d ms) (signal_count d ms) m is)
    → all ≡ before ++ map (inst_of ns) (instances_from depth ms n name)
enter-instances depth d ms n m name is ns before own all h e k o a =
    let rest = map (inst_of ns) (child_instances (instances_from d ms) (signal_count d ms) m is) in
    a ∙ (ap (λ l. l ++ rest) o
    ∙ (append-assoc before (record { of = ns name; first = n } ∷ []) rest
    ∙ ap (λ l. before ++ l)
    (ap (λ j. record { of = ns name; first = n } ∷ map (inst_of ns) (child_instances (instances_from d ms) (signal_count d ms) j is)) k
    ∙ (ap (λ l. record { of = ns name; first = n } ∷ map (inst_of ns) (child_instances (instances_from d ms) (signal_count d ms) (n + length (signals l)) l)) e
    ∙ ap (λ l. map (inst_of ns) l) (sym (instances-level depth d ms n name h))))))

-- how many signals there are behind a walk
pub slots-longer : (depth : ℕ) (ms : List VModule) (name : Name) (old new : List Slot) → map signal_of new ≡ map signal_of old ++ signals_from depth ms name
    → length new ≡ length old + signal_count depth ms name
slots-longer depth ms name old new e =
    sym (length-map new signal_of) ∙ (ap length e
    ∙ (length-append (map signal_of old) (signals_from depth ms name)
    ∙ (ap (λ n. n + length (signals_from depth ms name)) (length-map old signal_of) ∙ ap (λ n. length old + n) (count-is depth ms name))))

pub slots-own : (old new : List Slot) (ss : List Signal) → map signal_of new ≡ map signal_of old ++ ss → length new ≡ length old + length ss
slots-own old new ss e =
    sym (length-map new signal_of) ∙ (ap length e ∙ (length-append (map signal_of old) ss ∙ ap (λ n. n + length ss) (length-map old signal_of)))

-- a child more
signals-one : (f : Name → List Signal) (i : VItem) (is : List VItem) → child_signals f (i ∷ is) ≡ child_signals f (i ∷ []) ++ child_signals f is
signals-one f (I.Signal s) is = refl
signals-one f (I.Initial x) is = refl
signals-one f (I.Process p) is = refl
signals-one f (I.Function x) is = refl
signals-one f (I.Instance x) is = ap (λ l. l ++ child_signals f is) (sym (append-nil (f x.of)))

instances-one : (g : ℕ → Name → List Instance) (count : Name → ℕ) (n : ℕ) (i : VItem) (is : List VItem)
    → child_instances g count n (i ∷ is) ≡ child_instances g count n (i ∷ []) ++ child_instances g count (n + below count (i ∷ [])) is
instances-one g count n (I.Signal s) is = ap (λ k. child_instances g count k is) (omega arith)
instances-one g count n (I.Initial x) is = ap (λ k. child_instances g count k is) (omega arith)
instances-one g count n (I.Process p) is = ap (λ k. child_instances g count k is) (omega arith)
instances-one g count n (I.Function x) is = ap (λ k. child_instances g count k is) (omega arith)
instances-one g count n (I.Instance x) is =
    ap (λ l. l ++ child_instances g count (n + count x.of) is) (sym (append-nil (g n x.of)))
    ∙ ap (λ k. (g n x.of ++ []) ++ child_instances g count k is) (omega arith)

-- a turn of the walk over the children
pub turn-signals : (f : Name → List Signal) (i : VItem) (is : List VItem) (old new all : List Signal) → new ≡ old ++ child_signals f (i ∷ []) → old ++ child_signals f (i ∷ is) ≡ all
    → new ++ child_signals f is ≡ all
turn-signals f i is old new all e h =
    ap (λ l. l ++ child_signals f is) e
    ∙ (append-assoc old (child_signals f (i ∷ [])) (child_signals f is) ∙ (ap (λ l. old ++ l) (sym (signals-one f i is)) ∙ h))

child-longer : (depth : ℕ) (ms : List VModule) (i : VItem) (old new : List Slot) → map signal_of new ≡ map signal_of old ++ child_signals (signals_from depth ms) (i ∷ [])
    → length new ≡ length old + below (signal_count depth ms) (i ∷ [])
child-longer depth ms i old new e =
    slots-own old new (child_signals (signals_from depth ms) (i ∷ [])) e
    ∙ ap (λ n. length old + n) (child-count (signals_from depth ms) (signal_count depth ms) (count-is depth ms) (i ∷ []))

pub turn-instances : (depth : ℕ) (ms : List VModule) (ns : Numbers) (i : VItem) (is : List VItem) (slots slots' : List Slot) (old new all : List VInst)
    → map signal_of slots' ≡ map signal_of slots ++ child_signals (signals_from depth ms) (i ∷ [])
    → new ≡ old ++ map (inst_of ns) (child_instances (instances_from depth ms) (signal_count depth ms) (length slots) (i ∷ []))
    → old ++ map (inst_of ns) (child_instances (instances_from depth ms) (signal_count depth ms) (length slots) (i ∷ is)) ≡ all
    → new ++ map (inst_of ns) (child_instances (instances_from depth ms) (signal_count depth ms) (length slots') is) ≡ all
turn-instances depth ms ns i is slots slots' old new all s e h =
    let g = instances_from depth ms in
    let count = signal_count depth ms in
    let one = child_instances g count (length slots) (i ∷ []) in
    let more = child_instances g count (length slots + below count (i ∷ [])) is in
    ap (λ n. new ++ map (inst_of ns) (child_instances g count n is)) (child-longer depth ms i slots slots' s)
    ∙ (ap (λ l. l ++ map (inst_of ns) more) e
    ∙ (append-assoc old (map (inst_of ns) one) (map (inst_of ns) more)
    ∙ (ap (λ l. old ++ l) (sym (map-append (inst_of ns) one more) ∙ ap (map (inst_of ns)) (sym (instances-one g count (length slots) i is)))
    ∙ h)))

-- what follows where a call succeeds
pub where-ok : {A E : Type 0} (r : Result A E) {P Q : Type 0} → (P → Q) → OnOk r P → OnOk r Q
where-ok (Ok a) f h = f h
where-ok (Err e) f h = tt

abbrev pub inst : Option ℕ → ℕ → VInst
inst o n = record { of = o; first = n }

pub inst-of : (o o' : Option ℕ) (n n' : ℕ) → o ≡ o' → n ≡ n' → inst o n ≡ inst o' n'
inst-of o o' n n' e f = ap (λ x. inst x n) e ∙ ap (inst o') f

-- a walk from nothing into the top meets the design
pub met : (ks ms : List VModule) (top : Name) (w : Walk) (ns : Numbers) (ss : List Slot) (is : List VInst) → ks ≡ ms → ss ≡ [] → is ≡ [] → ns ≡ numbers_from 0 ks no_numbers
    → map signal_of w.slots ≡ map signal_of ss ++ signals_from (length ks) ks top
    → w.insts ≡ is ++ map (inst_of ns) (instances_from (length ks) ks (length ss) top)
    → Meets ms top w
met ks ms top w ns ss is e s i n h g = record {
  signals = h ∙ (ap (λ l. map signal_of l ++ signals_from (length ks) ks top) s ∙ (ap (λ l. signals_from (length l) l top) e ∙ sym (signals-are (length ms) ms 0 top)));
  instances = g
      ∙ (ap (λ l. l ++ map (inst_of ns) (instances_from (length ks) ks (length ss) top)) i
      ∙ (ap (λ l. map (inst_of ns) (instances_from (length ks) ks (length l) top)) s
      ∙ (ap (λ l. map (inst_of ns) (instances_from (length l) l 0 top)) e
      ∙ ap (λ (m : Numbers). map (inst_of m) (instances_from (length ms) ms 0 top)) (n ∙ ap (λ l. numbers_from 0 l no_numbers) e))));
  items = items-numbered ms;
}

suc-is-add : (i : ℕ) → suc i ≡ i + 1
suc-is-add i = omega arith

-- the rest of a list begins with the next item
pub drop-here : (xs : List VItem) (i : ℕ) (x : VItem) → i < length xs → x ≡ get_or xs i x → drop i xs ≡ x ∷ drop (i + 1) xs
drop-here xs i x h e = drop-cons xs i x h ∙ (ap (λ y. y ∷ drop (suc i) xs) (sym e) ∙ ap (λ k. x ∷ drop k xs) (suc-is-add i))
