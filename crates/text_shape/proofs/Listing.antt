-- The table of signals has the signals by their names.
use Rattle.std.proofs.Common.{◌≡◌, ℕ, suc, Bool, true, false, List, [], ◌∷◌, ◌++◌, map, filter, replicate, not, Option, Some, None, cond, refl, sym, ap, ◌∙◌, subst, if◌then◌else◌}
use Rattle.std.specs.Str.{bytes_eq}
use Rattle.std.proofs.lemmas.Slice.Eq.{bytes_eq-Decides}
use Rattle.b4_core.specs.declared.bit.Bit4.TheVariants.{Zero}
use Rattle.stim_rows.specs.declared.shape.Port.{Port}
use Rattle.v_tree.specs.Names.{Name}
use Rattle.v_tree.specs.Scopes.{bits_of}
use Rattle.v_tree.specs.declared.items.VItem.{VItem}
use Rattle.v_tree.specs.declared.items.VItem.TheVariants as I
use Rattle.v_tree.specs.declared.items.VRegRest.TheVariants as R
use Rattle.v_tree.specs.declared.items.VSignal.{VSignal}
use Rattle.v_tree.specs.declared.items.VSignal.TheVariants.{Input, Output, OutputReg, Wire, Reg}
use Rattle.v_meaning.specs.Scopes.{Named, bits_of_range, named}
use Rattle.v_meaning.specs.Modules as M
use Rattle.v_meaning.specs.Modules.{Kind, input_net, net, variable, Signal, signals, numbered, kind_of}
use Rattle.text_shape.specs.declared.signals.Entry.{Entry}
use Rattle.text_shape.specs.Signals.{Entries, no_entries, added_to, added, entry_of, signal_added, adding, items_added}
use Rattle.text_shape.specs.Shapes.{is_input, port_named, inputs, outputs, port_of, declared, same, ports_from}

-- a signal as an entry
abbrev entry_is : ℕ → Signal → Entry
entry_is number s = record { number = number; width = s.width; is_input = is_input s.kind }

-- the first of these signals with a name, numbered from one on
abbrev first_from : ℕ → List Signal → Name → Option Entry
first_from number [] name = None
first_from number (s ∷ ss) name = if bytes_eq s.name name then Some (entry_is number s) else first_from (suc number) ss name

abbrev or_else : Option Entry → Option Entry → Option Entry
or_else None o = o
or_else (Some e) o = Some e

range-bits : (range : Option ℕ) → bits_of range ≡ bits_of_range range
range-bits None = refl
range-bits (Some left) = refl

names-equal : (a b : Name) → bytes_eq a b ≡ true → a ≡ b
names-equal a b e = (bytes_eq-Decides a b).0 e

-- one signal more, if there is none with its name before
one-added : (n : Name) (e : Entry) (es : Entries) (a : Name) (rest old : Option Entry) (b : Bool) → es n ≡ old → bytes_eq n a ≡ b
    → or_else (added_to old n e es a) rest ≡ or_else (es a) (if b then Some e else rest)
one-added n e es a rest (Some o) true was is =
    let found : es a ≡ Some o = ap es (sym (names-equal n a is)) ∙ was in
    ap (λ (x : Option Entry). or_else x rest) found ∙ sym (ap (λ (x : Option Entry). or_else x (Some e)) found)
one-added n e es a rest (Some o) false was is = refl
one-added n e es a rest None true was is =
    let missing : es a ≡ None = ap es (sym (names-equal n a is)) ∙ was in
    ap (λ c. or_else (if c then Some e else es a) rest) is ∙ sym (ap (λ (x : Option Entry). or_else x (Some e)) missing)
one-added n e es a rest None false was is = ap (λ c. or_else (if c then Some e else es a) rest) is

entry-added : (name : Name) (range : Option ℕ) (input : Bool) (n : ℕ) (es : Entries) (a : Name) (rest : Option Entry)
    → or_else (added name (entry_of range input n) es a) rest
    ≡ or_else (es a) (if bytes_eq name a then Some (record { number = n; width = bits_of_range range; is_input = input }) else rest)
entry-added name range input n es a rest =
    one-added name (entry_of range input n) es a rest (es name) (bytes_eq name a) refl refl
    ∙ (λ i. or_else (es a) (if bytes_eq name a then Some (record { number = n; width = range-bits range i; is_input = input }) else rest))

signal-step : (s : VSignal) (n : ℕ) (es : Entries) (a : Name) (rest : Option Entry)
    → or_else (signal_added s n es a) rest ≡ or_else (es a) (if bytes_eq (M.signal s).name a then Some (entry_is n (M.signal s)) else rest)
signal-step (Input range name) n es a rest = entry-added name range true n es a rest
signal-step (Output range name) n es a rest = entry-added name range false n es a rest
signal-step (OutputReg range name None) n es a rest = entry-added name range false n es a rest
signal-step (OutputReg range name (Some init)) n es a rest = entry-added name range false n es a rest
signal-step (Wire range name) n es a rest = entry-added name range false n es a rest
signal-step (Reg range name None) n es a rest = entry-added name range false n es a rest
signal-step (Reg range name (Some (R.Memory left))) n es a rest = entry-added name range false n es a rest
signal-step (Reg range name (Some (R.Initial init))) n es a rest = entry-added name range false n es a rest

or-none : (o : Option Entry) → o ≡ or_else o None
or-none None = refl
or-none (Some e) = refl

items-listed : (is : List VItem) (n : ℕ) (es : Entries) (a : Name) → (items_added is (adding n es)).entries a ≡ or_else (es a) (first_from n (signals is) a)
items-listed [] n es a = or-none (es a)
items-listed (I.Signal s ∷ is) n es a = items-listed is (suc n) (signal_added s n es) a ∙ signal-step s n es a (first_from (suc n) (signals is) a)
items-listed (I.Initial i ∷ is) n es a = items-listed is n es a
items-listed (I.Process p ∷ is) n es a = items-listed is n es a
items-listed (I.Function f ∷ is) n es a = items-listed is n es a
items-listed (I.Instance i ∷ is) n es a = items-listed is n es a

-- what the first one with a name is
record Agrees (e : Entry) (n : Named) (k : Kind) : Type 0 where
  number : e.number ≡ n.number
  width : e.width ≡ n.width
  input : e.is_input ≡ is_input k

by-name : (b : Bool) (s : Signal) (n : ℕ) (rest : Option Entry) (named_rest : Named) (kind_rest : Kind) → Agrees (declared rest) named_rest kind_rest
    → Agrees (declared (if b then Some (entry_is n s) else rest)) (cond b (record { name = s.name; number = n; width = s.width; words = s.words }) named_rest) (cond b s.kind kind_rest)
by-name true s n rest named_rest kind_rest h = record { number = refl; width = refl; input = refl }
by-name false s n rest named_rest kind_rest h = h

agrees : (ss : List Signal) (n : ℕ) (a : Name) → Agrees (declared (first_from n ss a)) (named (numbered n ss) a) (kind_of ss a)
agrees [] n a = record { number = refl; width = refl; input = refl }
agrees (s ∷ ss) n a = by-name (bytes_eq s.name a) s n (first_from (suc n) ss a) (named (numbered (suc n) ss) a) (kind_of ss a) (agrees ss (suc n) a)

-- the ports that pass a test
pick : (c : Bool) (p : Port) (f : Name → Port) (n : Name) (ns : List Name) → p ≡ f n → (if c then p ∷ [] else []) ++ map f ns ≡ map f (cond c (n ∷ ns) ns)
pick true p f n ns e = λ i. e i ∷ map f ns
pick false p f n ns e = refl

ports-where : (es : Entries) (b : Bool) (q : Name → Bool) (f : Name → Port) → ((n : Name) → same (declared (es n)).is_input b ≡ q n) → ((n : Name) → port_of n (declared (es n)) ≡ f n)
    → (ns : List Name) → ports_from es b ns ≡ map f (filter q ns)
ports-where es b q f h g [] = refl
ports-where es b q f h g (n ∷ ns) =
    (λ i. (if h n i then port_of n (declared (es n)) ∷ [] else []) ++ ports-where es b q f h g ns i)
    ∙ pick (q n) (port_of n (declared (es n))) f n (filter q ns) (g n)

same-true : (b : Bool) → same b true ≡ b
same-true true = refl
same-true false = refl

same-false : (b : Bool) → same b false ≡ not b
same-false true = refl
same-false false = refl

module _ (items : List VItem) where
  abbrev es : Entries
  es = (items_added items (adding 0 no_entries)).entries

  entry-agrees : (n : Name) → Agrees (declared (es n)) (named (numbered 0 (signals items)) n) (kind_of (signals items) n)
  entry-agrees n =
      let P : Option Entry → Type 0 = λ o. Agrees (declared o) (named (numbered 0 (signals items)) n) (kind_of (signals items) n) in
      subst P (sym (items-listed items 0 no_entries n)) (agrees (signals items) 0 n)

  port-is : (n : Name) → port_of n (declared (es n)) ≡ port_named (signals items) n
  port-is n =
      let h = entry-agrees n in
      λ i. record { name = n; width = h.width i; two_state = replicate (h.width i) Zero; signal = h.number i }

  pub inputs-are : (names : List Name) → ports_from es true names ≡ inputs items names
  inputs-are names = ports-where es true (λ n. is_input (kind_of (signals items) n)) (port_named (signals items)) (λ n. same-true (declared (es n)).is_input ∙ (entry-agrees n).input) port-is names

  pub outputs-are : (names : List Name) → ports_from es false names ≡ outputs items names
  outputs-are names =
      ports-where es false (λ n. not (is_input (kind_of (signals items) n))) (port_named (signals items))
      (λ n. same-false (declared (es n)).is_input ∙ ap not (entry-agrees n).input) port-is names
