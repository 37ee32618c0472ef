-- What names stand for in a module, its ports, and the modules of a design, as the rules have them.
use Rattle.std.proofs.Common.{◌≡◌, ℕ, zero, suc, ◌+◌, Bool, true, false, not, ◌||◌, List, [], ◌∷◌, ◌++◌, map, slice_get, Option, Some, None, refl, sym, ap, ◌∙◌, subst, is_some, if◌then◌else◌, append_assoc, arith}
use Rattle.std.specs.Str.{bytes_eq}
use Rattle.std.proofs.lemmas.List.{append-nil}
use Rattle.v_tree.specs.Names.{Name, among}
use Rattle.v_tree.specs.Scopes.{Thing, value, memory, function, part, Declared, Scope, inside, nowhere, is_declared, bits_of, has_range}
use Rattle.v_tree.specs.Scopes as X
use Rattle.v_tree.specs.StmtRules.{rules_of_branch}
use Rattle.v_tree.specs.Rules.{Port, item_size, signal_size, event_size, declared_signal, declared_by, declared_in, reg_thing, ports_by, ports_of, port_named, module_named, input_bits, function_token, listed_ports}
use Rattle.v_tree.specs.declared.items.VItem.{VItem}
use Rattle.v_tree.specs.declared.items.VItem.TheVariants as I
use Rattle.v_tree.specs.declared.items.VModule.{VModule}
use Rattle.v_tree.specs.declared.items.VProcess.TheVariants.{Assign, Always}
use Rattle.v_tree.specs.declared.items.VRegRest.{VRegRest}
use Rattle.v_tree.specs.declared.items.VRegRest.TheVariants as R
use Rattle.v_tree.specs.declared.items.VSignal.{VSignal}
use Rattle.v_tree.specs.declared.items.VSignal.TheVariants.{Input, Output, OutputReg, Wire, Reg}
use Rattle.v_scopes.specs.Env.{Env, given}
use Rattle.v_scopes.specs.declared.entry.Entry.{Entry}
use Rattle.v_scopes.specs.declared.entry.Entry.TheVariants as N
use Rattle.v_scopes.specs.declared.entry.Kind.TheVariants as K
use Rattle.v_block_names.specs.Blocks.{parts_given}
use Rattle.v_expr_rules.specs.Walks.{inputs_in}
use Rattle.v_expr_rules.specs.Things.{thing_in, thing, widths_of}
use Rattle.v_stmt_rules.specs.Stmts.{nothing, branch_told}
use Rattle.v_stmt_rules.proofs.Declared.{afters, things, thing-if, things-parts, inside-append, names_of}
use Rattle.v_stmt_rules.proofs.StmtsExact.{StmtExact}
use Rattle.v_stmt_rules.proofs.CasesExact.{branch-exact}
use Rattle.v_item_rules.proofs.InstancesExact.{PortSame, PortsAre}
use Rattle.v_rules.specs.ModuleNames.{reg_entry, signal_given, process_given, item_given, items_given, port_given, ports_given}
use Rattle.v_rules.specs.Tables.{Numbers, no_numbers, number_given, numbers_from, ports_added, at_number}

-- the items from this one on
abbrev pub Rest : List VItem → ℕ → List VItem → Type 0
Rest items n is = (k : ℕ) → slice_get items (n + k) ≡ slice_get is k

pub rest-first : (items : List VItem) (n : ℕ) (i : VItem) (is : List VItem) → Rest items n (i ∷ is) → slice_get items n ≡ Some i
rest-first items n i is h = ap (slice_get items) (zero_more n) ∙ h 0
  where
    zero_more : (n : ℕ) → n ≡ n + 0
    zero_more n = omega arith

pub rest-behind : (items : List VItem) (n : ℕ) (i : VItem) (is : List VItem) → Rest items n (i ∷ is) → Rest items (suc n) is
rest-behind items n i is h k = ap (slice_get items) (suc_more n k) ∙ h (suc k)
  where
    suc_more : (n k : ℕ) → suc n + k ≡ n + suc k
    suc_more n k = omega arith

-- one name that stands for a thing
one-given : (items : List VItem) (env : Env) (name : Name) (token : ℕ) (e : Entry) (t : Thing) → thing_in items (Some e) ≡ Some t
    → things items (given env name (Some e)) ≡ inside (record { name = name; token = token; thing = t } ∷ []) (things items env)
one-given items env name token e t is = λ i n. thing-if items (bytes_eq name n) e (env n) t (thing_in items (env n)) is refl i

reg-thing : (items : List VItem) (range : Option ℕ) (rest : Option VRegRest) → thing_in items (Some (reg_entry range rest)) ≡ Some (reg_thing range rest)
reg-thing items range None = refl
reg-thing items range (Some (R.Memory left)) = refl
reg-thing items range (Some (R.Initial v)) = refl

signal-things : (items : List VItem) (s : VSignal) (at : ℕ) (env : Env) → things items (signal_given s env) ≡ inside (declared_signal s at ∷ []) (things items env)
signal-things items (Input range name) at env = one-given items env name (declared_signal (Input range name) at).token (N.Value K.Input range) (declared_signal (Input range name) at).thing refl
signal-things items (Output range name) at env = one-given items env name (declared_signal (Output range name) at).token (N.Value K.Net range) (declared_signal (Output range name) at).thing refl
signal-things items (OutputReg range name initial) at env = one-given items env name (declared_signal (OutputReg range name initial) at).token (N.Value K.Variable range) (declared_signal (OutputReg range name initial) at).thing refl
signal-things items (Wire range name) at env = one-given items env name (declared_signal (Wire range name) at).token (N.Value K.Net range) (declared_signal (Wire range name) at).thing refl
signal-things items (Reg range name rest) at env = one-given items env name (declared_signal (Reg range name rest) at).token (reg_entry range rest) (reg_thing range rest) (reg-thing items range rest)

item-things : (items : List VItem) (n : ℕ) (i : VItem) (at : ℕ) (env : Env) → slice_get items n ≡ Some i → things items (item_given n i env) ≡ inside (declared_by i at) (things items env)
item-things items n (I.Signal s) at env e = signal-things items s at env
item-things items n (I.Initial x) at env e = refl
item-things items n (I.Process (Assign target right)) at env e = refl
item-things items n (I.Process (Always on body)) at env e =
    ap (λ (ns : List Name). things items (parts_given ns env)) ((branch-exact body).labels [] (at + (2 + event_size on)))
    ∙ things-parts items ((rules_of_branch body).blocks (at + (2 + event_size on))) env ((branch-exact body).parts (at + (2 + event_size on)))
item-things items n (I.Function f) at env e =
    one-given items env f.name (function_token f at) (N.Function f.range n) (function (bits_of f.range) (input_bits f)) (ap (λ o. Some (function (bits_of f.range) (widths_of (inputs_in o)))) e)
item-things items n (I.Instance x) at env e = one-given items env x.name (suc at) N.Part part refl

items-things : (items is : List VItem) (n at : ℕ) → Rest items n is → things items (items_given n is nothing) ≡ inside (declared_in is at) nowhere
items-things items [] n at h = refl
items-things items (i ∷ is) n at h =
    item-things items n i at (items_given (suc n) is nothing) (rest-first items n i is h)
    ∙ ap (inside (declared_by i at)) (items-things items is (suc n) (at + item_size i) (rest-behind items n i is h))
    ∙ sym (inside-append (declared_by i at) (declared_in is (at + item_size i)) nowhere)

pub module-things : (items : List VItem) (at : ℕ) → things items (items_given 0 items nothing) ≡ inside (declared_in items at) nowhere
module-things items at = items-things items items 0 at (λ k. ap (slice_get items) (none_more k))
  where
    none_more : (k : ℕ) → 0 + k ≡ k
    none_more k = omega arith

-- ports
port-if : (b : Bool) (p : Port) (ps : Option Port) (e : Entry) (o : Option Entry) → PortSame (Some p) (Some e) → PortSame ps o → PortSame (if b then Some p else ps) (if b then Some e else o)
port-if true p ps e o h k = h
port-if false p ps e o h k = k

pub ports-are : (is : List VItem) (at : ℕ) → PortsAre (ports_given is nothing) (ports_of is at)
ports-are [] at n = tt
ports-are (I.Signal (Input range name) ∷ is) at n =
    port-if (bytes_eq name n) _ (port_named (ports_of is (at + signal_size (Input range name))) n) (N.Value K.Input range) (ports_given is nothing n) (refl, refl) (ports-are is (at + signal_size (Input range name)) n)
ports-are (I.Signal (Output range name) ∷ is) at n =
    port-if (bytes_eq name n) _ (port_named (ports_of is (at + signal_size (Output range name))) n) (N.Value K.Net range) (ports_given is nothing n) (refl, refl) (ports-are is (at + signal_size (Output range name)) n)
ports-are (I.Signal (OutputReg range name initial) ∷ is) at n =
    port-if (bytes_eq name n) _ (port_named (ports_of is (at + signal_size (OutputReg range name initial))) n) (N.Value K.Net range) (ports_given is nothing n) (refl, refl)
    (ports-are is (at + signal_size (OutputReg range name initial)) n)
ports-are (I.Signal (Wire range name) ∷ is) at n = ports-are is (at + signal_size (Wire range name)) n
ports-are (I.Signal (Reg range name rest) ∷ is) at n = ports-are is (at + signal_size (Reg range name rest)) n
ports-are (I.Initial x ∷ is) at n = ports-are is (at + item_size (I.Initial x)) n
ports-are (I.Process p ∷ is) at n = ports-are is (at + item_size (I.Process p)) n
ports-are (I.Function f ∷ is) at n = ports-are is (at + item_size (I.Function f)) n
ports-are (I.Instance x ∷ is) at n = ports-are is (at + item_size (I.Instance x)) n

same-some : (p : Option Port) (e : Option Entry) → PortSame p e → is_some e ≡ is_some p
same-some None None h = refl
same-some None (Some e) h = absurd h
same-some (Some p) None h = absurd h
same-some (Some p) (Some e) h = refl

abbrev pub port_names : List Port → List Name
port_names ps = map (λ (p : Port). p.name) ps

some-or : (b : Bool) (p : Port) (o : Option Port) (c : Bool) → is_some o ≡ c → is_some (if b then Some p else o) ≡ (b || c)
some-or true p o c e = refl
some-or false p o c e = e

named-among : (ps : List Port) (n : Name) → is_some (port_named ps n) ≡ among (port_names ps) n
named-among [] n = refl
named-among (p ∷ ps) n = some-or (bytes_eq p.name n) p (port_named ps n) (among (port_names ps) n) (named-among ps n)

pub is-port : (is : List VItem) (at : ℕ) (n : Name) → is_some (ports_given is nothing n) ≡ among (port_names (ports_of is at)) n
is-port is at n = same-some (port_named (ports_of is at) n) (ports_given is nothing n) (ports-are is at n) ∙ named-among (ports_of is at) n

-- the names that are met, and those that are declared
or-swap : (b c d : Bool) → (c || (if b then true else d)) ≡ ((b || c) || d)
or-swap true true d = refl
or-swap true false d = refl
or-swap false c d = refl

declared-afters : (ds before : List Declared) (n : Name) → is_declared (afters ds before) n ≡ (among (names_of ds) n || is_declared before n)
declared-afters [] before n = refl
declared-afters (d ∷ ds) before n = declared-afters ds (d ∷ before) n ∙ or-swap (bytes_eq d.name n) (among (names_of ds) n) (is_declared before n)

or-none : (b : Bool) → (b || false) ≡ b
or-none true = refl
or-none false = refl

listed-names : (ns : List Name) (at : ℕ) → names_of (listed_ports ns at) ≡ ns
listed-names [] at = refl
listed-names (n ∷ ns) at = ap (λ (ms : List Name). n ∷ ms) (listed-names ns (at + 2))

pub declared-list : (ns : List Name) (at : ℕ) (n : Name) → is_declared (afters (listed_ports ns at) []) n ≡ among ns n
declared-list ns at n =
    declared-afters (listed_ports ns at) [] n ∙ or-none (among (names_of (listed_ports ns at)) n) ∙ ap (λ (ms : List Name). among ms n) (listed-names ns at)

-- the modules of a design
abbrev ports_all : List VModule → List Env
ports_all ms = map (λ (m : VModule). ports_given m.items nothing) ms

added-all : (ms : List VModule) (es : List Env) → ports_added ms es ≡ es ++ ports_all ms
added-all [] es = sym (append-nil es)
added-all (m ∷ ms) es = added-all ms (es ++ (ports_given m.items nothing ∷ [])) ∙ append_assoc es (ports_given m.items nothing ∷ []) (ports_all ms)

abbrev pub child_ports : Option VModule → Option Env
child_ports None = None
child_ports (Some m) = Some (ports_given m.items nothing)

number-if : (all : List Env) (b : Bool) (n : ℕ) (m : VModule) (o : Option ℕ) (q : Option VModule) → slice_get all n ≡ Some (ports_given m.items nothing) → at_number all o ≡ child_ports q
    → at_number all (if b then Some n else o) ≡ child_ports (if b then Some m else q)
number-if all true n m o q e h = e
number-if all false n m o q e h = h

numbers-of : (all : List Env) (ms : List VModule) (n : ℕ) (name : Name) → ((k : ℕ) → slice_get all (n + k) ≡ slice_get (ports_all ms) k)
    → at_number all (numbers_from n ms no_numbers name) ≡ child_ports (module_named ms name)
numbers-of all [] n name h = refl
numbers-of all (m ∷ ms) n name h =
    number-if all (bytes_eq m.name name) n m (numbers_from (suc n) ms no_numbers name) (module_named ms name) (ap (slice_get all) (zero_more n) ∙ h 0)
    (numbers-of all ms (suc n) name (λ k. ap (slice_get all) (suc_more n k) ∙ h (suc k)))
  where
    zero_more : (n : ℕ) → n ≡ n + 0
    zero_more n = omega arith

    suc_more : (n k : ℕ) → suc n + k ≡ n + suc k
    suc_more n k = omega arith

pub modules-are : (ms : List VModule) (name : Name) → at_number (ports_added ms []) (numbers_from 0 ms no_numbers name) ≡ child_ports (module_named ms name)
modules-are ms name =
    ap (λ (es : List Env). at_number es (numbers_from 0 ms no_numbers name)) (added-all ms [])
    ∙ numbers-of (ports_all ms) ms 0 name (λ k. ap (slice_get (ports_all ms)) (none_more k))
  where
    none_more : (k : ℕ) → 0 + k ≡ k
    none_more k = omega arith
