-- What is found in a design is the first of the tokens at which it breaks a rule, but for circles.
use Rattle.std.proofs.Common.{◌≡◌, ℕ, zero, suc, ◌+◌, Bool, true, false, not, ◌&&◌, ◌||◌, List, [], ◌∷◌, ◌++◌, map, length, slice_get, Option, Some, None, refl, sym, ap, ◌∙◌, subst, is_some, append_assoc, arith}
use Rattle.std.proofs.lemmas.List.{append-nil}
use Rattle.v_tree.specs.Names.{Name, among}
use Rattle.v_tree.specs.Scopes.{function, part, bits_of, Declared, Scope, inside, nowhere, is_declared, repeated}
use Rattle.v_tree.specs.ExprRules.{Around, only_if}
use Rattle.v_tree.specs.StmtRules.{range_size}
use Rattle.v_tree.specs.Rules as R
use Rattle.v_tree.specs.Rules.{Port, item_size, items_size, signal_size, module_size, ports_size, listed_tokens, signal_broken, declared_signal, declared_by, declared_in, ports_by, ports_of, module_named, child_broken, listed_ports, undeclared, unlisted, module_names}
use Rattle.v_tree.specs.declared.items.VDesign.{VDesign}
use Rattle.v_tree.specs.declared.items.VFunction.{VFunction}
use Rattle.v_tree.specs.declared.items.VInstance.{VInstance}
use Rattle.v_tree.specs.declared.items.VItem.{VItem}
use Rattle.v_tree.specs.declared.items.VItem.TheVariants as I
use Rattle.v_tree.specs.declared.items.VModule.{VModule}
use Rattle.v_tree.specs.declared.items.VSignal.{VSignal}
use Rattle.v_tree.specs.declared.items.VSignal.TheVariants.{Input, Output, OutputReg, Wire, Reg}
use Rattle.v_scopes.specs.Env.{Env}
use Rattle.v_expr_rules.specs.Seen.{plus, earlier, mark}
use Rattle.v_expr_rules.specs.Least.{cap, first}
use Rattle.v_expr_rules.specs.Things.{around}
use Rattle.v_expr_rules.proofs.Saturation.{plus-cap, earlier-none, none-earlier, earlier-assoc, first-append, first-if, first-one}
use Rattle.v_expr_rules.proofs.Operands.{sum-of, next-token}
use Rattle.v_stmt_rules.specs.declared.statements.StmtSeen.{StmtSeen}
use Rattle.v_stmt_rules.specs.Stmts.{Told, nothing, meets, begun}
use Rattle.v_stmt_rules.proofs.Declared.{weave, Meets, meets-more, afters, afters-append, first-repeated-append, first-repeated, things}
use Rattle.v_stmt_rules.proofs.StmtsExact.{swap}
use Rattle.v_item_rules.specs.Signals.{range_tokens, listed, signal_tokens, signal_first}
use Rattle.v_item_rules.specs.Instances.{instance_seen}
use Rattle.v_item_rules.specs.Functions.{function_seen}
use Rattle.v_item_rules.specs.Plain.{function_plain}
use Rattle.v_item_rules.proofs.SignalsExact.{listed-of, signal-size, signal-found, name-token, reg-token}
use Rattle.v_item_rules.proofs.ProcessesExact.{initial-found, process-fits}
use Rattle.v_item_rules.proofs.FunctionsExact.{function-fits}
use Rattle.v_item_rules.proofs.InstancesExact.{PortsAre, instance-fits}
use Rattle.v_rules.specs.ModuleNames.{items_given, ports_given}
use Rattle.v_rules.specs.Tables.{Numbers, no_numbers, numbers_from, ports_added, at_number}
use Rattle.v_rules.specs.Items.{port_added, list_from, signal_token, signal_name, is_port, signal_told, initial_seen, function_told, child_seen, instance_told, item_told, item_added, items_from, list_tokens, module_seen, module_added, modules_from, design_first}
use Rattle.v_rules.specs.Plain.{item_plain, items_plain, module_plain, modules_plain, design_plain}
use Rattle.v_rules.proofs.NamesExact.{Rest, rest-first, rest-behind, module-things, ports-are, is-port, port_names, declared-list, child_ports, modules-are}

-- the port list
record ListFits (t : Told) (start : Option ℕ) (size : ℕ) (names : List Name) (ps : List Port) (at : ℕ) (ds : List Declared) : Type 0 where
  size_is : t.seen.size ≡ cap size
  found : t.seen.first ≡ earlier start (earlier (first (repeated ds (listed_ports names at))) (first (undeclared ps (listed_ports names at))))
  met : Meets t.met (afters (listed_ports names at) ds)

list-fits : (ns : List Name) (ports : Env) (ps : List Port) (at k : ℕ) (t : Told) (ds : List Declared) → ((n : Name) → is_some (ports n) ≡ among (port_names ps) n) → t.seen.size ≡ cap k → Meets t.met ds
    → ListFits (list_from ns ports (cap at) t) t.seen.first (k + (length ns + length ns)) ns ps (at + k) ds
list-fits [] ports ps at k t ds are e h = record { size_is = e ∙ ap cap (omega arith); found = sym (ap (earlier t.seen.first) (earlier-none None) ∙ earlier-none t.seen.first); met = h }
list-fits (n ∷ ns) ports ps at k t ds are e h =
    let here = plus (cap at) t.seen.size in
    let here_is : here ≡ cap (at + k) = sum-of (cap at) t.seen.size at k refl e in
    let d : Declared = record { name = n; token = at + k; thing = part } in
    let next : Told = record { seen = port_added t.seen (is_some (t.met n)) (is_some (ports n)) here; met = meets t.met n } in
    let rest = list-fits ns ports ps at (k + 2) next (d ∷ ds) are (sum-of t.seen.size 2 k 2 e refl) (meets-more t.met ds d h) in
    let place : at + (k + 2) ≡ (at + k) + 2 = omega arith in
    let ls = listed_ports ns ((at + k) + 2) in
    let b = mark (is_declared ds n) (cap (at + k)) in
    let c = mark (not (among (port_names ps) n)) (cap (at + k)) in
    let x = first (repeated (d ∷ ds) ls) in
    let y = first (undeclared ps ls) in
    record {
      size_is = rest.size_is ∙ ap cap (omega arith);
      found =
          rest.found
          ∙ (λ i. earlier (earlier t.seen.first (earlier (mark (h n i) (here_is i)) (mark (not (are n i)) (here_is i)))) (earlier (first (repeated (d ∷ ds) (listed_ports ns (place i)))) (first (undeclared ps (listed_ports ns (place i))))))
          ∙ earlier-assoc t.seen.first (earlier b c) (earlier x y)
          ∙ ap (earlier t.seen.first) (weave b c x y)
          ∙ (λ i. earlier t.seen.first (earlier (sym (first-repeated ds d ls) i) ((ap (λ o. earlier o y) (sym (first-if (not (among (port_names ps) n)) (at + k))) ∙ sym (first-append (only_if (not (among (port_names ps) n)) (at + k)) (undeclared ps ls))) i)));
      met = subst (λ m. Meets (list_from ns ports (cap at) next).met (afters (listed_ports ns m) (d ∷ ds))) place rest.met;
    }

-- what is told of an item: its names that were met, its ports that aren't listed, and what else breaks a rule
record ItemTells (t : Told) (size : ℕ) (declared : List Declared) (missing broken : List ℕ) (ds : List Declared) : Type 0 where
  size_is : t.seen.size ≡ cap size
  found : t.seen.first ≡ earlier (first (repeated ds declared)) (earlier (first missing) (first broken))
  met : Meets t.met (afters declared ds)

one-declared : (met : Env) (ds : List Declared) (d : Declared) (n : ℕ) → n ≡ cap d.token → Meets met ds → mark (is_some (met d.name)) n ≡ first (repeated ds (d ∷ []))
one-declared met ds d n is h = (λ i. mark (h d.name i) (is i)) ∙ sym (earlier-none (mark (is_declared ds d.name) (cap d.token))) ∙ sym (first-repeated ds d [])

signal-tokens : (s : VSignal) (at : ℕ) → signal_token s (cap at) ≡ cap (declared_signal s at).token
signal-tokens (Input range name) at = name-token range at
signal-tokens (Output range name) at = name-token range at
signal-tokens (OutputReg range name initial) at = reg-token range at
signal-tokens (Wire range name) at = name-token range at
signal-tokens (Reg range name rest) at = name-token range at

signal-names : (s : VSignal) (at : ℕ) → signal_name s ≡ (declared_signal s at).name
signal-names (Input range name) at = refl
signal-names (Output range name) at = refl
signal-names (OutputReg range name initial) at = refl
signal-names (Wire range name) at = refl
signal-names (Reg range name rest) at = refl

missing-one : (names : List Name) (p : Port) → mark (not (among names p.name)) (cap p.token) ≡ first (unlisted names (p ∷ []))
missing-one names p = sym (ap first (append-nil (only_if (not (among names p.name)) p.token)) ∙ first-if (not (among names p.name)) p.token)

missing-of : (names : List Name) (list : Env) (s : VSignal) (at : ℕ) → ((n : Name) → is_some (list n) ≡ among names n)
    → mark (is_port s && not (is_some (list (signal_name s)))) (signal_token s (cap at)) ≡ first (unlisted names (ports_by s at))
missing-of names list (Input range name) at h =
    (λ i. mark (not (h name i)) (name-token range at i)) ∙ missing-one names (record { name = name; token = suc at + range_size range; is_input = true; width = bits_of range })
missing-of names list (Output range name) at h =
    (λ i. mark (not (h name i)) (name-token range at i)) ∙ missing-one names (record { name = name; token = suc at + range_size range; is_input = false; width = bits_of range })
missing-of names list (OutputReg range name initial) at h =
    (λ i. mark (not (h name i)) (reg-token range at i)) ∙ missing-one names (record { name = name; token = 2 + (at + range_size range); is_input = false; width = bits_of range })
missing-of names list (Wire range name) at h = refl
missing-of names list (Reg range name rest) at h = refl

abbrev function_declared : VFunction → ℕ → Declared
function_declared f at = record { name = f.name; token = R.function_token f at; thing = function (bits_of f.range) (R.input_bits f) }

-- the items of a module, among the modules of a design
module _ (ms : List VModule) (items : List VItem) (names : List Name) (list : Env) (listed_is : (n : Name) → is_some (list n) ≡ among names n) (env : Env) where
  abbrev ns : Numbers
  ns = numbers_from 0 ms no_numbers

  abbrev es : List Env
  es = ports_added ms []

  abbrev a : Around
  a = around env items

  abbrev missing : VItem → ℕ → List ℕ
  missing (I.Signal s) at = unlisted names (ports_by s at)
  missing (I.Initial i) at = []
  missing (I.Process p) at = []
  missing (I.Function f) at = []
  missing (I.Instance i) at = []

  abbrev missings : List VItem → ℕ → List ℕ
  missings [] at = []
  missings (i ∷ is) at = missing i at ++ missings is (at + item_size i)

  signal-tells : (s : VSignal) (at : ℕ) (met : Env) (ds : List Declared) → Meets met ds → ItemTells (signal_told s list (cap at) met) (signal_size s) (declared_signal s at ∷ []) (unlisted names (ports_by s at)) (signal_broken s at) ds
  signal-tells s at met ds h = record {
    size_is = signal-size s;
    found = λ i. earlier ((ap (λ n. mark (is_some (met n)) (signal_token s (cap at))) (signal-names s at) ∙ one-declared met ds (declared_signal s at) (signal_token s (cap at)) (signal-tokens s at) h) i)
        (earlier (missing-of names list s at listed_is i) (signal-found s at i));
    met = subst (λ (n : Name). Meets (meets met n) (declared_signal s at ∷ ds)) (sym (signal-names s at)) (meets-more met ds (declared_signal s at) h);
  }

  nothing-missing : (x y : Option ℕ) → earlier x y ≡ earlier x (earlier None y)
  nothing-missing x y = ap (earlier x) (sym (none-earlier y))

  child-tells : (o : Option Env) (q : Option VModule) (i : VInstance) (at : ℕ) → o ≡ child_ports q
      → ((child_seen o i env items (cap at)).size ≡ cap (item_size (I.Instance i))) × ((child_seen o i env items (cap at)).first ≡ first (child_broken a q i at))
  child-tells o None i at e =
      subst (λ (x : Option Env). ((child_seen x i env items (cap at)).size ≡ cap (item_size (I.Instance i))) × ((child_seen x i env items (cap at)).first ≡ first (at ∷ []))) (sym e)
      ((instance-fits i nothing [] env items at (λ n. tt)).size_is, sym (first-one at))
  child-tells o (Some m) i at e =
      subst (λ (x : Option Env). ((child_seen x i env items (cap at)).size ≡ cap (item_size (I.Instance i))) × ((child_seen x i env items (cap at)).first ≡ first (child_broken a (Some m) i at))) (sym e)
      (let f = instance-fits i (ports_given m.items nothing) (ports_of m.items 0) env items at (ports-are m.items 0) in (f.size_is, f.found))

  item-tells : (i : VItem) (n at : ℕ) (met : Env) (ds : List Declared) → slice_get items n ≡ Some i → Meets met ds
      → ItemTells (item_told ns es list i n env items (cap at) met) (item_size i) (declared_by i at) (missing i at) (item_plain ms a i at) ds
  item-tells (I.Signal s) n at met ds e h = signal-tells s at met ds h
  item-tells (I.Initial x) n at met ds e h = record {
    size_is = refl;
    found = initial-found items (env x.name) (length x.value) at ∙ sym (none-earlier _) ∙ ap (earlier None) (sym (none-earlier _));
    met = h;
  }
  item-tells (I.Process p) n at met ds e h =
      let f = process-fits p env items at met ds h in record { size_is = f.size_is; found = f.found ∙ nothing-missing _ _; met = f.met }
  item-tells (I.Function f) n at met ds e h =
      let k = function-fits f n env items at e in
      let d : Declared = function_declared f at in
      record {
        size_is = k.size_is;
        found = (λ i. earlier (one-declared met ds d (plus (cap at) (1 + range_tokens f.range)) (name-token f.range at) h i) (k.found i)) ∙ nothing-missing _ _;
        met = meets-more met ds d h;
      }
  item-tells (I.Instance i) n at met ds e h =
      let k = child-tells (at_number es (ns i.of)) (module_named ms i.of) i at (modules-are ms i.of) in
      let d : Declared = record { name = i.name; token = suc at; thing = part } in
      record {
        size_is = k.0;
        found = (λ j. earlier (one-declared met ds d (plus (cap at) 1) (next-token at) h j) (k.1 j)) ∙ nothing-missing _ _;
        met = meets-more met ds d h;
      }

  record ItemsTell (t : Told) (start : Option ℕ) (size : ℕ) (is : List VItem) (at : ℕ) (ds : List Declared) : Type 0 where
    size_is : t.seen.size ≡ cap size
    found : t.seen.first ≡ earlier start (earlier (first (repeated ds (declared_in is at))) (earlier (first (missings is at)) (first (items_plain ms a is at))))

  from-items : (is : List VItem) (n at k : ℕ) (t : Told) (ds : List Declared) → Rest items n is → t.seen.size ≡ cap k → Meets t.met ds
      → ItemsTell (items_from is n ns es list env items (cap at) t) t.seen.first (k + items_size is) is (at + k) ds
  from-items [] n at k t ds r e h = record {
    size_is = e ∙ ap cap (omega arith);
    found = sym (ap (earlier t.seen.first) (ap (earlier None) (earlier-none None) ∙ earlier-none None) ∙ earlier-none t.seen.first);
  }
  from-items (i ∷ is) n at k t ds r e h =
      let here = plus (cap at) t.seen.size in
      let here_is : here ≡ cap (at + k) = sum-of (cap at) t.seen.size at k refl e in
      let f = subst (λ m. ItemTells (item_told ns es list i n env items m t.met) (item_size i) (declared_by i (at + k)) (missing i (at + k)) (item_plain ms a i (at + k)) ds) (sym here_is)
      (item-tells i n (at + k) t.met ds (rest-first items n i is r) h) in
      let one = item_told ns es list i n env items here t.met in
      let next : Told = record { seen = item_added t.seen one.seen; met = one.met } in
      let ds2 = afters (declared_by i (at + k)) ds in
      let rest = from-items is (suc n) at (k + item_size i) next ds2 (rest-behind items n i is r) (sum-of t.seen.size one.seen.size k (item_size i) e f.size_is) f.met in
      let place : at + (k + item_size i) ≡ (at + k) + item_size i = omega arith in
      let end = (at + k) + item_size i in
      let moved = subst (λ m. ItemsTell (items_from is (suc n) ns es list env items (cap at) next) (item_added t.seen one.seen).first ((k + item_size i) + items_size is) is m ds2) place rest in
      let b = first (repeated ds (declared_by i (at + k))) in
      let c = first (missing i (at + k)) in
      let d = first (item_plain ms a i (at + k)) in
      let x = first (repeated ds2 (declared_in is end)) in
      let y = first (missings is end) in
      let z = first (items_plain ms a is end) in
      record {
        size_is = moved.size_is ∙ ap cap (omega arith);
        found =
            moved.found
            ∙ ap (λ o. earlier (earlier t.seen.first o) (earlier x (earlier y z))) f.found
            ∙ earlier-assoc t.seen.first (earlier b (earlier c d)) (earlier x (earlier y z))
            ∙ ap (earlier t.seen.first) (weave b (earlier c d) x (earlier y z) ∙ ap (earlier (earlier b x)) (weave c d y z))
            ∙ (λ j. earlier t.seen.first (earlier (sym (first-repeated-append ds (declared_by i (at + k)) (declared_in is end)) j)
            (earlier (sym (first-append (missing i (at + k)) (missings is end)) j) (sym (first-append (item_plain ms a i (at + k)) (items_plain ms a is end)) j))));
      }

unlisted-append : (names : List Name) (ps qs : List Port) → unlisted names (ps ++ qs) ≡ unlisted names ps ++ unlisted names qs
unlisted-append names [] qs = refl
unlisted-append names (p ∷ ps) qs =
    ap (λ (ts : List ℕ). only_if (not (among names p.name)) p.token ++ ts) (unlisted-append names ps qs)
    ∙ sym (append_assoc (only_if (not (among names p.name)) p.token) (unlisted names ps) (unlisted names qs))

missings-are : (ms : List VModule) (items : List VItem) (names : List Name) (list : Env) (h : (n : Name) → is_some (list n) ≡ among names n) (env : Env) (is : List VItem) (at : ℕ)
    → missings ms items names list h env is at ≡ unlisted names (ports_of is at)
missings-are ms items names list h env [] at = refl
missings-are ms items names list h env (I.Signal s ∷ is) at =
    ap (λ (ts : List ℕ). unlisted names (ports_by s at) ++ ts) (missings-are ms items names list h env is (at + signal_size s))
    ∙ sym (unlisted-append names (ports_by s at) (ports_of is (at + signal_size s)))
missings-are ms items names list h env (I.Initial x ∷ is) at = missings-are ms items names list h env is (at + item_size (I.Initial x))
missings-are ms items names list h env (I.Process x ∷ is) at = missings-are ms items names list h env is (at + item_size (I.Process x))
missings-are ms items names list h env (I.Function x ∷ is) at = missings-are ms items names list h env is (at + item_size (I.Function x))
missings-are ms items names list h env (I.Instance x ∷ is) at = missings-are ms items names list h env is (at + item_size (I.Instance x))

pub tokens-are : (names : List Name) → list_tokens names ≡ cap (ports_size names)
tokens-are [] = refl
tokens-are (n ∷ ns) = sum-of 2 (listed (length (n ∷ ns))) 2 (listed_tokens (suc (length ns))) refl (listed-of (suc (length ns)))

none-more : (k : ℕ) → 0 + k ≡ k
none-more k = omega arith

more-none : (k : ℕ) → k + 0 ≡ k
more-none k = omega arith

-- a module
record ModuleFits (s : StmtSeen) (ms : List VModule) (m : VModule) (at : ℕ) : Type 0 where
  size_is : s.size ≡ cap (module_size m)
  found : s.first ≡ first (module_plain ms m at)

module-fits : (ms : List VModule) (m : VModule) (at : ℕ) → ModuleFits (module_seen (numbers_from 0 ms no_numbers) (ports_added ms []) m (cap at)) ms m at
module-fits ms m at =
    let begin = at + (3 + ports_size m.ports) in
    let ports = ports_given m.items nothing in
    let ps = ports_of m.items begin in
    let list = list_from m.ports ports (plus (cap at) 3) (begun nothing) in
    let k = subst (λ n. ListFits (list_from m.ports ports n (begun nothing)) None (0 + (length m.ports + length m.ports)) m.ports ps (at + 3) []) (sym (plus-cap at 3))
    (subst (λ n. ListFits (list_from m.ports ports (cap (at + 3)) (begun nothing)) None (0 + (length m.ports + length m.ports)) m.ports ps n []) (more-none (at + 3))
    (list-fits m.ports ports ps (at + 3) 0 (begun nothing) [] (is-port m.items begin) refl (λ n. refl))) in
    let listed_is : (n : Name) → is_some (list.met n) ≡ among m.ports n = λ n. k.met n ∙ declared-list m.ports (at + 3) n in
    let env = items_given 0 m.items nothing in
    let tokens = list_tokens m.ports in
    let from = plus (cap at) (plus 3 tokens) in
    let from_is : from ≡ cap begin = sum-of (cap at) (plus 3 tokens) at (3 + ports_size m.ports) refl (sum-of 3 tokens 3 (ports_size m.ports) refl (tokens-are m.ports)) in
    let walk : ℕ → Told = λ n. items_from m.items 0 (numbers_from 0 ms no_numbers) (ports_added ms []) list.met env m.items n (begun nothing) in
    let g = subst (λ n. ItemsTell ms m.items m.ports list.met listed_is env (walk n) None (items_size m.items) m.items begin []) (sym from_is)
    (subst (λ n. ItemsTell ms m.items m.ports list.met listed_is env (walk (cap begin)) None n m.items begin []) (none-more (items_size m.items))
    (subst (λ n. ItemsTell ms m.items m.ports list.met listed_is env (walk (cap begin)) None (0 + items_size m.items) m.items n []) (more-none begin)
    (from-items ms m.items m.ports list.met listed_is env m.items 0 begin 0 (begun nothing) [] (λ i. ap (slice_get m.items) (none-more i)) refl (λ n. refl)))) in
    let body = (walk from).seen in
    let own = declared_in m.items begin in
    let ls = listed_ports m.ports (at + 3) in
    let b : Around = record { scope = inside own nowhere; leads_back = λ f. false } in
    let same : around env m.items ≡ b = λ i. record { scope = module-things m.items begin i; leads_back = λ f. false } in
    let x = first (repeated [] ls) in
    let u = first (undeclared ps ls) in
    let o = first (repeated [] own) in
    let l = first (unlisted m.ports ps) in
    let v = first (items_plain ms b m.items begin) in
    let items_are : body.first ≡ earlier o (earlier l v) =
    g.found ∙ none-earlier _
    ∙ (λ i. earlier o (earlier (first (missings-are ms m.items m.ports list.met listed_is env m.items begin i)) (first (items_plain ms (same i) m.items begin)))) in
    record {
      size_is = sum-of 4 (plus tokens body.size) 4 (ports_size m.ports + items_size m.items) refl (sum-of tokens body.size (ports_size m.ports) (items_size m.items) (tokens-are m.ports) g.size_is);
      found =
          (λ i. earlier ((k.found ∙ none-earlier (earlier x u)) i) (items_are i))
          ∙ earlier-assoc x u (earlier o (earlier l v))
          ∙ ap (λ y. earlier x (earlier u y)) (swap o l v)
          ∙ ap (λ y. earlier x (earlier u (earlier l y))) (sym (first-append (repeated [] own) (items_plain ms b m.items begin)))
          ∙ ap (λ y. earlier x (earlier u y)) (sym (first-append (unlisted m.ports ps) (repeated [] own ++ items_plain ms b m.items begin)))
          ∙ ap (earlier x) (sym (first-append (undeclared ps ls) (unlisted m.ports ps ++ (repeated [] own ++ items_plain ms b m.items begin))))
          ∙ sym (first-append (repeated [] ls) (undeclared ps ls ++ (unlisted m.ports ps ++ (repeated [] own ++ items_plain ms b m.items begin))));
    }

-- a design
modules-fit : (all ms : List VModule) (k : ℕ) (t : Told) (ds : List Declared) → t.seen.size ≡ cap k → Meets t.met ds
    → (modules_from ms (numbers_from 0 all no_numbers) (ports_added all []) t).seen.first ≡ earlier t.seen.first (earlier (first (repeated ds (module_names ms k))) (first (modules_plain all ms k)))
modules-fit all [] k t ds e h = sym (ap (earlier t.seen.first) (earlier-none None) ∙ earlier-none t.seen.first)
modules-fit all (m ∷ ms) k t ds e h =
    let ns = numbers_from 0 all no_numbers in
    let es = ports_added all [] in
    let f = subst (λ n. ModuleFits (module_seen ns es m n) all m k) (sym e) (module-fits all m k) in
    let one = module_seen ns es m t.seen.size in
    let d : Declared = record { name = m.name; token = suc k; thing = part } in
    let token : plus t.seen.size 1 ≡ cap (suc k) = ap (λ n. plus n 1) e ∙ next-token k in
    let again = mark (is_some (t.met m.name)) (plus t.seen.size 1) in
    let next : Told = record { seen = module_added t.seen again one; met = meets t.met m.name } in
    let rest = modules-fit all ms (k + module_size m) next (d ∷ ds) (sum-of t.seen.size one.size k (module_size m) e f.size_is) (meets-more t.met ds d h) in
    let b = mark (is_declared ds m.name) (cap (suc k)) in
    let c = first (module_plain all m k) in
    let x = first (repeated (d ∷ ds) (module_names ms (k + module_size m))) in
    let y = first (modules_plain all ms (k + module_size m)) in
    rest
    ∙ (λ i. earlier (earlier t.seen.first (earlier (mark (h m.name i) (token i)) (f.found i))) (earlier x y))
    ∙ earlier-assoc t.seen.first (earlier b c) (earlier x y)
    ∙ ap (earlier t.seen.first) (weave b c x y)
    ∙ (λ i. earlier t.seen.first (earlier (sym (first-repeated ds d (module_names ms (k + module_size m))) i) (sym (first-append (module_plain all m k) (modules_plain all ms (k + module_size m))) i)))

pub design-exact : (e : VDesign) → design_first e ≡ first (design_plain e)
design-exact e =
    modules-fit e.modules e.modules 0 (begun nothing) [] refl (λ n. refl)
    ∙ none-earlier _
    ∙ sym (first-append (repeated [] (module_names e.modules 0)) (modules_plain e.modules e.modules 0))
