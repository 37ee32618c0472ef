-- What the text of a design that keeps the rules tells of the processes that stem from it.
use Rattle.std.proofs.Common.{◌≡◌, ℕ, zero, suc, ◌+◌, ◌≤◌, Bool, true, false, cond, List, [], ◌∷◌, ◌++◌, length, drop, map, get_or, slice_index_or, Option, Some, None, refl, sym, ap, ◌∙◌, append_assoc, arith}
use Rattle.std.specs.Str.{bytes_eq}
use Rattle.v_tree.specs.Names.{Name}
use Rattle.v_tree.specs.Rules.{instantiated}
use Rattle.v_tree.specs.declared.expressions.VExpr.{VExpr}
use Rattle.v_tree.specs.declared.items.VConnection.{VConnection}
use Rattle.v_tree.specs.declared.items.VItem.{VItem}
use Rattle.v_tree.specs.declared.items.VItem.TheVariants as I
use Rattle.v_tree.specs.declared.items.VModule.{VModule}
use Rattle.v_tree.specs.declared.items.VProcess.{VProcess}
use Rattle.v_tree.specs.declared.items.VProcess.TheVariants.{Assign, Always}
use Rattle.v_tree.proofs.Induction.{Each}
use Rattle.v_meaning.specs.Machine.{size}
use Rattle.v_meaning.specs.Scopes.{Named, named, all_bits, is_signal}
use Rattle.v_meaning.specs.Statements.{Target, target}
use Rattle.v_meaning.specs.Modules.{Signal, Kind, input_net, net, variable, Child, signals, functions, items_of, numbered, kind_of, as_target, children, signal_count, joined_parts, parts_from, scope_of}
use Rattle.v_instances.proofs.Counting.{signals-are, count-is}
use Rattle.v_eval.specs.Limits.{limits, most_given}
use Rattle.v_run.specs.Limits.{target_most}
use Rattle.v_exec.specs.Inside.{NamesFit}
use Rattle.v_exec.specs.Keeping.{scope_at, LinkNarrow, LinksNarrow, ItemNarrow, ItemsNarrow, ModuleNarrow}
use Rattle.v_exec.specs.Limits.{branch_most}
use Rattle.v_processes.specs.Stems.{Stem, assigned, running, given, taken, Source, process_source, taken_by, link_source, link_sources, own_sources, child_sources, sources_from}
use Rattle.v_steps.proofs.Standing.{fit-at, drop-behind, each-both}
use Rattle.v_runs.specs.Depths.{Shallow}

-- what can be run, on signals that have so many bits, of a process among these items
abbrev pub StemCan : List VItem → List ℕ → Stem → Type 0
StemCan is ws (assigned to value) = (n : ℕ) → (target_most to (scope_of n is) ≤ 128) × (most_given ((target to).width (scope_of n is)) (limits value) (scope_of n is) ≤ 128)
StemCan is ws (running body) = (n : ℕ) → branch_most body (scope_of n is) ≤ 128
StemCan is ws (given number bits value) = ((n : ℕ) → most_given bits (limits value) (scope_of n is) ≤ 128) × (is_signal number ≡ true → bits ≤ slice_index_or ws number 0)
StemCan is ws (taken decimal) = decimal ≡ true

pub record Can (ms : List VModule) (ws : List ℕ) (s : Source) : Type 0 where
  pub there : s.items ≡ [] → ⊥
  pub modules : (n d : ℕ) → ModuleNarrow ms n d s.items
  pub stem : StemCan s.items ws s.stem

-- the port of a child
fits-by : (b : Bool) (ws : List ℕ) (n m : Named) → (is_signal n.number ≡ true → all_bits n ≤ get_or ws n.number 0) → (is_signal m.number ≡ true → all_bits m ≤ get_or ws m.number 0)
    → is_signal (cond b n m).number ≡ true → all_bits (cond b n m) ≤ get_or ws (cond b n m).number 0
fits-by true ws n m h g = h
fits-by false ws n m h g = g

named-fits : (ws : List ℕ) (ns : List Named) (name : Name) → NamesFit ws ns → is_signal (named ns name).number ≡ true → all_bits (named ns name) ≤ get_or ws (named ns name).number 0
named-fits ws [] name fit = λ is. omega arith
named-fits ws (n ∷ ns) name fit = fits-by (bytes_eq n.name name) ws n (named ns name) fit.0 (named-fits ws ns name fit.1)

-- a child that is entered has its own signals first
module-first : (depth : ℕ) (ms : List VModule) (all : List Signal) (n : ℕ) (name : Name) (rest : List Signal) → Shallow depth ms name → drop n all ≡ (parts_from depth ms n name).signals ++ rest
    → NamesFit (map size all) (numbered n (signals (items_of ms name)))
unfolding parts_from Shallow
module-first zero ms all n name rest h is = absurd h
module-first (suc depth) ms all n name rest h is =
    let own = signals (items_of ms name) in
    let q = joined_parts (map (λ (c : Child). parts_from depth ms c.first c.of) (children (signal_count depth ms) (n + length own) (items_of ms name))) in
    fit-at all n own (q.signals ++ rest) (is ∙ append_assoc own q.signals rest)

module _ (ms : List VModule) (ws : List ℕ) (items : List VItem) (there : items ≡ [] → ⊥) (modules : (n d : ℕ) → ModuleNarrow ms n d items) where
  process-can : (p : VProcess) → ((n d : ℕ) → ItemNarrow ms (scope_at n d items) (I.Process p)) → Can ms ws (process_source items p)
  process-can (Assign to value) narrow = record { there = there; modules = modules; stem = λ n. narrow n (length (functions items)) }
  process-can (Always on body) narrow = record { there = there; modules = modules; stem = λ n. narrow n (length (functions items)) }

  taken-can : (o : Option Target) → Each (Can ms ws) (taken_by items o)
  taken-can None = tt
  taken-can (Some to) = (record { there = there; modules = modules; stem = refl }, tt)

  link-can : (kind : Kind) (m : ℕ) (own : List VItem) (x : VExpr) (port : Name) → kind_of (signals own) port ≡ kind → ((n d : ℕ) → LinkNarrow (scope_at n d items) own (Some x) port)
      → NamesFit ws (numbered m (signals own)) → Each (Can ms ws) (link_source items kind (named (numbered m (signals own)) port) x)
  link-can input_net m own x port is narrow fit = (
    record {
      there = there;
      modules = modules;
      stem = ((λ n. narrow n (length (functions items)) m is), named-fits ws (numbered m (signals own)) port fit);
    },
    tt,
  )
  link-can net m own x port is narrow fit = taken-can (as_target x)
  link-can variable m own x port is narrow fit = taken-can (as_target x)

  value-can : (m : ℕ) (own : List VItem) (o : Option VExpr) (port : Name) → ((n d : ℕ) → LinkNarrow (scope_at n d items) own o port) → NamesFit ws (numbered m (signals own))
      → Each (Can ms ws) (elim o [ None ↦ [] | Some x ↦ link_source items (kind_of (signals own) port) (named (numbered m (signals own)) port) x ])
  value-can m own None port narrow fit = tt
  value-can m own (Some x) port narrow fit = link-can (kind_of (signals own) port) m own x port refl narrow fit

  links-can : (m : ℕ) (own : List VItem) (cs : List VConnection) → ((n d : ℕ) → LinksNarrow (scope_at n d items) own cs) → NamesFit ws (numbered m (signals own)) → Each (Can ms ws) (link_sources items m (signals own) cs)
  links-can m own [] narrow fit = tt
  links-can m own (c ∷ cs) narrow fit =
      each-both (Can ms ws) _ (link_sources items m (signals own) cs) (value-can m own c.value c.port (λ n d. (narrow n d).0) fit) (links-can m own cs (λ n d. (narrow n d).1) fit)

no-item : (items : List VItem) (i : VItem) (xs : List VItem) → (items ≡ [] → i ∷ xs ≡ []) → items ≡ [] → ⊥
no-item items i xs h e = let none : i ∷ xs ≡ [] = h e in absurd (cc)

-- the signals of the children among items, which stand from a number on
abbrev ChildrenStand : ℕ → List VModule → List Signal → ℕ → List VItem → List Signal → Type 0
ChildrenStand depth ms all m is rest = drop m all ≡ (joined_parts (map (λ (c : Child). parts_from depth ms c.first c.of) (children (signal_count depth ms) m is))).signals ++ rest

next-stands : (depth : ℕ) (ms : List VModule) (all : List Signal) (m : ℕ) (name : Name) (xs : List VItem) (rest : List Signal)
    → drop m all ≡ (parts_from depth ms m name).signals ++ ((joined_parts (map (λ (c : Child). parts_from depth ms c.first c.of) (children (signal_count depth ms) (m + signal_count depth ms name) xs))).signals ++ rest)
    → ChildrenStand depth ms all (m + signal_count depth ms name) xs rest
next-stands depth ms all m name xs rest is =
    let long = ap (λ (ss : List Signal). length ss) (signals-are depth ms m name) ∙ count-is depth ms name in
    ap (λ k. drop (m + k) all) (sym long) ∙ drop-behind all m (parts_from depth ms m name).signals _ is

module _ (depth : ℕ) (ms : List VModule) (all : List Signal) where
  abbrev below : ℕ → List VItem → List Signal
  below m is = (joined_parts (map (λ (c : Child). parts_from depth ms c.first c.of) (children (signal_count depth ms) m is))).signals

  -- an instance's own processes
  own-can : (items : List VItem) → ((n d : ℕ) → ModuleNarrow ms n d items) → (m : ℕ) (is : List VItem) (rest : List Signal) → (items ≡ [] → is ≡ []) → ((n d : ℕ) → ItemsNarrow ms (scope_at n d items) is)
      → Each (Shallow depth ms) (instantiated is) → ChildrenStand depth ms all m is rest → Each (Can ms (map size all)) (own_sources ms (signal_count depth ms) items m is)
  own-can items modules m [] rest some narrow shallow h = tt
  own-can items modules m (I.Signal s ∷ xs) rest some narrow shallow h = own-can items modules m xs rest (λ e. absurd (no-item items (I.Signal s) xs some e)) (λ n d. (narrow n d).1) shallow h
  own-can items modules m (I.Initial s ∷ xs) rest some narrow shallow h = own-can items modules m xs rest (λ e. absurd (no-item items (I.Initial s) xs some e)) (λ n d. (narrow n d).1) shallow h
  own-can items modules m (I.Process p ∷ xs) rest some narrow shallow h = (
    process-can ms (map size all) items (no-item items (I.Process p) xs some) modules p (λ n d. (narrow n d).0),
    own-can items modules m xs rest (λ e. absurd (no-item items (I.Process p) xs some e)) (λ n d. (narrow n d).1) shallow h,
  )
  own-can items modules m (I.Function f ∷ xs) rest some narrow shallow h = own-can items modules m xs rest (λ e. absurd (no-item items (I.Function f) xs some e)) (λ n d. (narrow n d).1) shallow h
  own-can items modules m (I.Instance i ∷ xs) rest some narrow shallow h =
      let count = signal_count depth ms in
      let own = items_of ms i.of in
      let more = below (m + count i.of) xs in
      let here : drop m all ≡ (parts_from depth ms m i.of).signals ++ (more ++ rest) = h ∙ append_assoc (parts_from depth ms m i.of).signals more rest in
      each-both (Can ms (map size all)) (link_sources items m (signals own) i.connections) (own_sources ms count items (m + count i.of) xs)
      (links-can ms (map size all) items (no-item items (I.Instance i) xs some) modules m own i.connections (λ n d. (narrow n d).0) (module-first depth ms all m i.of (more ++ rest) shallow.0 here))
      (own-can items modules (m + count i.of) xs rest (λ e. absurd (no-item items (I.Instance i) xs some e)) (λ n d. (narrow n d).1) shallow.1 (next-stands depth ms all m i.of xs rest here))

  -- those of its children
  children-can : ((m : ℕ) (name : Name) (rest : List Signal) → Shallow depth ms name → drop m all ≡ (parts_from depth ms m name).signals ++ rest → Each (Can ms (map size all)) (sources_from depth ms m name))
      → (m : ℕ) (is : List VItem) (rest : List Signal) → Each (Shallow depth ms) (instantiated is) → ChildrenStand depth ms all m is rest
      → Each (Can ms (map size all)) (child_sources (sources_from depth ms) (signal_count depth ms) m is)
  children-can inner m [] rest shallow h = tt
  children-can inner m (I.Signal s ∷ xs) rest shallow h = children-can inner m xs rest shallow h
  children-can inner m (I.Initial s ∷ xs) rest shallow h = children-can inner m xs rest shallow h
  children-can inner m (I.Process p ∷ xs) rest shallow h = children-can inner m xs rest shallow h
  children-can inner m (I.Function f ∷ xs) rest shallow h = children-can inner m xs rest shallow h
  children-can inner m (I.Instance i ∷ xs) rest shallow h =
      let count = signal_count depth ms in
      let more = below (m + count i.of) xs in
      let here : drop m all ≡ (parts_from depth ms m i.of).signals ++ (more ++ rest) = h ∙ append_assoc (parts_from depth ms m i.of).signals more rest in
      each-both (Can ms (map size all)) (sources_from depth ms m i.of) (child_sources (sources_from depth ms) count (m + count i.of) xs)
      (inner m i.of (more ++ rest) shallow.0 here) (children-can inner (m + count i.of) xs rest shallow.1 (next-stands depth ms all m i.of xs rest here))

-- those of an instance, and of those in it
pub sources-can : (depth : ℕ) (ms : List VModule) (all : List Signal) → ((name : Name) (n d : ℕ) → ModuleNarrow ms n d (items_of ms name)) → (n : ℕ) (name : Name) (rest : List Signal) → Shallow depth ms name
    → drop n all ≡ (parts_from depth ms n name).signals ++ rest → Each (Can ms (map size all)) (sources_from depth ms n name)
unfolding parts_from Shallow sources_from
sources-can zero ms all narrow n name rest shallow h = tt
sources-can (suc depth) ms all narrow n name rest shallow h =
    let items = items_of ms name in
    let own = signals items in
    let count = signal_count depth ms in
    let q = joined_parts (map (λ (c : Child). parts_from depth ms c.first c.of) (children count (n + length own) items)) in
    let here : drop n all ≡ own ++ (q.signals ++ rest) = h ∙ append_assoc own q.signals rest in
    let next = drop-behind all n own (q.signals ++ rest) here in
    each-both (Can ms (map size all)) (own_sources ms count items (n + length own) items) (child_sources (sources_from depth ms) count (n + length own) items)
    (own-can depth ms all items (narrow name) (n + length own) items rest (λ e. e) (λ m d. (narrow name m d).processes) shallow next)
    (children-can depth ms all (λ m x r. sources-can depth ms all narrow m x r) (n + length own) items rest shallow next)
