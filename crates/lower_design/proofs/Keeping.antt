-- The lowered design keeps the rules, and fits its top.
use Rattle.std.proofs.Common.{◌≡◌, ℕ, suc, ◌+◌, ◌<◌, ◌≤◌, ◌==◌, max, nat_lt, Bool, true, false, not, List, [], ◌∷◌, ◌++◌, map, length, sum, Some, None, refl, sym, ap, subst, ◌∙◌, inl, inr, arith, append-nil}
use Rattle.std.specs.List.{slice_get}
use Rattle.std.specs.Str.{bytes_eq}
use Rattle.std.proofs.lemmas.Bool.{or_left, eq-eqb, ltb-true}
use Rattle.std.proofs.lemmas.List.Sums.{sum_by-cons}
use Rattle.row_machine.specs.Valuation.{Member}
use Rattle.row_machine.proofs.Basics.{member-any}
use Rattle.row_machine.proofs.Members.{member-back}
use Rattle.sv_core.specs.declared.design.SignalKind.{SignalKind}
use Rattle.sv_core.specs.declared.design.SignalKind.TheVariants.{InputNet, OutputVar, Variable}
use Rattle.sv_core.specs.declared.design.Signal.{Signal}
use Rattle.sv_core.specs.declared.design.Expr.{Expr}
use Rattle.sv_core.specs.declared.design.EdgeOn.{EdgeOn}
use Rattle.sv_core.specs.declared.design.ProcessKind.{ProcessKind}
use Rattle.sv_core.specs.declared.design.ProcessKind.TheVariants.{Continuous, Comb, Edges}
use Rattle.sv_core.specs.declared.design.Process.{Process}
use Rattle.sv_core.specs.declared.design.Stmt.TheVariants as S
use Rattle.sv_core.specs.declared.design.Design.{Design}
use Rattle.sv_core.specs.Statements as SD
use Rattle.sv_core.specs.Statements.{doing, stmt_doing, expr_signals}
use Rattle.v_tree.specs.Names.{Name, among, distinct}
use Rattle.v_tree.specs.Scopes.{Thing, Declared, nowhere, repeated, bits_of}
use Rattle.v_tree.specs.Scopes as Scopes
use Rattle.v_tree.specs.ExprRules.{Around, rules_of, only_if, total, name_broken, is_net}
use Rattle.v_tree.specs.StmtRules.{Target, lval_target, at_star, at_edges}
use Rattle.v_tree.specs.Rules as Rules
use Rattle.v_tree.specs.Rules.{Port, ports_of, declared_in, declared_by, event_size, signal_broken, width_broken, initial_broken, edges_broken, process_broken, item_broken, items_broken, item_size, listed_ports, unlisted, undeclared, ports_size, module_broken, most_bits, Keeps, items_named, signal_bits, instantiated, instances_below, bits_below, FitsTop}
use Rattle.v_tree.specs.declared.items.VItem.{VItem}
use Rattle.v_tree.specs.declared.items.VItem.TheVariants as I
use Rattle.v_tree.specs.declared.items.VModule.{VModule}
use Rattle.v_tree.specs.declared.items.VProcess.TheVariants.{Assign as Drive}
use Rattle.v_tree.specs.declared.items.VSignal.TheVariants as V
use Rattle.lower_design.specs.Translatable.{Translatable, KindFits, EdgeFits, OneDriver, is_input, path_of, targets_by, targets_of, inside, stmt_inside, Inside}
use Rattle.lower_design.specs.Shape.{name_of, path_or_nothing, trigger, is_port}
use Rattle.lower_design.specs.Lowered.{lowered_expr, driver_in, process_by, lowered_process, process_items, lowered_edge, range_of, declaration_of, declarations, trigger_items, is_driven, drives, drives_in, drives_by, is_triggered, lowered_items, lowered_module, lowered, whole_target}
use Rattle.lower_design.proofs.Names.{true_or_false, same_bytes, among-member, pick_true}
use Rattle.lower_design.proofs.Levels.{assign-level, assign-out, target-level}
use Rattle.lower_design.proofs.Extension.{driver-of, uses-signals}
use Rattle.lower_design.proofs.Machines.{AllBelow, UsesSignals}
use Rattle.lower_design.proofs.Items.{has_comb, in-three, all-ports, all-instances, distinct-behind, trigger-fresh, get-below}
use Rattle.lower_design.proofs.Scopes.{Known, known, known_name, found, inside-found, found-member, repeated-none, distinct-filter, bits-keep, kind_by, driven-kind, other-kind, thing_of, things, trigger_thing, helper_things, thing-names, thing-member, declared-known}
use Rattle.lower_design.proofs.Quiet.{none, IsValue, IsVariable, AllValues, expr-quiet, Allowed, body-quiet, triggered-quiet}

-- what two processes write is written by one
one-process : (ps : List Process) → OneDriver ps → (p r : Process) → Member ps p → Member ps r → (n : ℕ) → Member (targets_of p) n → Member (targets_of r) n → p ≡ r
one-process [] o p r mp mr n a b = elim mp [ ]
one-process (x ∷ xs) o p r (inl e) (inl f) n a b = e ∙ sym f
one-process (x ∷ xs) o p r (inl e) (inr m) n a b = absurd (o.0 n (subst (λ y. Member (targets_of y) n) e a) r m b)
one-process (x ∷ xs) o p r (inr m) (inl f) n a b = absurd (o.0 n (subst (λ y. Member (targets_of y) n) f b) p m a)
one-process (x ∷ xs) o p r (inr m) (inr k) n a b = one-process xs o.1 p r m k n a b

-- a list of ports and their names
abbrev port_name : Port → Name
port_name p = p.name

listed-names : (ns : List Name) (at : ℕ) → map known_name (map known (listed_ports ns at)) ≡ ns
listed-names [] at = refl
listed-names (n ∷ ns) at = ap (λ xs. n ∷ xs) (listed-names ns (at + 2))

unlisted-none : (names : List Name) (ps : List Port) → ((n : Name) → Member (map port_name ps) n → Member names n) → unlisted names ps ≡ []
unlisted-none names [] h = refl
unlisted-none names (p ∷ ps) h =
    none _ _ (ap (λ b. only_if (not b) p.token) (among-member names p.name (h p.name (inl refl)))) (unlisted-none names ps (λ n m. h n (inr m)))

undeclared-none : (ports : List Port) (ds : List Declared) → ((n : Name) → Member (map known_name (map known ds)) n → Member (map port_name ports) n) → undeclared ports ds ≡ []
undeclared-none ports [] h = refl
undeclared-none ports (d ∷ ds) h =
    none _ _ (ap (λ b. only_if (not b) d.token) (among-member (map port_name ports) d.name (h d.name (inl refl)))) (undeclared-none ports ds (λ n m. h n (inr m)))

-- widths within the limit
width-quiet : (w token : ℕ) → 1 ≤ w → w ≤ 65536 → width_broken (range_of w) token ≡ []
width-quiet w token some few =
    ap (λ k. only_if (nat_lt most_bits k) token) (bits-keep w some) ∙ elim (true_or_false (nat_lt 65536 w)) [
      | inr f ↦ ap (λ b. only_if b token) f
      | inl h ↦ absurd (wide (ltb-true 65536 w h))
    ]
  where
    wide : 65536 < w → ⊥
    wide h = omega (arith, h, few)

signal-quiet : (s : Signal) (driven : Bool) (at : ℕ) → 1 ≤ s.width → s.width ≤ 65536 → signal_broken (declaration_of driven s) at ≡ []
signal-quiet s driven at some few = by_kind s.path s.kind driven
  where
    by_kind : (path : Name) (kind : SignalKind) (driven : Bool) → signal_broken (declaration_of driven (record { path = path; width = s.width; kind = kind })) at ≡ []
    by_kind path InputNet driven = width-quiet s.width _ some few
    by_kind path OutputVar true = width-quiet s.width _ some few
    by_kind path OutputVar false = none _ _ (width-quiet s.width _ some few) refl
    by_kind path Variable true = width-quiet s.width _ some few
    by_kind path Variable false = none _ _ (width-quiet s.width _ some few) refl

-- the bits of the items
items-total : (is js : List VItem) → total (map signal_bits (is ++ js)) ≡ total (map signal_bits is) + total (map signal_bits js)
items-total [] js = omega arith
items-total (i ∷ is) js = let more = items-total is js in omega (arith, more)

declaration-bits : (s : Signal) (driven : Bool) → 1 ≤ s.width → signal_bits (I.Signal (declaration_of driven s)) ≡ s.width
declaration-bits s driven some = by_kind s.path s.kind driven
  where
    by_kind : (path : Name) (kind : SignalKind) (driven : Bool) → signal_bits (I.Signal (declaration_of driven (record { path = path; width = s.width; kind = kind }))) ≡ s.width
    by_kind path InputNet driven = bits-keep s.width some
    by_kind path OutputVar true = bits-keep s.width some
    by_kind path OutputVar false = bits-keep s.width some
    by_kind path Variable true = bits-keep s.width some
    by_kind path Variable false = bits-keep s.width some

declared-total : (driven : ℕ → Bool) (k : ℕ) (ss : List Signal) → ((s : Signal) → Member ss s → 1 ≤ s.width) → total (map signal_bits (declarations driven k ss)) ≡ sum (map (λ (s : Signal). s.width) ss)
declared-total driven k [] some = refl
declared-total driven k (s ∷ ss) some =
    let own = declaration-bits s (driven k) (some s (inl refl)) in
    let more = declared-total driven (suc k) ss (λ x m. some x (inr m)) in
    let whole = sum_by-cons (λ (x : ℕ). x) s.width (map (λ (x : Signal). x.width) ss) in
    omega (arith, own, more, whole)

trigger-total : (b : Bool) → total (map signal_bits (trigger_items b)) ≤ 1
trigger-total true = omega arith
trigger-total false = omega arith

process-total : (ss : List Signal) (ps : List Process) → total (map signal_bits (process_items ss ps)) ≡ 0
process-total ss [] = refl
process-total ss (p ∷ ps) = let more = process-total ss ps in omega (arith, more)

module _ (d : Design) (t : Translatable d) where
  abbrev ss : List Signal
  ss = d.signals

  abbrev ps : List Process
  ps = d.processes

  abbrev name : ℕ → Name
  name n = name_of ss n

  -- the names that the module declares
  abbrev known_all : List Known
  known_all = things (is_driven ps) 0 ss ++ helper_things (has_comb ps)

  names-are : map known_name known_all ≡ map path_of ss ++ map known_name (helper_things (has_comb ps))
  names-are = thing-names (is_driven ps) 0 ss (helper_things (has_comb ps))

  known-distinct : distinct (map known_name known_all) ≡ true
  known-distinct = ap distinct names-are ∙ with_helpers (has_comb ps)
    where
      with_helpers : (b : Bool) → distinct (map path_of ss ++ map known_name (helper_things b)) ≡ true
      with_helpers true = distinct-behind (map path_of ss) trigger t.names (trigger-fresh d t)
      with_helpers false = ap distinct (append-nil (map path_of ss)) ∙ t.names

  -- any scope in which they stand for what they do
  module _ (around : Around) (stands : (n : Name) → around.scope n ≡ found known_all n) where
    -- a signal's name stands for the signal
    signal-stands : (n : ℕ) (s : Signal) → slice_get ss n ≡ Some s → around.scope (name n) ≡ Some (thing_of (is_driven ps n) s)
    signal-stands n s e =
        let index : 0 + n ≡ n = omega arith in
        stands (name n) ∙ ap (found known_all) (ap path_or_nothing e)
        ∙ found-member known_all known-distinct (s.path, thing_of (is_driven ps (0 + n)) s) (thing-member (is_driven ps) 0 ss (helper_things (has_comb ps)) n s e)
        ∙ ap (λ k. Some (thing_of (is_driven ps k) s)) index

    trigger-stands : has_comb ps ≡ true → around.scope trigger ≡ Some trigger_thing
    trigger-stands e =
        stands trigger ∙ found-member known_all known-distinct (trigger, trigger_thing)
        (member-back (things (is_driven ps) 0 ss) (helper_things (has_comb ps)) (trigger, trigger_thing) (subst (λ b. Member (helper_things b) (trigger, trigger_thing)) (sym e) (inl refl)))

    is-value : (n : ℕ) → n < length ss → IsValue ss around (name n)
    is-value n low = let r = get-below ss n low in record { kind = _; width = _; ranged = _; is = signal-stands n r.0 r.1 }

    all-values : (ns : List ℕ) → AllBelow d t ns → AllValues ss around ns
    all-values ns low n m = is-value n (low n m)

    -- what a process writes is no input
    not-input : (p : Process) → Member ps p → (n : ℕ) → Member (targets_of p) n → (s : Signal) → slice_get ss n ≡ Some s → is_input s.kind ≡ false
    not-input p m n k s e = let v = t.targets p m n k in ap (λ (x : Signal). is_input x.kind) (one s v.signal (sym e ∙ v.is_there)) ∙ v.no_input
      where
        one : (a b : Signal) → Some a ≡ Some b → a ≡ b
        one a b e = cc

    -- what no continuous assignment writes is a variable
    not-driven : (p : Process) → Member ps p → (p.kind ≡ Continuous → ⊥) → (n : ℕ) → Member (targets_of p) n → is_driven ps n ≡ false
    not-driven p m other n k =
        elim (true_or_false (is_driven ps n)) [
          | inr f ↦ f
          | inl e ↦ (let r = driver-of d t n e in
              let is : doing r.process.body ≡ SD.assignment n r.value false = ap doing r.body ∙ assign-level SD.Doing stmt_doing n r.value false in
              let own : Member (targets_of r.process) n = subst (λ kind. Member (targets_by kind r.process.body) n) (sym r.kind) (subst (λ (x : SD.Doing). Member x.targets n) (sym is) (inl refl)) in
              let same : p ≡ r.process = one-process ps t.one_driver p r.process m r.member n k own in
              absurd (other (ap (λ (x : Process). x.kind) same ∙ r.kind)))
        ]

    is-variable : (p : Process) → Member ps p → (p.kind ≡ Continuous → ⊥) → (n : ℕ) → Member (targets_of p) n → IsVariable ss around (name n)
    is-variable p m other n k =
        let v = t.targets p m n k in
        record {
          width = _;
          ranged = _;
          is = signal-stands n v.signal v.is_there
              ∙ ap (λ kind. Some (Scopes.value kind (bits_of (range_of v.signal.width)) (Scopes.has_range (range_of v.signal.width))))
              (ap (kind_by v.signal.kind) (not-driven p m other n k) ∙ other-kind v.signal.kind (not-input p m n k v.signal v.is_there));
        }

    differ-comb : Comb ≡ Continuous → ⊥
    differ-comb e = cc

    differ-edges : (es : List EdgeOn) → Edges es ≡ Continuous → ⊥
    differ-edges es e = cc

    -- a continuous assignment drives a net
    driver-quiet : (p : Process) → Member ps p → p.kind ≡ Continuous → (to : ℕ) (value : Expr) → p.body ≡ S.Assign to value false
        → (at : ℕ) → process_broken around (Drive (whole_target (name to)) (lowered_expr ss value)) at ≡ []
    driver-quiet p m k to value e at =
        ap (λ (x : Target). x.broken around (suc at) ++ (x.by_assign around (suc at)
        ++ (rules_of (lowered_expr ss value)).broken around (max (x.width around) ((rules_of (lowered_expr ss value)).width around)) (at + (2 + x.size)))) (target-level Target lval_target (name to))
        ∙ none _ _ (ap (λ o. name_broken o [] (suc at) ++ []) stands-net)
        (none _ _ (ap (λ o. only_if (not (is_net o)) (suc at) ++ []) stands-net) (expr-quiet ss around value (t.exprs p m value listed) (all-values (expr_signals value) reads) _ _))
      where
        is : doing p.body ≡ SD.assignment to value false
        is = ap doing e ∙ assign-level SD.Doing stmt_doing to value false

        u : UsesSignals d t (doing p.body)
        u = uses-signals d t p m

        reads : AllBelow d t (expr_signals value)
        reads = subst (λ (x : SD.Doing). AllBelow d t x.reads) is u.reads

        low : to < length ss
        low = subst (λ (x : SD.Doing). AllBelow d t x.targets) is u.targets to (inl refl)

        own : Member (targets_of p) to
        own = subst (λ kind. Member (targets_by kind p.body) to) (sym k) (subst (λ (x : SD.Doing). Member x.targets to) (sym is) (inl refl))

        driven : is_driven ps to ≡ true
        driven = member-any (λ x. drives x to) ps p m ((λ i. drives_by (k i) (e i) to) ∙ ap (drives_in to) (assign-out to value false) ∙ eq-eqb to to refl)

        listed : Member (inside p.body).exprs value
        listed = subst (λ xs. Member xs value) (sym (ap (λ s. (inside s).exprs) e ∙ ap (λ (x : Inside). x.exprs) (assign-level Inside stmt_inside to value false))) (inl refl)

        thing : (s : Signal) → slice_get ss to ≡ Some s → around.scope (name to) ≡ Some (Scopes.value Scopes.net (bits_of (range_of s.width)) (Scopes.has_range (range_of s.width)))
        thing s is_there =
            signal-stands to s is_there
            ∙ ap (λ kind. Some (Scopes.value kind (bits_of (range_of s.width)) (Scopes.has_range (range_of s.width))))
            (ap (kind_by s.kind) driven ∙ driven-kind s.kind (not-input p m to own s is_there))

        stands-net : around.scope (name to) ≡ Some (Scopes.value Scopes.net (bits_of (range_of (get-below ss to low).0.width)) (Scopes.has_range (range_of (get-below ss to low).0.width)))
        stands-net = thing (get-below ss to low).0 (get-below ss to low).1

    -- what stands in procedures is allowed there
    comb-allowed : (p : Process) → Member ps p → p.kind ≡ Comb → KindFits ss Comb p.body → Allowed ss around at_star (doing p.body) (inside p.body).exprs
    comb-allowed p m k fits =
        let u = uses-signals d t p m in record {
          exprs = t.exprs p m;
          reads = all-values (doing p.body).reads u.reads;
          targets = λ n l. record { variable = is-variable p m (λ e. differ-comb (sym k ∙ e)) n (subst (λ kind. Member (targets_by kind p.body) n) (sym k) l); marked = refl };
          later_targets = λ n l. elim (subst (λ ns. Member ns n) fits l) [ ];
        }

    edges-allowed : (p : Process) → Member ps p → (es : List EdgeOn) → p.kind ≡ Edges es → KindFits ss (Edges es) p.body → Allowed ss around at_edges (doing p.body) (inside p.body).exprs
    edges-allowed p m es k fits =
        let u = uses-signals d t p m in record {
          exprs = t.exprs p m;
          reads = all-values (doing p.body).reads u.reads;
          targets = λ n l. elim (subst (λ ns. Member ns n) fits.0 l) [ ];
          later_targets = λ n l. record { variable = is-variable p m (λ e. differ-edges es (sym k ∙ e)) n (subst (λ kind. Member (targets_by kind p.body) n) (sym k) l); marked = refl };
        }

    -- an edge is on a name of one bit
    edges-quiet : (es : List EdgeOn) → ((e : EdgeOn) → Member es e → EdgeFits ss e) → (at : ℕ) → edges_broken around.scope (map (lowered_edge ss) es) at ≡ []
    edges-quiet [] fits at = refl
    edges-quiet (e ∷ es) fits at =
        let f = fits e (inl refl) in
        let one : bits_of (range_of f.0.width) ≡ 1 = ap (λ w. bits_of (range_of w)) f.2 in
        none _ _ (ap (λ o. only_if (not (Rules.is_one_bit o)) at) (signal-stands e.signal f.0 f.1) ∙ ap (λ w. only_if (not (w == 1)) at) one)
        (edges-quiet es (λ x m. fits x (inr m)) (at + 3))

    -- a process breaks no rule
    process-quiet : (p : Process) → Member ps p → (at : ℕ) → process_broken around (lowered_process ss p) at ≡ []
    process-quiet p m at = by_kind p.kind refl (t.kinds p m)
      where
        by_kind : (kind : ProcessKind) → p.kind ≡ kind → KindFits ss kind p.body → process_broken around (process_by ss kind p.body) at ≡ []
        by_kind Continuous k fits =
            ap (λ x. process_broken around x at) (ap (process_by ss Continuous) fits.2 ∙ ap (driver_in ss) (assign-out fits.0 fits.1 false))
            ∙ driver-quiet p m k fits.0 fits.1 fits.2 at
        by_kind Comb k fits =
            let has : has_comb ps ≡ true = member-any (λ (x : Process). is_triggered x.kind) ps p m (ap is_triggered k) in
            (triggered-quiet ss around at_star p.body (record { kind = _; width = _; ranged = _; is = trigger-stands has }) (comb-allowed p m k fits)).broken (at + 3)
        by_kind (Edges es) k fits =
            none _ _ (edges-quiet es fits.2 (at + 4)) ((body-quiet ss around at_edges p.body (edges-allowed p m es k fits)).broken _)

    -- and declares no name
    process-declares : (p : Process) → Member ps p → (at : ℕ) → declared_by (I.Process (lowered_process ss p)) at ≡ []
    process-declares p m at = by_kind p.kind refl (t.kinds p m)
      where
        by_kind : (kind : ProcessKind) → p.kind ≡ kind → KindFits ss kind p.body → declared_by (I.Process (process_by ss kind p.body)) at ≡ []
        by_kind Continuous k fits =
            ap (λ x. declared_by (I.Process x) at) (ap (process_by ss Continuous) fits.2 ∙ ap (driver_in ss) (assign-out fits.0 fits.1 false))
        by_kind Comb k fits =
            let has : has_comb ps ≡ true = member-any (λ (x : Process). is_triggered x.kind) ps p m (ap is_triggered k) in
            (triggered-quiet ss around at_star p.body (record { kind = _; width = _; ranged = _; is = trigger-stands has }) (comb-allowed p m k fits)).blocks _
        by_kind (Edges es) k fits = (body-quiet ss around at_edges p.body (edges-allowed p m es k fits)).blocks _

    processes-quiet : (ms : List VModule) (m : VModule) (qs : List Process) → ((p : Process) → Member qs p → Member ps p) → (at : ℕ) → items_broken ms m around (process_items ss qs) at ≡ []
    processes-quiet ms m [] among at = refl
    processes-quiet ms m (p ∷ qs) among at = none _ _ (process-quiet p (among p (inl refl)) at) (processes-quiet ms m qs (λ x l. among x (inr l)) _)

    processes-declare : (qs : List Process) → ((p : Process) → Member qs p → Member ps p) → (at : ℕ) → declared_in (process_items ss qs) at ≡ []
    processes-declare [] among at = refl
    processes-declare (p ∷ qs) among at = none _ _ (process-declares p (among p (inl refl)) at) (processes-declare qs (λ x l. among x (inr l)) _)

    trigger-quiet : (ms : List VModule) (m : VModule) (b : Bool) → has_comb ps ≡ b → (at : ℕ) → items_broken ms m around (trigger_items b ++ process_items ss ps) at ≡ []
    trigger-quiet ms m false e at = processes-quiet ms m ps (λ p l. l) at
    trigger-quiet ms m true e at =
        let value_at = at + item_size (I.Signal (V.Reg None trigger None)) in
        none _ _ (ap (λ o. initial_broken o 1 value_at) (trigger-stands e)) (processes-quiet ms m ps (λ p l. l) (value_at + 5))

    items-quiet : (ms : List VModule) (m : VModule) (driven : ℕ → Bool) (k : ℕ) (xs : List Signal) → ((s : Signal) → Member xs s → 1 ≤ s.width) → ((s : Signal) → Member xs s → s.width ≤ 65536)
        → (at : ℕ) → items_broken ms m around (declarations driven k xs ++ (trigger_items (has_comb ps) ++ process_items ss ps)) at ≡ []
    items-quiet ms m driven k [] some few at = trigger-quiet ms m (has_comb ps) refl at
    items-quiet ms m driven k (s ∷ xs) some few at =
        none _ _ (signal-quiet s (driven k) at (some s (inl refl)) (few s (inl refl))) (items-quiet ms m driven (suc k) xs (λ x l. some x (inr l)) (λ x l. few x (inr l)) _)

    trigger-declared : (b : Bool) (at : ℕ) → map known (declared_in (trigger_items b ++ process_items ss ps) at) ≡ helper_things b
    trigger-declared false at = ap (map known) (processes-declare ps (λ p l. l) at)
    trigger-declared true at = ap (λ xs. (trigger, trigger_thing) ∷ map known xs) (processes-declare ps (λ p l. l) _)

    items-declared : (driven : ℕ → Bool) (k : ℕ) (xs : List Signal) (at : ℕ)
        → map known (declared_in (declarations driven k xs ++ (trigger_items (has_comb ps) ++ process_items ss ps)) at) ≡ things driven k xs ++ helper_things (has_comb ps)
    items-declared driven k [] at = trigger-declared (has_comb ps) at
    items-declared driven k (s ∷ xs) at = λ i. declared-known s (driven k) at i ∷ items-declared driven (suc k) xs (at + item_size (I.Signal (declaration_of (driven k) s))) i

  -- a scope that has the names, by which the names of the module are known
  abbrev plain : Around
  plain = record { scope = found known_all; leads_back = λ f. false }

  declared-are : (at : ℕ) → map known (declared_in (lowered_items ss ps) at) ≡ known_all
  declared-are at = ap (λ is. map known (declared_in is at)) (in-three ss ps) ∙ items-declared plain (λ n. refl) (is_driven ps) 0 ss at

  abbrev top : VModule
  top = lowered_module d

  module-quiet : (ms : List VModule) (at : ℕ) → module_broken ms top at ≡ []
  module-quiet ms at =
      none _ _ (repeated-none [] list (ap distinct (listed-names top.ports (at + 3)) ∙ distinct-filter (λ s. is_port s.kind) ss t.names) (λ n l k. elim l [ ]))
      (none _ _ (undeclared-none ports list (λ n l. subst (λ ns. Member ns n) (listed-names top.ports (at + 3) ∙ sym (all-ports ss ps first)) l))
      (none _ _ (unlisted-none top.ports ports (λ n l. subst (λ ns. Member ns n) (all-ports ss ps first) l))
      (none _ _ (repeated-none [] own (ap (λ ks. distinct (map known_name ks)) (declared-are first) ∙ known-distinct) (λ n l k. elim l [ ]))
      (ap (λ is. items_broken ms top around is first) (in-three ss ps) ∙ items-quiet around stands ms top (is_driven ps) 0 ss t.some_bits t.few_bits first))))
    where
      first : ℕ
      first = at + (3 + ports_size top.ports)

      own : List Declared
      own = declared_in top.items first

      ports : List Port
      ports = ports_of top.items first

      list : List Declared
      list = listed_ports top.ports (at + 3)

      around : Around
      around = record { scope = Scopes.inside own nowhere; leads_back = λ f. false }

      stands : (n : Name) → around.scope n ≡ found known_all n
      stands n = inside-found own n ∙ ap (λ ks. found ks n) (declared-are first)

  pub keeps : Keeps (lowered d)
  keeps = none _ _ refl (none _ _ (module-quiet (lowered d).modules 0) refl)

  items-are : items_named (lowered d).modules d.top ≡ lowered_items ss ps
  items-are = pick_true (bytes_eq d.top d.top) _ _ (same_bytes d.top)

  no-instances : instantiated (items_named (lowered d).modules d.top) ≡ []
  no-instances = ap instantiated items-are ∙ all-instances ss ps

  few-bits : total (map signal_bits (items_named (lowered d).modules d.top)) ≤ sum (map (λ (s : Signal). s.width) ss) + 1
  few-bits =
      let is = ap (λ xs. total (map signal_bits xs)) (items-are ∙ in-three ss ps) in
      let split = items-total (declarations (is_driven ps) 0 ss) (trigger_items (has_comb ps) ++ process_items ss ps) in
      let behind = items-total (trigger_items (has_comb ps)) (process_items ss ps) in
      let signals = declared-total (is_driven ps) 0 ss t.some_bits in
      let one = trigger-total (has_comb ps) in
      let processes = process-total ss ps in
      omega (arith, is, split, behind, signals, one, processes)

  pub fits-top : FitsTop (lowered d) d.top
  fits-top = record {
    present = or_left _ _ (same_bytes d.top);
    instances = (let e = ap (λ ns. total (map (λ k. suc (instances_below 0 (lowered d).modules k)) ns)) no-instances in omega (arith, e));
    bits =
        (let e = ap (λ ns. total (map (bits_below 0 (lowered d).modules) ns)) no-instances in
        let own = few-bits in
        let all = t.all_bits in
        omega (arith, e, own, all));
  }
