-- The combinational processes and the edge processes, collected one by one.
use Rattle.std.proofs.Common.{◌≡◌, ℕ, ◌+◌, ◌<◌, ◌≤◌, true, false, cond, List, [], ◌∷◌, ◌++◌, length, take, map, flat_map, slice_index, Some, None, slice_get, refl, sym, ap, ◌∙◌, subst, arith}
use Rattle.std.proofs.lemmas.List.{append-nil, length-map}
use Rattle.std.proofs.lemmas.Option.{get_or_from_slice_get}
use Rattle.b4_core.specs.declared.bit.Bit4.{Bit4}
use Rattle.row_machine.specs.Machine as M
use Rattle.row_machine.specs.Settle.{differs}
use Rattle.round_runner.proofs.Elements.{element}
use Rattle.round_runner.specs.Stores.{holding, widths}
use Rattle.v_tree.specs.declared.statements.VBranch.{VBranch}
use Rattle.v_meaning.specs.Scopes.{Scope}
use Rattle.v_meaning.specs.Statements.{doing_of}
use Rattle.v_meaning.specs.Modules.{Process, EdgeOn, always_on, on_change, on_edges, parts, scope_of}
use Rattle.v_meaning.specs.Machine as V
use Rattle.v_modules.specs.Tables.{items_of}
use Rattle.v_modules.specs.declared.table.Table.{Table}
use Rattle.v_stores.specs.Waits.{is_named, named_places}
use Rattle.v_processes.specs.declared.process.Does.{Does}
use Rattle.v_processes.specs.declared.process.Does.TheVariants as D
use Rattle.v_processes.specs.declared.process.Proc.{Proc}
use Rattle.v_processes.specs.Processes.{does_in, process_at, items_at, edge_of}
use Rattle.v_steps.proofs.Instances.{process-by-table}
use Rattle.v_zero.specs.Laws.{TriggeredByListed}
use Rattle.v_zero.specs.Zero.{Listed}
use Rattle.v_zero.proofs.Listing.{names-listed}
use Rattle.cycle_dst.specs.declared.combs.Comb.{Comb}
use Rattle.cycle_dst.specs.declared.ground.Ground.{Ground}
use Rattle.cycle_dst.specs.Circuits.{CombMade, CombOf, EdgeOf, EdgeIs, comb_at, edge_at, edges_in, waits_for_edges}
use Rattle.cycle_dst.specs.Grounds.{Below, CombsOf, EdgesOf, IsGround, Made, NamesListed, StarMade, StarOf, combs_among, edges_among, own_of, widths_in, machine_in}
use Rattle.cycle_dst.specs.Pairs.{Pairs}
use Rattle.cycle_dst.proofs.Kept.{always-made, no-comb, star-made, edge-made}
use Rattle.cycle_dst.proofs.Pairs.{pairs-push, flat-next, flat-all, flat-map}
use Rattle.cycle_dst.proofs.Running.{comb-of, edge-of}

pub below-more : (marks : List ℕ) (n m : ℕ) → Below marks n → n ≤ m → Below marks m
below-more marks n m h more = record { below = λ k l. (let b = h.below k l in omega (arith, b, more)) }

pub zeros-below : (marks : List ℕ) (n : ℕ) → ((m : ℕ) → m < length marks → slice_index marks m ≡ 0) → Below marks (n + 1)
zeros-below marks n h = record { below = λ k l. (let z = h k l in omega (arith, z)) }

-- the one process at a place
same-at : (ps : List Proc) (k : ℕ) (p q : Proc) → slice_get ps k ≡ Some p → slice_get ps k ≡ Some q → p ≡ q
same-at ps k p q here at = cc

pub made-always : (g : Ground) (k : ℕ) (p : Proc) (c : Comb) → slice_get g.procs.now k ≡ Some p → ((sc : Scope) → (does_in p.does sc).starts ≡ always_on)
    → c.process ≡ k → c.from_zero ≡ true → c.waits ≡ [] → Made g k (Some c)
made-always g k p c here starts at zero none = record {
  made = λ q there.
      let same = same-at g.procs.now k p q here there in
      subst (λ (x : Proc). CombMade g.design.now g.top.now x k (Some c) (comb_at g.design.now g.top.now x)) same
      (always-made g.design.now g.top.now p k c (starts (scope_of p.first (items_at g.design.now.modules p.of))) at zero none);
}

pub made-none : (g : Ground) (k : ℕ) (p : Proc) (es : List EdgeOn) → slice_get g.procs.now k ≡ Some p → ((sc : Scope) → (does_in p.does sc).starts ≡ on_edges es) → Made g k None
made-none g k p es here starts = record {
  made = λ q there.
      let same = same-at g.procs.now k p q here there in
      subst (λ (x : Proc). CombMade g.design.now g.top.now x k None (comb_at g.design.now g.top.now x)) same
      (no-comb g.design.now g.top.now p k es (starts (scope_of p.first (items_at g.design.now.modules p.of))));
}

pub made-star : (g : Ground) (k : ℕ) (p : Proc) (c : Comb) → slice_get g.procs.now k ≡ Some p → ((sc : Scope) → (does_in p.does sc).starts ≡ on_change) → StarMade g k c → Made g k (Some c)
made-star g k p c here starts star = record {
  made = λ q there.
      let same = same-at g.procs.now k p q here there in
      star.made q there (ap (λ (x : Proc). (process_at g.design.now.modules x).starts) (sym same) ∙ starts (scope_of p.first (items_at g.design.now.modules p.of)));
}

-- an `always @*` with a body
pub star-of : (g : Ground) (k : ℕ) (p : Proc) (body : VBranch) → slice_get g.procs.now k ≡ Some p
    → ((sc : Scope) → does_in p.does sc ≡ record { starts = on_change; scope = sc; does = doing_of body }) → StarOf g k body
star-of g k p body here does = record {
  does = λ q there sc. ap (λ (x : Proc). does_in x.does sc) (sym (same-at g.procs.now k p q here there)) ∙ does sc;
}

-- its names
pub names-of-star : (g : Ground) (k : ℕ) (p : Proc) (t : Table) (body : VBranch) (mark : ℕ) (named marks names : List ℕ) → IsGround g → slice_get g.procs.now k ≡ Some p → slice_get g.tables.now p.of ≡ Some t
    → StarOf g k body → named ≡ (doing_of body).names (scope_of p.first (items_of t)) → length marks ≡ length g.initial.now → Listed mark named marks names → NamesListed g k names
names-of-star g k p t body mark named marks names ground here table star is long listed = record {
  listed = λ q there m few.
      let same = same-at g.procs.now k p q here there in
      let doing : does_in p.does (scope_of p.first (items_of t)) ≡ record { starts = on_change; scope = scope_of p.first (items_of t); does = doing_of body } = star.does p here (scope_of p.first (items_of t)) in
      let by_table = process-by-table g.tables.now g.design.now.modules p t ground.tables table in
      let names_are : named ≡ (process_at g.design.now.modules q).does.names (process_at g.design.now.modules q).scope
      = is ∙ ap (λ (x : Process). x.does.names x.scope) (sym doing ∙ by_table ∙ ap (process_at g.design.now.modules) same) in
      listed.same m (few-marks m few) ∙ ap (λ ns. is_named ns m) names_are;
}
  where
    few-marks : (m : ℕ) → m < length (parts g.design.now.modules g.top.now).signals → m < length marks
    few-marks m few =
        let wide = ap length ground.initial.shape in
        let lists = length-map g.initial.now (λ (v : List Bit4). length v) in
        let sizes = length-map (parts g.design.now.modules g.top.now).signals V.size in
        omega (arith, few, wide, lists, sizes, long)

-- what is kept of one
pub star-kept : (g : Ground) (k : ℕ) (c : Comb) (names : List ℕ) → IsGround g → TriggeredByListed → NamesListed g k names → c.process ≡ k
    → c.from_zero ≡ differs (named_places names (widths g.initial.now)) (holding g.given.now) (holding g.initial.now) → c.waits ≡ cond c.from_zero [] names → StarMade g k c
star-kept g k c names ground triggered listed at zero waits = record {
  made = λ p there starts.
      let d = parts g.design.now.modules g.top.now in
      let q = process_at g.design.now.modules p in
      star-made g.design.now g.top.now p k c names starts at
      (zero ∙ sym (triggered (own_of g) d q names g.given.now g.initial.now (listed.listed p there) ground.given ground.initial)) waits
      (names-listed (own_of g) d q names (listed.listed p there));
}

-- one process more
module _ (g : Ground) (ground : IsGround g) where
  among-at : (k : ℕ) (p : Proc) → k < length g.procs.now → slice_get g.procs.now k ≡ Some p → combs_among g (take (k + 1) g.procs.now) ≡ combs_among g (take k g.procs.now) ++ comb_at g.design.now g.top.now p
  among-at k p below at = flat-next (comb_at g.design.now g.top.now) g.procs.now k p below (sym (get_or_from_slice_get g.procs.now k p p at))

  pub comb-more : (k : ℕ) (cs : List Comb) (c : Comb) → k < length g.procs.now → Made g k (Some c) → CombsOf g cs (combs_among g (take k g.procs.now)) → CombsOf g (cs ++ c ∷ []) (combs_among g (take (k + 1) g.procs.now))
  comb-more k cs c below made pairs =
      let p = element g.procs.now k below in
      let m = made.made p.0 p.1 in
      let R = CombOf (widths_in g) g.tables.now g.procs.now in
      let is = comb-of g.design.now g.top.now (widths_in g) g.tables.now g.procs.now p.0 c m.1.0 ground.tables refl (ap (slice_get g.procs.now) m.0 ∙ p.1) m.1.2 in
      subst (Pairs R (cs ++ c ∷ [])) (sym (among-at k p.0 below p.1 ∙ ap (λ l. combs_among g (take k g.procs.now) ++ l) m.1.1))
      (pairs-push R cs (combs_among g (take k g.procs.now)) c m.1.0 pairs is)

  pub comb-none : (k : ℕ) (cs : List Comb) → k < length g.procs.now → Made g k None → CombsOf g cs (combs_among g (take k g.procs.now)) → CombsOf g cs (combs_among g (take (k + 1) g.procs.now))
  comb-none k cs below made pairs =
      let p = element g.procs.now k below in
      subst (Pairs (CombOf (widths_in g) g.tables.now g.procs.now) cs)
      (sym (among-at k p.0 below p.1 ∙ ap (λ l. combs_among g (take k g.procs.now) ++ l) (made.made p.0 p.1) ∙ append-nil (combs_among g (take k g.procs.now)))) pairs

  pub combs-all : (k : ℕ) (cs : List Comb) → length g.procs.now ≤ k → CombsOf g cs (combs_among g (take k g.procs.now)) → CombsOf g cs (machine_in g).combs
  combs-all k cs end pairs =
      subst (Pairs (CombOf (widths_in g) g.tables.now g.procs.now) cs)
      (flat-all (comb_at g.design.now g.top.now) g.procs.now k end
      ∙ sym (flat-map (λ (p : Process). V.comb_of (own_of g) (parts g.design.now.modules g.top.now) p.starts p) (process_at g.design.now.modules) g.procs.now)
      ∙ ap (flat_map (λ (p : Process). V.comb_of (own_of g) (parts g.design.now.modules g.top.now) p.starts p)) ground.processes)
      pairs

  edge-among-at : (k : ℕ) (p : Proc) → k < length g.procs.now → slice_get g.procs.now k ≡ Some p → edges_among g (take (k + 1) g.procs.now) ≡ edges_among g (take k g.procs.now) ++ edge_at g.design.now g.top.now p
  edge-among-at k p below here = flat-next (edge_at g.design.now g.top.now) g.procs.now k p below (sym (get_or_from_slice_get g.procs.now k p p here))

  -- a process that runs at edges, or not
  some-edge : (p : Proc) → waits_for_edges p.does ≡ true → (m : M.EdgeProcess) × (edge_at g.design.now g.top.now p ≡ m ∷ []) × EdgeIs g.design.now p m
  some-edge p h = by p.does refl h
    where
      by : (d : Does) → p.does ≡ d → waits_for_edges d ≡ true → (m : M.EdgeProcess) × (edge_at g.design.now g.top.now p ≡ m ∷ []) × EdgeIs g.design.now p m
      by (D.Assign to value) e h = absurd (cc)
      by (D.Star body) e h = absurd (cc)
      by (D.Edges edges body) e h =
          let sc = scope_of p.first (items_at g.design.now.modules p.of) in
          edge-made g.design.now g.top.now p (map edge_of edges) (ap (λ x. (does_in x sc).starts) e) (ap (λ x. map edge_of (edges_in x)) (sym e))
      by (D.Into port value) e h = absurd (cc)
      by (D.From to port) e h = absurd (cc)

  no-edge : (p : Proc) → waits_for_edges p.does ≡ false → edge_at g.design.now g.top.now p ≡ []
  no-edge p h = by p.does refl h
    where
      at : Does → List M.EdgeProcess
      at d = edge_at g.design.now g.top.now (record p { does = d })

      by : (d : Does) → p.does ≡ d → waits_for_edges d ≡ false → edge_at g.design.now g.top.now p ≡ []
      by (D.Assign to value) e h = ap at e
      by (D.Star body) e h = ap at e
      by (D.Edges edges body) e h = absurd (cc)
      by (D.Into port value) e h = ap at e
      by (D.From to port) e h = ap at e

  pub edge-more : (k : ℕ) (ks : List ℕ) (p : Proc) → k < length g.procs.now → slice_get g.procs.now k ≡ Some p → waits_for_edges p.does ≡ true → EdgesOf g ks (edges_among g (take k g.procs.now))
      → EdgesOf g (ks ++ k ∷ []) (edges_among g (take (k + 1) g.procs.now))
  edge-more k ks p below here waits pairs =
      let m = some-edge p waits in
      let R = EdgeOf g.tables.now g.procs.now in
      let is = edge-of g.design.now g.tables.now g.procs.now p k m.0 ground.tables here m.2 in
      subst (Pairs R (ks ++ k ∷ [])) (sym (edge-among-at k p below here ∙ ap (λ l. edges_among g (take k g.procs.now) ++ l) m.1))
      (pairs-push R ks (edges_among g (take k g.procs.now)) k m.0 pairs is)

  pub edge-none : (k : ℕ) (ks : List ℕ) (p : Proc) → k < length g.procs.now → slice_get g.procs.now k ≡ Some p → waits_for_edges p.does ≡ false → EdgesOf g ks (edges_among g (take k g.procs.now))
      → EdgesOf g ks (edges_among g (take (k + 1) g.procs.now))
  edge-none k ks p below here waits pairs =
      subst (Pairs (EdgeOf g.tables.now g.procs.now) ks)
      (sym (edge-among-at k p below here ∙ ap (λ l. edges_among g (take k g.procs.now) ++ l) (no-edge p waits) ∙ append-nil (edges_among g (take k g.procs.now)))) pairs

  pub edges-all : (k : ℕ) (ks : List ℕ) → length g.procs.now ≤ k → EdgesOf g ks (edges_among g (take k g.procs.now)) → EdgesOf g ks (machine_in g).edges
  edges-all k ks end pairs =
      subst (Pairs (EdgeOf g.tables.now g.procs.now) ks)
      (flat-all (edge_at g.design.now g.top.now) g.procs.now k end
      ∙ sym (flat-map (λ (p : Process). V.edge_of_process (own_of g) (parts g.design.now.modules g.top.now) p.starts p) (process_at g.design.now.modules) g.procs.now)
      ∙ ap (flat_map (λ (p : Process). V.edge_of_process (own_of g) (parts g.design.now.modules g.top.now) p.starts p)) ground.processes)
      pairs
