-- A target that simulates its source has the source's traces, lifted.
use Rattle.std.proofs.Common.{◌≡◌, ◌⊎◌, Bool, true, false, cond, List, [], ◌∷◌, map, Some, None, refl, sym, ap, ◌∙◌, inl, inr}
use Rattle.std.specs.List.{AllZip}
use Rattle.b4_core.specs.declared.bit.Bit4.{Bit4}
use Rattle.row_machine.specs.Valuation.{Place, Valuation, Changes, Member, has, changed, only_if, NoneWrites}
use Rattle.row_machine.specs.Machine.{EdgeProcess, Machine, Started, at_zero, base_of, after_edges}
use Rattle.row_machine.specs.Settle.{Settles, ends, goes_on, woken}
use Rattle.row_machine.specs.Trace.{RowStep, Trace, done, row, HasTrace}
use Rattle.row_machine.specs.Order.{Sound}
use Rattle.row_machine.specs.Agreement.{Map, lifted, Typed, TypedMachine, Overwritten, EdgeTwin, Simulates, SameRow, TracesAgree}
use Rattle.row_machine.proofs.Writes.{Within, unwritten, written, writer}
use Rattle.row_machine.proofs.Told.{of_process, only_if-none, only_if-same}
use Rattle.row_machine.proofs.Types.{base_typed, after_edges_typed, settled_typed}
use Rattle.row_machine.proofs.Agreement.{lifted_image, lifted_extra, Matched, SameBase, matched_woken, adds_alike, settled_alike}
use Rattle.row_machine.proofs.Traces.{has_trace, traces_alike}

abbrev of_edge : EdgeProcess → List Place
of_edge p = p.writes

-- what an edge process appends if it runs
abbrev edge_told : Valuation → Valuation → EdgeProcess → Changes
edge_told last w p = only_if (p.runs last w) (p.updates w)

edges_within : (d : Machine) → Sound d → (last w : Valuation) → Within of_edge (edge_told last w) d.edges
edges_within d sound last w p m q n = only_if-none (p.runs last w) (p.updates w) q (sound.edges_within p m w q n)

choose : {O : Type 0} (a a' : Bool) (x x' y y' : Bit4) → a' ≡ a → (a ≡ true → x' ≡ x) → (a ≡ false → (y' ≡ y) ⊎ O) → (cond a' x' y' ≡ cond a x y) ⊎ O
choose true a' x x' y y' ea first second = inl ((λ i. cond (ea i) x' y') ∙ first refl)
choose false a' x x' y y' ea first second = elim (second refl) [ inl e ↦ inl ((λ i. cond (ea i) x' y') ∙ e) | inr o ↦ inr o ]

module _ (m : Map) (d e : Machine) (simulates : Simulates m d e) (typed : TypedMachine m d)
    (sound_d : Sound d) (sound_e : Sound e) where
  -- what the bits hold by themselves is alike, but for bits that are written anyway
  record SameHeld (now now' : Valuation) : Type 0 where
    pub images : (q q' : Place) → m.origin q' ≡ Some q → has d.inputs q ≡ false → (now' q' ≡ now q) ⊎ Overwritten m d q
    pub others : (q' : Place) → m.origin q' ≡ None → NoneWrites of_process e.combs q' → now' q' ≡ e.start q'

  -- the same edge processes run from here
  abbrev SameEdges : Valuation → Valuation → Type 0
  SameEdges last last' = (p t : EdgeProcess) → EdgeTwin m d e p t → (w : Valuation) → Typed m w → t.runs last' (lifted m w) ≡ p.runs last w

  same_base : (r r' now now' : Valuation) → SameRow m d r r' → SameHeld now now' → SameBase m d e simulates sound_d sound_e (base_of d r now) (base_of e r' now')
  same_base r r' now now' rows nows = record {
    images = λ q q' o.
        choose (has d.inputs q) (has e.inputs q') (r q) (r' q') (now q) (now' q') (simulates.inputs.images q q' o) (rows.images q q' o) (nows.images q q' o);
    others = λ q' o n. (λ i. cond (simulates.inputs.no_more q' o i) (r' q') (now' q')) ∙ nows.others q' o n;
  }

  -- a lifted valuation holds what the source's does
  held_lifted : (v : Valuation) → Typed m v → SameHeld v (lifted m v)
  held_lifted v at_v = record {
    images = λ q q' o i. inl (lifted_image m v q q' o);
    others = λ q' o n. lifted_extra m v q' o ∙ simulates.unwritten q' o n v at_v;
  }

  edges_alike : (last last' w : Valuation) → Typed m w → SameEdges last last' → (q q' : Place) → m.origin q' ≡ Some q → after_edges e last' (lifted m w) q' ≡ after_edges d last w q
  edges_alike last last' w at_w same q q' o =
      elim (writer of_edge d.edges q) [
        | inl p ↦ (let t = simulates.edge_twin p.0 p.1 in at_writer p.0 t.0 p.1 t.1 t.2 p.2)
        | inr n ↦
            unwritten of_edge (edge_told last' (lifted m w)) e.edges (edges_within e sound_e last' (lifted m w)) (lifted m w) q' (none n)
            ∙ lifted_image m w q q' o
            ∙ sym (unwritten of_edge (edge_told last w) d.edges (edges_within d sound_d last w) w q n)
      ]
    where
      none : NoneWrites of_edge d.edges q → NoneWrites of_edge e.edges q'
      none n t mt = let p = simulates.edge_source t mt in p.2.writes.images q q' o ∙ n p.0 p.1

      at_writer : (p t : EdgeProcess) → Member d.edges p → Member e.edges t → EdgeTwin m d e p t → has p.writes q ≡ true → after_edges e last' (lifted m w) q' ≡ after_edges d last w q
      at_writer p t mp mt twin h =
          written of_edge (edge_told last' (lifted m w)) e.edges (edges_within e sound_e last' (lifted m w)) sound_e.edges_one_writer (lifted m w) t mt q' (twin.writes.images q q' o ∙ h)
          ∙ (λ i. changed (only_if (same p t twin w at_w i) (t.updates (lifted m w)) q') (lifted_image m w q q' o i))
          ∙ ap (λ c. changed c (w q)) (only_if-same (p.runs last w) (t.updates (lifted m w)) (p.updates w) q' q (twin.updates w at_w q q' o h))
          ∙ sym (written of_edge (edge_told last w) d.edges (edges_within d sound_d last w) sound_d.edges_one_writer w p mp q h)

  -- no edge process writes a bit that is no image
  edges_leave : (last' w : Valuation) (q' : Place) → m.origin q' ≡ None → after_edges e last' (lifted m w) q' ≡ lifted m w q'
  edges_leave last' w q' o =
      unwritten of_edge (edge_told last' (lifted m w)) e.edges (edges_within e sound_e last' (lifted m w)) (lifted m w) q' (λ t mt. let p = simulates.edge_source t mt in p.2.writes.no_more q' o)

  held_after_edges : (last last' w : Valuation) → Typed m w → SameEdges last last' → SameHeld (after_edges d last w) (after_edges e last' (lifted m w))
  held_after_edges last last' w at_w same = record {
    images = λ q q' o i. inl (edges_alike last last' w at_w same q q' o);
    others = λ q' o n. edges_leave last' w q' o ∙ (held_lifted w at_w).others q' o n;
  }

  abbrev Alike : Started → Started → Type 0
  Alike s s' = Matched m d e simulates sound_d sound_e s s'

  -- where the source's settling ends, the target's does
  abbrev Settling : Valuation → Started → Started → Valuation → Type 0
  Settling base' s' t v = (t' : Started) × Settles e base' s' t' (lifted m v) × Alike t t' × Typed m v

  settling : (base base' : Valuation) → Typed m base → SameBase m d e simulates sound_d sound_e base base' → {s t : Started} {v : Valuation} → Settles d base s t v → (s' : Started) → Alike s s' → Settling base' s' t v
  settling base base' at_base bases (ends {s = s} {v = v} settled over) s' h =
      let at_v = settled_typed m d typed sound_d s base v at_base settled in (
        s',
        ends (settled_alike m d e simulates sound_d sound_e s s' base base' v at_v h bases settled)
            (adds_alike m d e simulates sound_d sound_e s s' v at_v h ∙ over),
        h,
        at_v,
      )
  settling base base' at_base bases (goes_on {s = s} {v = v} settled more rest) s' h =
      let at_v = settled_typed m d typed sound_d s base v at_base settled in
      let next = settling base base' at_base bases rest (woken e (lifted m v) s') (matched_woken m d e simulates sound_d sound_e s s' v at_v h) in (
        next.0,
        goes_on (settled_alike m d e simulates sound_d sound_e s s' base base' v at_v h bases settled)
            (adds_alike m d e simulates sound_d sound_e s s' v at_v h ∙ more) next.1,
        next.2,
        next.3,
      )

  abbrev Stepping : Valuation → Valuation → Valuation → Started → Started → Valuation → Type 0
  Stepping r' last' held' s' t v = (t' : Started) × RowStep e r' last' held' s' t' (lifted m v) × Alike t t' × Typed m v

  step : (r r' last last' held held' v : Valuation) (s s' t : Started) → SameRow m d r r' → Typed m held → SameHeld held held' → SameEdges last last' → Alike s s' → RowStep d r last held s t v → Stepping r' last' held' s' t v
  step r r' last last' held held' v s s' t rows at_held helds edges h a =
      let first = settling (base_of d r held) (base_of e r' held') (base_typed m d typed r held rows.typed at_held) (same_base r r' held held' rows helds) a.inputs_settle s' h in
      let now = after_edges d last a.quiet in
      let now' = after_edges e last' (lifted m a.quiet) in
      let second = settling (base_of d r now) (base_of e r' now')
      (base_typed m d typed r now rows.typed (after_edges_typed m d typed last a.quiet first.3))
      (same_base r r' now now' rows (held_after_edges last last' a.quiet first.3 edges))
      a.updates_settle first.0 first.2 in
      (second.0, record { quiet = lifted m a.quiet; started = first.0; inputs_settle = first.1; updates_settle = second.1 }, second.2, second.3)

  traces : {last held : Valuation} {s : Started} {rows vs : List Valuation} → Trace d last held s rows vs
      → (rows' : List Valuation) (last' held' : Valuation) (s' : Started) → AllZip (SameRow m d) rows rows' → Typed m held → SameHeld held held' → SameEdges last last' → Alike s s'
      → Trace e last' held' s' rows' (map (lifted m) vs)
  traces done [] last' held' s' rows at_held helds edges h = done
  traces done (r' ∷ rows') last' held' s' rows at_held helds edges h = absurd rows
  traces (row a rest) [] last' held' s' rows at_held helds edges h = absurd rows
  traces (row {r = r} {last = last} {held = held} {v = v} {s = s} {t = t} a rest) (r' ∷ rows') last' held' s' rows at_held helds edges h =
      let one = step r r' last last' held held' v s s' t rows.0 at_held helds edges h a in
      row one.1
      (traces rest rows' (lifted m v) (lifted m v) one.0 rows.1 one.3 (held_lifted v one.3) (λ p u twin w at_w. twin.later v w one.3 at_w) one.2)

  forward : (rows rows' : List Valuation) → AllZip (SameRow m d) rows rows' → (vs : List Valuation) → HasTrace d rows vs → HasTrace e rows' (map (lifted m) vs)
  forward rows rows' same vs trace =
      traces trace rows' e.initial e.start at_zero same typed.start (record { images = simulates.start; others = λ q' o n. refl }) (λ p t twin w at_w. twin.first w at_w)
      (record {
        twins = λ p t mp mt twin. twin.from_zero;
        copies = λ t mt copy. copy.from_zero;
        from_zero = λ p mp z. z;
      })

  pub traces_agree : (rows rows' : List Valuation) → AllZip (SameRow m d) rows rows' → TracesAgree m d e rows rows'
  traces_agree rows rows' same = record {
    forward = forward rows rows' same;
    back = λ us trace.
        let own = has_trace d sound_d rows d.initial d.start at_zero in
        (own.0, own.1, traces_alike e sound_e (forward rows rows' same own.0 own.1) trace);
  }
