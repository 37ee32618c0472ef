-- What is known of statements holds in each run.
use Rattle.std.proofs.Common.{◌≡◌, ◌⊎◌, inl, inr, ℕ, suc, ◌==◌, Bool, true, false, ◌&&◌, not, List, [], ◌∷◌, ◌++◌, map, flat_map, length, Option, Some, None, refl, ap, sym, ◌∙◌, subst}
use Rattle.std.specs.Prelude.{nat_le, nat_lt, is_some}
use Rattle.std.specs.List.{list_any, list_all}
use Rattle.std.proofs.lemmas.Bool.{not-true, false≢true, and_parts, or_cases, or_left, or_right, eqb-true}
use Rattle.b4_core.specs.declared.bit.Bit4.{Bit4}
use Rattle.row_machine.specs.Valuation.{Place}
use Rattle.sv_types.specs.declared.expression.Expr.{Expr}
use Rattle.sv_types.specs.declared.statement.CaseKind.{CaseKind}
use Rattle.sv_types.specs.declared.statement.Local.{Local}
use Rattle.sv_types.specs.declared.statement.Outcome.TheVariants as O
use Rattle.sv_types.specs.declared.statement.Stmt.{Stmt}
use Rattle.sv_types.specs.declared.statement.Stmt.TheVariants as V
use Rattle.sv_types.specs.declared.statement.CaseItem.{CaseItem}
use Rattle.sv_types.specs.Surroundings.{Around, Sight, Callee, local_number}
use Rattle.sv_types.specs.Meanings.{wide}
use Rattle.sv_types.specs.Expressions.{meaning}
use Rattle.sv_types.specs.Runs as R
use Rattle.sv_types.specs.Runs.{Run, State, ItemRun, is_normal, one_of, idle}
use Rattle.sv_types.specs.Flows as F
use Rattle.sv_types.specs.Flows.{Flow, Flows, covers, covered, uses_of, whole_local}
use Rattle.sv_types.specs.Statements.{Doing, Item, doing, scope, scope_flow, starts, steps, runs, flows, item_runs, marks_of, initial_of, run_or_idle, flow_or_nothing, none_or, in_loop, selecting, looping, counted, uncounted, branching, assigning, calling, jumping, made}
use Rattle.sv_types.proofs.DoingLevels as D
use Rattle.sv_types.proofs.DoingLevels.{item_of, perhaps}
use Rattle.flow_laws.specs.Runs.{Variables, is_beyond, Starts, Conforms, Apart}
use Rattle.flow_laws.specs.Statements.{has_variables, has_width, is_plain, GivesFinals}
use Rattle.flow_laws.proofs.Plain.{AllHang}
use Rattle.flow_laws.proofs.Hanging.{hangs}
use Rattle.flow_laws.proofs.Placing.{AllPlaces, places}
use Rattle.flow_laws.proofs.Running as U
use Rattle.flow_laws.proofs.Branching as B
use Rattle.flow_laws.proofs.Scopes as C
use Rattle.flow_laws.proofs.Scopes.{Part, part_runs, part_flows, ItemPart, item_runs_of, item_flows_of, values_of}
use Rattle.flow_laws.proofs.Blocks as K
use Rattle.flow_laws.proofs.Blocks.{local_runs}
use Rattle.flow_laws.proofs.Naming.{tells}
use Rattle.flow_laws.proofs.Levels as H
use Rattle.flow_laws.proofs.Bounding.{SameSights, bounded-same}
use Rattle.flow_laws.proofs.Leaving.{leaves}
use Rattle.flow_laws.proofs.Loops as L
use Rattle.flow_laws.proofs.Terms.{Each, OrNone, Steps, by-stmt}

all-hang : (es : List Expr) → AllHang (map meaning es)
all-hang [] = tt
all-hang (e ∷ es) = (hangs e, all-hang es)

all-places : (es : List Expr) → AllPlaces (map meaning es)
all-places [] = tt
all-places (e ∷ es) = (places e, all-places es)

scope-runs : (ls : List Local) (ds : List Doing) → runs (starts ls ++ steps ds) ≡ local_runs ls ++ map (λ (d : Doing). d.run) ds
scope-runs [] ds = each ds
  where
    each : (ds : List Doing) → runs (steps ds) ≡ map (λ (d : Doing). d.run) ds
    each [] = refl
    each (d ∷ ds) = ap (λ rs. d.run ∷ rs) (each ds)
scope-runs (l ∷ ls) ds = ap (λ rs. R.start l.number (marks_of l) (initial_of l) ∷ rs) (scope-runs ls ds)

-- what stands for a replaced call: a block whose last statement counts alone
one-last : (x b : Run) (a : Around) (s : State) → U.then_run x (R.in_turn (b ∷ [])) a s ≡ U.then_run x b a s
one-last x b a s = by (is_normal (x a s).outcome) refl
  where
    by : (c : Bool) → is_normal (x a s).outcome ≡ c → one_of c (R.in_turn (b ∷ [])) idle a (x a s) ≡ one_of c b idle a (x a s)
    by true is = ap (λ c. one_of c (λ d u. R.in_turn [] d (b d u)) idle a (x a s)) is
    by false is = refl

abbrev made_flow : List Flows → Flows → Flows
made_flow fs g k = F.and_then (record (F.in_turn fs k) { statements = 0 }) (g k)

abbrev all_bounded : Sight → List Doing → Bool
all_bounded k ds = list_all (λ (d : Doing). d.bounded k) ds

bounded-parts : (k : Sight) (ds es : List Doing) → all_bounded k (ds ++ es) ≡ true → (all_bounded k ds ≡ true) × (all_bounded k es ≡ true)
bounded-parts k [] es h = (refl, h)
bounded-parts k (d ∷ ds) es h =
    let two = and_parts (d.bounded k) (all_bounded k (ds ++ es)) h in
    let rest = bounded-parts k ds es two.1 in
    (ap (λ b. b && all_bounded k ds) two.0 ∙ rest.0, rest.1)

module _ (vars : Variables) where
  -- what is to be shown of a statement, and of what one does
  abbrev Well : Sight → Doing → Type 0
  Well k d = d.bounded k ≡ true → Apart vars k (d.flow k) → Conforms vars k d.run (d.flow k)

  abbrev Claim : Stmt → Type 0
  Claim s = has_variables vars s ≡ true → (k : Sight) → GivesFinals k → Well k (doing s)

  abbrev ItemClaim : CaseItem → Type 0
  ItemClaim i = Claim i.body

  by-level : (s : Stmt) (d : Doing) (k : Sight) → doing s ≡ d → Well k d → Well k (doing s)
  by-level s d k is w = subst (Well k) (sym is) w

  -- statements of a list, each with its flow
  record Parts (k : Sight) (ds : List Doing) : Type 0 where
    pub parts : List (Part vars k)
    pub runs_are : part_runs vars k parts ≡ map (λ (d : Doing). d.run) ds
    pub flows_are : part_flows vars k parts ≡ flows ds

  parts-of : (k : Sight) (ss : List Stmt) → Each Claim ss → list_all (λ b. b) (map (has_variables vars) ss) ≡ true → GivesFinals k → all_bounded k (map doing ss) ≡ true → Apart vars k (F.in_turn (flows (map doing ss)) k) → Parts k (map doing ss)
  parts-of k [] h has finals bounded apart = record { parts = []; runs_are = refl; flows_are = refl }
  parts-of k (s ∷ ss) h has finals bounded apart =
      let two = and_parts (has_variables vars s) (list_all (λ b. b) (map (has_variables vars) ss)) has in
      let f = (doing s).flow k in
      let g = F.in_turn (flows (map doing ss)) k in
      let each = and_parts ((doing s).bounded k) (all_bounded k (map doing ss)) bounded in
      let rest = parts-of k ss h.1 two.1 finals each.1 (C.apart-second vars k f g apart) in
      let here : Part vars k = record { run = (doing s).run; flow = (doing s).flow; conforms = h.0 two.0 k finals each.0 (C.apart-first vars k f g apart) } in record {
        parts = here ∷ rest.parts;
        runs_are = ap (λ rs. (doing s).run ∷ rs) rest.runs_are;
        flows_are = ap (λ fs. (doing s).flow ∷ fs) rest.flows_are;
      }

  -- what keeps away from a block keeps away from its statements
  inner-apart : (k : Sight) (ls : List Local) (f : Flows) → Apart vars k (scope_flow ls f k) → Apart vars k (f k)
  inner-apart k [] f h = h
  inner-apart k (l ∷ ls) f h =
      inner-apart k ls f (K.unset-apart vars k l.number (marks_of l) (initial_of l) (scope_flow ls f k)
      (C.apart-second vars k (F.starting l.number (marks_of l) (initial_of l) k) (F.unset_in l.number (marks_of l) (initial_of l) (scope_flow ls f k)) h))

  scope-well : (k : Sight) (ls : List Local) (ss : List Stmt) → Each Claim ss → list_all (λ b. b) (map (has_variables vars) ss) ≡ true → GivesFinals k → Well k (scope ls (map doing ss))
  scope-well k ls ss h has finals bounded apart =
      let ds = map doing ss in
      let p = parts-of k ss h has finals bounded (inner-apart k ls (F.in_turn (flows ds)) apart) in
      let same_flow = ap (λ (fs : List Flows). scope_flow ls (F.in_turn fs) k) p.flows_are in
      subst (λ (rs : List Run). Conforms vars k (R.in_turn rs) (scope_flow ls (F.in_turn (flows ds)) k)) (sym (scope-runs ls ds))
      (subst (λ (rs : List Run). Conforms vars k (R.in_turn (local_runs ls ++ rs)) (scope_flow ls (F.in_turn (flows ds)) k)) p.runs_are
      (subst (Conforms vars k (R.in_turn (local_runs ls ++ part_runs vars k p.parts))) same_flow
      (K.block-conforms vars k ls p.parts (subst (Apart vars k) (sym same_flow) apart))))

  -- one of two, where the second may be missing
  other-well : (k : Sight) (other : Option Stmt) → OrNone Claim other → H.perhaps_has vars other ≡ true → GivesFinals k → all_bounded k (none_or (perhaps other)) ≡ true → Apart vars k (flow_or_nothing (perhaps other) k) → Conforms vars k (run_or_idle (perhaps other)) (flow_or_nothing (perhaps other) k)
  other-well k None h has finals bounded apart = B.idle-conforms vars k
  other-well k (Some s) h has finals bounded apart = h has k finals (and_parts ((doing s).bounded k) true bounded).0 apart

  -- the items of a `case`
  record ItemParts (k : Sight) (is : List Item) : Type 0 where
    pub parts : List (ItemPart vars k)
    pub values_are : values_of vars k parts ≡ flat_map (λ (i : Item). i.values) is
    pub runs_are : item_runs_of vars k parts ≡ item_runs is
    pub flows_are : item_flows_of vars k parts ≡ map (λ (i : Item). i.does.flow) is

  one-more : (k : Sight) (p : ItemPart vars k) (is : List Item) (i : Item) → i ≡ record { values = p.values; does = i.does } → p.run ≡ i.does.run → p.flow ≡ i.does.flow → ItemParts k is → ItemParts k (i ∷ is)
  one-more k p is i values run flow rest = record {
    parts = p ∷ rest.parts;
    values_are = ap (λ vs. p.values ++ vs) rest.values_are ∙ ap (λ (j : Item). j.values ++ flat_map (λ (x : Item). x.values) is) (sym values);
    runs_are = ap (λ rs. record { values = p.values; run = p.run } ∷ rs) rest.runs_are ∙ ap (λ r. record { values = p.values; run = r } ∷ item_runs is) run
        ∙ ap (λ (j : Item). record { values = j.values; run = i.does.run } ∷ item_runs is) (sym values);
    flows_are = ap (λ fs. p.flow ∷ fs) rest.flows_are ∙ ap (λ (f : Flows). f ∷ map (λ (x : Item). x.does.flow) is) flow;
  }

  items-of : (k : Sight) (is : List CaseItem) (g : Flow) → Each ItemClaim is → list_all (λ b. b) (map (H.item_has vars) is) ≡ true → GivesFinals k → all_bounded k (map (λ (i : Item). i.does) (map item_of is)) ≡ true
      → Apart vars k (F.any_of (map (λ (i : Item). i.does.flow) (map item_of is)) g k)
      → ItemParts k (map item_of is)
  items-of k [] g h has finals bounded apart = record { parts = []; values_are = refl; runs_are = refl; flows_are = refl }
  items-of k (i ∷ is) g h has finals bounded apart =
      let two = and_parts (H.item_has vars i) (list_all (λ b. b) (map (H.item_has vars) is)) has in
      let each = and_parts ((item_of i).does.bounded k) (all_bounded k (map (λ (x : Item). x.does) (map item_of is))) bounded in
      let does = ap (λ (j : Item). j.does) (D.item-of i) in
      let f = (item_of i).does.flow k in
      let rest_flow = F.any_of (map (λ (j : Item). j.does.flow) (map item_of is)) g k in
      let rest = items-of k is g h.1 two.1 finals each.1 (C.apart-second vars k f rest_flow apart) in
      let near : Apart vars k ((doing i.body).flow k) = subst (λ (d : Doing). Apart vars k (d.flow k)) does (C.apart-first vars k f rest_flow apart) in
      let p : ItemPart vars k = record {
        values = map meaning i.values;
        run = (doing i.body).run;
        flow = (doing i.body).flow;
        hang = all-hang i.values;
        conforms = h.0 (sym (H.has-item vars i) ∙ two.0) k finals (sym (ap (λ (d : Doing). d.bounded k) does) ∙ each.0) near;
      } in
      one-more k p (map item_of is) (item_of i) (D.item-of i ∙ ap (λ (d : Doing). record { values = map meaning i.values; does = d }) (sym does)) (ap (λ (d : Doing). d.run) (sym does)) (ap (λ (d : Doing). d.flow) (sym does)) rest

  select-well : (k : Sight) (kind : CaseKind) (on : Expr) (is : List CaseItem) (other : Option Stmt) → Each ItemClaim is → OrNone Claim other → list_all (λ b. b) (map (H.item_has vars) is) ≡ true → H.perhaps_has vars other ≡ true
      → GivesFinals k → Well k (selecting kind (meaning on) (map item_of is) (perhaps other))
  select-well k kind on is other h g has other_has finals bounded apart =
      let items = map item_of is in
      let each = bounded-parts k (map (λ (i : Item). i.does) items) (none_or (perhaps other)) bounded in
      let m = meaning on in
      let rest = flow_or_nothing (perhaps other) k in
      let us = m.reads k ++ F.all_reads (flat_map (λ (i : Item). i.values) items) k in
      let any = F.any_of (map (λ (i : Item). i.does.flow) items) rest k in
      let near = C.apart-second vars k (F.reading us) any apart in
      let p = items-of k is rest h has finals each.0 near in
      let last = other-well k other g other_has finals each.1 (others-apart (map (λ (i : Item). i.does.flow) items) rest near) in
      let c = C.select-conforms vars k kind m p.parts (run_or_idle (perhaps other)) rest (hangs on) last in
      let with_values = subst (λ vs. Conforms vars k (R.select kind m vs (item_runs_of vars k p.parts) (run_or_idle (perhaps other))) (F.and_then (F.reading (m.reads k ++ F.all_reads vs k)) (F.any_of (item_flows_of vars k p.parts) rest k))) p.values_are c in
      let with_runs = subst (λ rs. Conforms vars k (R.select kind m (flat_map (λ (i : Item). i.values) items) rs (run_or_idle (perhaps other))) (F.and_then (F.reading us) (F.any_of (item_flows_of vars k p.parts) rest k))) p.runs_are with_values in
      subst (λ fs. Conforms vars k (R.select kind m (flat_map (λ (i : Item). i.values) items) (item_runs items) (run_or_idle (perhaps other))) (F.and_then (F.reading us) (F.any_of fs rest k))) p.flows_are with_runs
    where
      others-apart : (fs : List Flows) (rest : Flow) → Apart vars k (F.any_of fs rest k) → Apart vars k rest
      others-apart [] rest near = near
      others-apart (f ∷ fs) rest near = others-apart fs rest (C.apart-second vars k (f k) (F.any_of fs rest k) near)

  -- one more statement, or statements that don't count
  counted-well : (k : Sight) (d : Doing) → Well k d → Well k (counted d)
  counted-well k d w bounded apart = B.also-count vars [] k d.run (d.flow k) (suc (d.flow k).statements) (w bounded apart)

  uncounted-well : (k : Sight) (d : Doing) → Well k d → Well k (uncounted d)
  uncounted-well k d w bounded apart = B.also-count vars [] k d.run (d.flow k) 0 (w bounded apart)

  then-assoc : (r : Run) (rs : List Run) (b : Run) (k : Sight) (a : Around) (s : State) → Starts vars k a s → U.then_run r (U.then_run (R.in_turn rs) b) a s ≡ U.then_run (R.in_turn (r ∷ rs)) b a s
  then-assoc r rs b k a s st = by (is_normal (r a s).outcome) refl ∙ ap (λ (u : State). one_of (is_normal u.outcome) b idle a u) (C.turn-is vars r rs k a s st)
    where
      by : (c : Bool) → is_normal (r a s).outcome ≡ c
          → one_of (is_normal (r a s).outcome) (U.then_run (R.in_turn rs) b) idle a (r a s) ≡ one_of (is_normal (U.then_run r (R.in_turn rs) a s).outcome) b idle a (U.then_run r (R.in_turn rs) a s)
      by true is = ap (λ c. one_of c (U.then_run (R.in_turn rs) b) idle a (r a s)) is ∙ ap (λ c. one_of (is_normal (one_of c (R.in_turn rs) idle a (r a s)).outcome) b idle a (one_of c (R.in_turn rs) idle a (r a s))) (sym is)
      by false is =
          ap (λ c. one_of c (U.then_run (R.in_turn rs) b) idle a (r a s)) is ∙ ap (λ c. one_of c b idle a (r a s)) (sym is)
          ∙ ap (λ c. one_of (is_normal (one_of c (R.in_turn rs) idle a (r a s)).outcome) b idle a (one_of c (R.in_turn rs) idle a (r a s))) (sym is)

  made-conforms : (k : Sight) (ls : List Local) (ps : List (Part vars k)) (b : Run) (g : Flows) → Conforms vars k b (g k) → Apart vars k (scope_flow ls (made_flow (part_flows vars k ps) g) k)
      → Conforms vars k (U.then_run (R.in_turn (local_runs ls ++ part_runs vars k ps)) b) (scope_flow ls (made_flow (part_flows vars k ps) g) k)
  made-conforms k [] ps b g c apart =
      let f : Flow = record (F.in_turn (part_flows vars k ps) k) { statements = 0 } in
      let near = C.apart-first vars k f (g k) apart in
      C.pair-conforms vars k (R.in_turn (part_runs vars k ps)) b f (g k) (B.also-count vars [] k (R.in_turn (part_runs vars k ps)) (F.in_turn (part_flows vars k ps) k) 0 (C.turns-conform vars k ps near)) c near
  made-conforms k (l ∷ ls) ps b g c apart =
      let f = F.starting l.number (marks_of l) (initial_of l) k in
      let inner = scope_flow ls (made_flow (part_flows vars k ps) g) k in
      let h = F.unset_in l.number (marks_of l) (initial_of l) inner in
      let r = R.start l.number (marks_of l) (initial_of l) in
      let rs = local_runs ls ++ part_runs vars k ps in
      let rest = made-conforms k ls ps b g c (K.unset-apart vars k l.number (marks_of l) (initial_of l) inner (C.apart-second vars k f h apart)) in
      C.spelled-there vars [] k (U.then_run r (U.then_run (R.in_turn rs) b)) (U.then_run (R.in_turn (r ∷ rs)) b) (F.and_then f h) (λ a s st. then-assoc r rs b k a s st)
      (C.pair-conforms vars k r (U.then_run (R.in_turn rs) b) f h (C.start-conforms vars k l.number (marks_of l) (initial_of l) (K.initial-hangs l))
      (K.unset-conforms vars k (U.then_run (R.in_turn rs) b) l.number (marks_of l) (initial_of l) inner rest) (C.apart-first vars k f h apart))

  made-well : (k : Sight) (ls : List Local) (ss : List Stmt) (body : Option Stmt) → Each Claim ss → OrNone Claim body → list_all (λ b. b) (map (has_variables vars) ss) ≡ true → H.perhaps_has vars body ≡ true → GivesFinals k
      → Well k (made ls (map doing ss) (perhaps body))
  made-well k ls ss None h g has body_has finals bounded apart =
      counted-well k (uncounted (scope ls (map doing ss))) (uncounted-well k (scope ls (map doing ss)) (scope-well k ls ss h has finals)) bounded apart
  made-well k ls ss (Some body) h g has body_has finals bounded apart =
      let ds = map doing ss in
      let each = bounded-parts k ds (doing body ∷ []) bounded in
      let d = doing body in
      let near = inner-apart k ls (made_flow (flows ds) d.flow) apart in
      let first : Flow = record (F.in_turn (flows ds) k) { statements = 0 } in
      let p = parts-of k ss h has finals each.0 (C.apart-first vars k first (d.flow k) near) in
      let last = g body_has k finals (and_parts (d.bounded k) true each.1).0 (C.apart-second vars k first (d.flow k) near) in
      let flow = scope_flow ls (made_flow (flows ds) d.flow) k in
      let same_flow = ap (λ (fs : List Flows). scope_flow ls (made_flow fs d.flow) k) p.flows_are in
      let c = subst (Conforms vars k (U.then_run (R.in_turn (local_runs ls ++ part_runs vars k p.parts)) d.run)) same_flow (made-conforms k ls p.parts d.run d.flow last (subst (Apart vars k) (sym same_flow) apart)) in
      let named = subst (λ (rs : List Run). Conforms vars k (U.then_run (R.in_turn rs) d.run) flow) (sym (scope-runs ls ds)) (subst (λ (rs : List Run). Conforms vars k (U.then_run (R.in_turn (local_runs ls ++ rs)) d.run) flow) p.runs_are c) in
      let x = R.in_turn (runs (starts ls ++ steps ds)) in
      C.spelled-there vars [] k (U.then_run x d.run) (R.in_turn (x ∷ d.run ∷ [])) flow (λ a s st. sym (one-last x d.run a s) ∙ C.turn-is vars x (d.run ∷ []) k a s st) named

  -- a counted loop: what its bounds are and that its variable isn't written is known at the sight of each turn
  width-is : (o : Option ℕ) (w : ℕ) → has_width o w ≡ true → o ≡ Some w
  width-is None w h = absurd (false≢true h)
  width-is (Some v) w h = ap Some (eqb-true v w h)

  loop-well : (k : Sight) (n : ℕ) (first test step : Expr) (body : Stmt) → Claim body → has_width (vars (local_number n)) (wide (meaning first)) ≡ true → has_variables vars body ≡ true → GivesFinals k
      → Well k (looping n (meaning first) (meaning test) (meaning step) (doing body))
  loop-well k n first test step body h width has finals bounded apart =
      L.loop-conforms vars k n (meaning first) (meaning test) (meaning step) (doing body).run (doing body).flow (hangs first) first_known (record {
        wide = is_wide;
        own = λ q c. or_right (k.sure q) (covers (whole_local n (meaning first).of.two_state) q) c;
        test_hangs = hangs test;
        step_hangs = hangs step;
        test_known = λ i same. (tells test).constant i j same.sure ∙ bounds_known.0;
        step_known = λ i same. (tells step).constant i j same.sure ∙ bounds_known.1;
        apart = apart-inside;
        body = λ i same near. h has i (subst (λ (c : ℕ → Callee). (f : ℕ) (vs : List (List Bit4)) → length ((c f).run vs).finals ≡ length (c f).formals) (sym same.callee) finals) (bounded-same body i j same ∙ inside.1) near;
      }) apart
    where
      j : Sight
      j = in_loop n (meaning first) k

      free : (ℕ → Callee) → ℕ → Bool
      free c x = list_any (λ (m : ℕ). m == x) ((doing body).targets (λ f. (c f).formals))

      both : (((meaning first).constant k && ((meaning test).constant j && (meaning step).constant j)) ≡ true) × ((not (free k.around.callee (local_number n)) && (doing body).bounded j) ≡ true)
      both = and_parts ((meaning first).constant k && ((meaning test).constant j && (meaning step).constant j)) (not (free k.around.callee (local_number n)) && (doing body).bounded j) bounded

      first_known : (meaning first).constant k ≡ true
      first_known = (and_parts ((meaning first).constant k) ((meaning test).constant j && (meaning step).constant j) both.0).0

      bounds_known : ((meaning test).constant j ≡ true) × ((meaning step).constant j ≡ true)
      bounds_known = and_parts ((meaning test).constant j) ((meaning step).constant j) (and_parts ((meaning first).constant k) ((meaning test).constant j && (meaning step).constant j) both.0).1

      inside : (not (free k.around.callee (local_number n)) ≡ true) × ((doing body).bounded j ≡ true)
      inside = and_parts (not (free k.around.callee (local_number n))) ((doing body).bounded j) both.1

      is_wide : vars (local_number n) ≡ Some (wide (meaning first))
      is_wide = width-is (vars (local_number n)) (wide (meaning first)) width

      apart-inside : (i : Sight) → SameSights i j → Apart vars k ((doing body).flow i) → Apart vars i ((doing body).flow i)
      apart-inside i same outside q is = by (or_cases (is_beyond vars q) (i.sure (record { signal = q.signal; bit = 0 })) is)
        where
          here : Place
          here = record { signal = q.signal; bit = 0 }

          own : covers (whole_local n (meaning first).of.two_state) here ≡ true → covered (uses_of ((doing body).flow i).writes) q ≡ false
          own c =
              let same_number = eqb-true (local_number n) q.signal (and_parts (local_number n == q.signal) (nat_le 0 0 && nat_lt 0 (wide (meaning first))) c).0 in
              let variable = sym (ap (λ x. is_some (vars x)) same_number) ∙ ap (λ (o : Option ℕ). is_some o) is_wide in
              leaves vars q variable body has i (ap (λ c. free c q.signal) same.callee ∙ sym (ap (free k.around.callee) same_number) ∙ not-true (free k.around.callee (local_number n)) inside.0)

          of_sight : (k.sure here ≡ true) ⊎ (covers (whole_local n (meaning first).of.two_state) here ≡ true) → covered (uses_of ((doing body).flow i).writes) q ≡ false
          of_sight (inl outer) = outside q (or_right (is_beyond vars q) (k.sure here) outer)
          of_sight (inr c) = own c

          by : (is_beyond vars q ≡ true) ⊎ (i.sure here ≡ true) → covered (uses_of ((doing body).flow i).writes) q ≡ false
          by (inl beyond) = outside q (or_left (is_beyond vars q) (k.sure here) beyond)
          by (inr sure) = of_sight (or_cases (k.sure here) (covers (whole_local n (meaning first).of.two_state) here) (sym (same.sure here) ∙ sure))

  claims : Steps Claim ItemClaim
  claims = record {
    item = λ i h. h;
    block = λ ls ss h has k finals. by-level (V.Block ls ss) (counted (scope ls (map doing ss))) k (D.doing-Block ls ss)
        (counted-well k (scope ls (map doing ss))
        (scope-well k ls ss h (and_parts (list_all (is_plain vars) ls) (list_all (λ b. b) (map (has_variables vars) ss)) (sym (H.has-Block vars ls ss) ∙ has)).1 finals));
    branch = λ on body other h g has k finals.
        let two = and_parts (has_variables vars body) (H.perhaps_has vars other) (sym (H.has-If vars on body other) ∙ has) in
        let f = (doing body).flow k in
        let o = flow_or_nothing (perhaps other) k in
        by-level (V.If on body other) (counted (branching (meaning on) (doing body) (perhaps other))) k (D.doing-If on body other)
        (counted-well k (branching (meaning on) (doing body) (perhaps other)) (λ bounded apart.
        let each = and_parts ((doing body).bounded k) (all_bounded k (none_or (perhaps other))) bounded in
        let near = C.apart-second vars k (F.reading ((meaning on).reads k)) (F.or_else f o) apart in
        B.branch-conforms vars k (meaning on) (doing body).run (run_or_idle (perhaps other)) f o (hangs on) (h two.0 k finals each.0 (C.apart-first vars k f o near)) (other-well k other g two.1 finals each.1 (C.apart-second vars k f o near))));
    select = λ kind on is other h g has k finals.
        let two = and_parts (list_all (λ b. b) (map (H.item_has vars) is)) (H.perhaps_has vars other) (sym (H.has-Case vars kind on is other) ∙ has) in
        by-level (V.Case kind on is other) (counted (selecting kind (meaning on) (map item_of is) (perhaps other))) k (D.doing-Case kind on is other)
        (counted-well k (selecting kind (meaning on) (map item_of is) (perhaps other)) (select-well k kind on is other h g two.0 two.1 finals));
    loop = λ n first test step body spot h has k finals.
        let two = and_parts (has_width (vars (local_number n)) (wide (meaning first))) (has_variables vars body) (sym (H.has-Loop vars n first test step body spot) ∙ has) in
        by-level (V.Loop n first test step body spot) (looping n (meaning first) (meaning test) (meaning step) (doing body)) k (D.doing-Loop n first test step body spot) (loop-well k n first test step body h two.0 two.1 finals);
    assign = λ to value later spot has k finals. by-level (V.Assign to value later spot) (counted (assigning (map meaning to) (meaning value) later)) k (D.doing-Assign to value later spot)
        (counted-well k (assigning (map meaning to) (meaning value) later) (λ bounded apart. B.assign-conforms vars k later (map meaning to) (meaning value) (all-places to) (hangs value)));
    call = λ f es spot has k finals. by-level (V.Call f es spot) (counted (calling f (map meaning es))) k (D.doing-Call f es spot)
        (counted-well k (calling f (map meaning es)) (λ bounded apart. K.call-conforms vars k f (map meaning es) (all-hang es) (all-places es) (finals f) apart));
    made = λ ls ss body h g has k finals.
        let all = and_parts (list_all (is_plain vars) ls) (list_all (λ b. b) (map (has_variables vars) ss) && H.perhaps_has vars body) (sym (H.has-Made vars ls ss body) ∙ has) in
        let two = and_parts (list_all (λ b. b) (map (has_variables vars) ss)) (H.perhaps_has vars body) all.1 in
        by-level (V.Made ls ss body) (made ls (map doing ss) (perhaps body)) k (D.doing-Made ls ss body) (made-well k ls ss body h g two.0 two.1 finals);
    breaks = λ has k finals. by-level V.Break (counted (jumping O.Break)) k D.doing-Break (counted-well k (jumping O.Break) (λ bounded apart. B.jump-conforms vars k O.Break));
    continues = λ has k finals. by-level V.Continue (counted (jumping O.Continue)) k D.doing-Continue (counted-well k (jumping O.Continue) (λ bounded apart. B.jump-conforms vars k O.Continue));
    returns = λ has k finals. by-level V.Return (counted (jumping O.Return)) k D.doing-Return (counted-well k (jumping O.Return) (λ bounded apart. B.jump-conforms vars k O.Return));
  }

  pub conforms : (s : Stmt) → has_variables vars s ≡ true → (k : Sight) → GivesFinals k → (doing s).bounded k ≡ true → Apart vars k ((doing s).flow k) → Conforms vars k (doing s).run ((doing s).flow k)
  conforms = by-stmt Claim ItemClaim claims
