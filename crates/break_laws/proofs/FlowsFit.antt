-- Statements that name each signal and local with as many bits as it has read and write bits that are there.
use Rattle.std.proofs.Common.{◌≡◌, ℕ, zero, suc, Bool, true, false, ◌&&◌, not, List, [], ◌∷◌, ◌++◌, map, flat_map, length, Option, Some, None, sym, ◌∙◌, subst}
use Rattle.std.specs.List.{list_all}
use Rattle.std.proofs.lemmas.Bool.{and_parts}
use Rattle.sv_types.specs.declared.expression.Expr.{Expr}
use Rattle.sv_types.specs.declared.statement.Local.{Local}
use Rattle.sv_types.specs.declared.statement.Way.{Way}
use Rattle.sv_types.specs.declared.statement.Way.TheVariants as Y
use Rattle.sv_types.specs.declared.statement.Outcome.{Outcome}
use Rattle.sv_types.specs.declared.statement.Outcome.TheVariants as O
use Rattle.sv_types.specs.declared.statement.Stmt.{Stmt}
use Rattle.sv_types.specs.declared.statement.CaseItem.{CaseItem}
use Rattle.sv_types.specs.Surroundings.{Sight, Parameter, Use, Write, local_number}
use Rattle.sv_types.specs.Meanings.{Meaning}
use Rattle.sv_types.specs.Operators.{assigned_to}
use Rattle.sv_types.specs.Expressions.{meaning}
use Rattle.sv_types.specs.Runs.{is_true, most_turns}
use Rattle.sv_types.specs.Flows as F
use Rattle.sv_types.specs.Flows.{Flow, Flows, uses_of, knowing}
use Rattle.sv_types.specs.Statements as S
use Rattle.sv_types.specs.Statements.{Doing, Item, doing, scope_flow, flows, marks_of, initial_of, flow_or_nothing}
use Rattle.sv_types.proofs.DoingLevels as D
use Rattle.sv_types.proofs.DoingLevels.{item_of, perhaps}
use Rattle.flow_laws.specs.Statements.{has_width}
use Rattle.flow_laws.proofs.Terms.{Each, OrNone, Steps, by-stmt}
use Rattle.break_laws.specs.Widths.{Widths, every, expr_fits, all_fit, initial_fits, local_fits, stmt_fits}
use Rattle.break_laws.proofs.Fitting.{AllIn, none-in, in-append, writes-append, use-in, whole-below, Within, AllWithin, all-reads-in, all-indices-in, all-writes-in, within-all, all-within}
use Rattle.break_laws.proofs.StmtFitLevels as L
use Rattle.break_laws.proofs.StmtFitLevels.{item_fits, perhaps_fits}

module _ (widths : Widths) where
  -- all that is read and written is there
  pub record FlowIn (f : Flow) : Type 0 where
    pub reads : AllIn widths f.reads
    pub writes : AllIn widths (uses_of f.writes)
    pub later : AllIn widths (uses_of f.later)

  abbrev pub FlowsIn : Flows → Type 0
  FlowsIn f = (k : Sight) → FlowIn (f k)

  nothing-in : FlowIn F.nothing
  nothing-in = record { reads = none-in widths; writes = none-in widths; later = none-in widths }

  endless-in : FlowIn F.endless
  endless-in = record { reads = none-in widths; writes = none-in widths; later = none-in widths }

  jumping-in : (j : Outcome) → FlowIn (F.jumping j)
  jumping-in j = record { reads = none-in widths; writes = none-in widths; later = none-in widths }

  reading-in : (us : List Use) → AllIn widths us → FlowIn (F.reading us)
  reading-in us h = record { reads = h; writes = none-in widths; later = none-in widths }

  writing-in : (ws : List Write) → AllIn widths (uses_of ws) → FlowIn (F.writing ws)
  writing-in ws h = record { reads = none-in widths; writes = h; later = none-in widths }

  later-in : (ws : List Write) → AllIn widths (uses_of ws) → FlowIn (F.writing_later ws)
  later-in ws h = record { reads = none-in widths; writes = none-in widths; later = h }

  then-in : (f g : Flow) → FlowIn f → FlowIn g → FlowIn (F.and_then f g)
  then-in f g h h' = record {
    reads = in-append widths f.reads g.reads h.reads h'.reads;
    writes = writes-append widths f.writes g.writes h.writes h'.writes;
    later = writes-append widths f.later g.later h.later h'.later;
  }

  else-in : (f g : Flow) → FlowIn f → FlowIn g → FlowIn (F.or_else f g)
  else-in f g h h' = record {
    reads = in-append widths f.reads g.reads h.reads h'.reads;
    writes = writes-append widths f.writes g.writes h.writes h'.writes;
    later = writes-append widths f.later g.later h.later h'.later;
  }

  counted-in : (f : Flow) → FlowIn f → FlowIn (F.counted f)
  counted-in f h = record { reads = h.reads; writes = h.writes; later = h.later }

  uncounted-in : (f : Flow) → FlowIn f → FlowIn (record f { statements = 0 })
  uncounted-in f h = record { reads = h.reads; writes = h.writes; later = h.later }

  catching-in : (j : Outcome) (f : Flow) → FlowIn f → FlowIn (F.catching j f)
  catching-in j f h = record { reads = h.reads; writes = h.writes; later = h.later }

  only-in : (b : Bool) (f : Flows) (g : Flow) (k : Sight) → FlowIn (f k) → FlowIn g → FlowIn (F.only_if b f g k)
  only-in true f g k h h' = h
  only-in false f g k h h' = h'

  read-then : (us : List Use) (g : Flow) → AllIn widths us → FlowIn g → FlowIn (F.and_then (F.reading us) g)
  read-then us g h h' = then-in (F.reading us) g (reading-in us h) h'

  setting-in : (n : ℕ) (marks : List Bool) → has_width (widths (local_number n)) (length marks) ≡ true → FlowIn (F.setting n marks)
  setting-in n marks has = record {
    reads = none-in widths;
    writes = use-in widths (local_number n) 0 (length marks) 0 (whole-below widths (local_number n) (length marks) has);
    later = none-in widths;
  }

  -- a loop
  turns-in : (m n : ℕ) (marks : List Bool) (test step : Meaning) (body : Flows) → has_width (widths (local_number n)) (length marks) ≡ true → Within widths test → Within widths step → FlowsIn body
      → FlowsIn (F.turns m n marks test step body)
  unfolding F.turns
  turns-in zero n marks test step body has t s h k =
      only-in (test.constant k && not (is_true test k.around)) (λ j. F.reading (test.reads j)) F.endless k (reading-in (test.reads k) (t.reads k)) endless-in
  turns-in (suc m) n marks test step body has t s h k =
      only-in (test.constant k) (F.only_if (is_true test k.around) turn (F.reading (test.reads k))) F.endless k
      (only-in (is_true test k.around) turn (F.reading (test.reads k)) k
      (read-then (test.reads k) (F.and_then (F.catching O.Continue (body k)) (F.only_if (step.constant k) again F.endless k)) (t.reads k)
      (then-in (F.catching O.Continue (body k)) (F.only_if (step.constant k) again F.endless k) (catching-in O.Continue (body k) (h k))
      (only-in (step.constant k) again F.endless k (next (turns-in m n marks test step body has t s h (knowing n marks (assigned_to marks step k.around) k))) endless-in)))
      (reading-in (test.reads k) (t.reads k))) endless-in
    where
      again : Flows
      again j = F.and_then (F.and_then (F.reading (step.reads j)) (F.setting n marks)) (F.turns m n marks test step body (knowing n marks (assigned_to marks step j.around) j))

      turn : Flows
      turn j = F.and_then (F.reading (test.reads j)) (F.and_then (F.catching O.Continue (body j)) (F.only_if (step.constant j) again F.endless j))

      next : FlowIn (F.turns m n marks test step body (knowing n marks (assigned_to marks step k.around) k)) → FlowIn (again k)
      next rest =
          then-in (F.and_then (F.reading (step.reads k)) (F.setting n marks)) (F.turns m n marks test step body (knowing n marks (assigned_to marks step k.around) k))
          (read-then (step.reads k) (F.setting n marks) (s.reads k) (setting-in n marks has)) rest

  loop-in : (n : ℕ) (first test step : Meaning) (body : Flows) → has_width (widths (local_number n)) (length first.of.two_state) ≡ true → Within widths first → Within widths test → Within widths step → FlowsIn body
      → FlowsIn (F.looping n first test step body)
  loop-in n first test step body has f t s h k =
      let marks = first.of.two_state in
      let all = λ (j : Sight). F.catching O.Break (F.turns most_turns n marks test step body (knowing n marks (assigned_to marks first j.around) j)) in
      then-in (F.and_then (F.reading (first.reads k)) (F.setting n marks)) (F.only_if (first.constant k) all F.endless k) (read-then (first.reads k) (F.setting n marks) (f.reads k) (setting-in n marks has))
      (only-in (first.constant k) all F.endless k
      (catching-in O.Break (F.turns most_turns n marks test step body (knowing n marks (assigned_to marks first k.around) k)) (turns-in most_turns n marks test step body has t s h (knowing n marks (assigned_to marks first k.around) k)))
      endless-in)

  abbrev Claim : Stmt → Type 0
  Claim s = stmt_fits widths s ≡ true → FlowsIn (doing s).flow

  abbrev ItemClaim : CaseItem → Type 0
  ItemClaim i = Claim i.body

  -- blocks
  starting-in : (l : Local) (k : Sight) → local_fits widths l ≡ true → FlowIn (F.starting l.number (marks_of l) (initial_of l) k)
  starting-in l k fits =
      let two = and_parts (has_width (widths (local_number l.number)) (length (marks_of l))) (initial_fits widths l.initial) fits in
      by l.initial two.1 (setting-in l.number (marks_of l) two.0)
    where
      by : (o : Option Expr) → initial_fits widths o ≡ true → FlowIn (F.setting l.number (marks_of l)) → FlowIn (F.starting l.number (marks_of l) (elim o [ None ↦ None | Some e ↦ Some (meaning e) ]) k)
      by None h set = set
      by (Some e) h set = read-then ((meaning e).reads k) (F.setting l.number (marks_of l)) ((within-all widths e h).reads k) set

  unset-in : (l : Local) (first : Option Meaning) (f : Flow) → FlowIn f → FlowIn (F.unset_in l.number (marks_of l) first f)
  unset-in l None f h = record { reads = h.reads; writes = h.writes; later = h.later }
  unset-in l (Some m) f h = h

  scope-in : (ls : List Local) (f : Flows) → list_all (local_fits widths) ls ≡ true → FlowsIn f → FlowsIn (scope_flow ls f)
  scope-in [] f fits h k = h k
  scope-in (l ∷ ls) f fits h k =
      let two = and_parts (local_fits widths l) (list_all (local_fits widths) ls) fits in
      then-in (F.starting l.number (marks_of l) (initial_of l) k) (F.unset_in l.number (marks_of l) (initial_of l) (scope_flow ls f k)) (starting-in l k two.0)
      (unset-in l (initial_of l) (scope_flow ls f k) (scope-in ls f two.1 h k))

  all-in : (ss : List Stmt) → Each Claim ss → every (map (stmt_fits widths) ss) ≡ true → FlowsIn (F.in_turn (flows (map doing ss)))
  all-in [] h fits k = nothing-in
  all-in (s ∷ ss) h fits k =
      let two = and_parts (stmt_fits widths s) (every (map (stmt_fits widths) ss)) fits in
      then-in ((doing s).flow k) (F.in_turn (flows (map doing ss)) k) (h.0 two.0 k) (all-in ss h.1 two.1 k)

  other-in : (other : Option Stmt) → OrNone Claim other → perhaps_fits widths other ≡ true → FlowsIn (flow_or_nothing (perhaps other))
  other-in None h fits k = nothing-in
  other-in (Some s) h fits k = h fits k

  -- the items of a `case`
  within-append : (ms ns : List Meaning) → AllWithin widths ms → AllWithin widths ns → AllWithin widths (ms ++ ns)
  within-append [] ns h g = g
  within-append (m ∷ ms) ns h g = (h.0, within-append ms ns h.1 g)

  values-in : (is : List CaseItem) → every (map (item_fits widths) is) ≡ true → AllWithin widths (flat_map (λ (i : Item). i.values) (map item_of is))
  values-in [] fits = tt
  values-in (i ∷ is) fits =
      let two = and_parts (item_fits widths i) (every (map (item_fits widths) is)) fits in
      let own = and_parts (all_fit widths i.values) (stmt_fits widths i.body) (sym (L.fits-item widths i) ∙ two.0) in
      within-append (item_of i).values (flat_map (λ (x : Item). x.values) (map item_of is))
      (subst (λ (x : Item). AllWithin widths x.values) (sym (D.item-of i)) (all-within widths i.values own.0)) (values-in is two.1)

  items-in : (is : List CaseItem) (other : Flow) → Each ItemClaim is → every (map (item_fits widths) is) ≡ true → FlowIn other → (k : Sight) → FlowIn (F.any_of (map (λ (i : Item). i.does.flow) (map item_of is)) other k)
  items-in [] other h fits g k = g
  items-in (i ∷ is) other h fits g k =
      let two = and_parts (item_fits widths i) (every (map (item_fits widths) is)) fits in
      let own = and_parts (all_fit widths i.values) (stmt_fits widths i.body) (sym (L.fits-item widths i) ∙ two.0) in
      else-in ((item_of i).does.flow k) (F.any_of (map (λ (x : Item). x.does.flow) (map item_of is)) other k)
      (subst (λ (x : Item). FlowIn (x.does.flow k)) (sym (D.item-of i)) (h.0 own.1 k)) (items-in is other h.1 two.1 g k)

  assign-in : (later : Bool) (to : List Meaning) (value : Meaning) → AllWithin widths to → Within widths value → FlowsIn (F.assigning later to value)
  assign-in false to value h g k =
      read-then (F.all_indices to k ++ value.reads k) (F.writing (F.all_writes to k)) (in-append widths (F.all_indices to k) (value.reads k) (all-indices-in widths to h k) (g.reads k))
      (writing-in (F.all_writes to k) (all-writes-in widths to h k))
  assign-in true to value h g k =
      read-then (F.all_indices to k ++ value.reads k) (F.writing_later (F.all_writes to k)) (in-append widths (F.all_indices to k) (value.reads k) (all-indices-in widths to h k) (g.reads k))
      (later-in (F.all_writes to k) (all-writes-in widths to h k))

  -- a call
  inputs-in : (ps : List Parameter) (ms : List Meaning) (k : Sight) → AllWithin widths ms → AllIn widths (F.all_read_in ps ms k)
  inputs-in [] ms k h = none-in widths
  inputs-in (p ∷ ps) [] k h = none-in widths
  inputs-in (p ∷ ps) (m ∷ ms) k h = in-append widths (F.reads_in p.way m k) (F.all_read_in ps ms k) (by p.way) (inputs-in ps ms k h.1)
    where
      by : (w : Way) → AllIn widths (F.reads_in w m k)
      by Y.Input = h.0.reads k
      by Y.Output = none-in widths
      by Y.Inout = h.0.reads k

  outputs-in : (ps : List Parameter) (ms : List Meaning) (k : Sight) → AllWithin widths ms → FlowIn (F.all_written_out ps ms k)
  outputs-in [] ms k h = nothing-in
  outputs-in (p ∷ ps) [] k h = nothing-in
  outputs-in (p ∷ ps) (m ∷ ms) k h = then-in (F.writes_out p.way m k) (F.all_written_out ps ms k) (by p.way) (outputs-in ps ms k h.1)
    where
      by : (w : Way) → FlowIn (F.writes_out w m k)
      by Y.Input = nothing-in
      by Y.Output = read-then (m.indices k) (F.writing (m.writes k)) (h.0.indices k) (writing-in (m.writes k) (h.0.writes k))
      by Y.Inout = read-then (m.indices k) (F.writing (m.writes k)) (h.0.indices k) (writing-in (m.writes k) (h.0.writes k))

  call-in : (f : ℕ) (ms : List Meaning) → AllWithin widths ms → FlowsIn (F.calling f ms)
  call-in f ms h k =
      let formals = (k.around.callee f).formals in
      read-then (F.all_read_in formals ms k) (F.all_written_out formals ms k) (inputs-in formals ms k h) (outputs-in formals ms k h)

  made-in : (ls : List Local) (ss : List Stmt) (body : Option Stmt) → Each Claim ss → OrNone Claim body → list_all (local_fits widths) ls ≡ true → every (map (stmt_fits widths) ss) ≡ true
      → perhaps_fits widths body ≡ true → FlowsIn (S.made ls (map doing ss) (perhaps body)).flow
  made-in ls ss None h g ls_fit ss_fit body_fits k =
      counted-in (record (scope_flow ls (F.in_turn (flows (map doing ss))) k) { statements = 0 })
      (uncounted-in (scope_flow ls (F.in_turn (flows (map doing ss))) k) (scope-in ls (F.in_turn (flows (map doing ss))) ls_fit (all-in ss h ss_fit) k))
  made-in ls ss (Some s) h g ls_fit ss_fit body_fits k =
      scope-in ls (λ j. F.and_then (record (F.in_turn (flows (map doing ss)) j) { statements = 0 }) ((doing s).flow j)) ls_fit
      (λ j. then-in (record (F.in_turn (flows (map doing ss)) j) { statements = 0 }) ((doing s).flow j) (uncounted-in (F.in_turn (flows (map doing ss)) j) (all-in ss h ss_fit j)) (g body_fits j)) k

  abbrev of-flow : Doing → Type 0
  of-flow d = FlowsIn d.flow

  claims : Steps Claim ItemClaim
  claims = record {
    item = λ i h. h;
    block = λ ls ss h fits.
        let two = and_parts (list_all (local_fits widths) ls) (every (map (stmt_fits widths) ss)) (sym (L.fits-Block widths ls ss) ∙ fits) in
        subst of-flow (sym (D.doing-Block ls ss)) (λ k. counted-in (scope_flow ls (F.in_turn (flows (map doing ss))) k) (scope-in ls (F.in_turn (flows (map doing ss))) two.0 (all-in ss h two.1) k));
    branch = λ on body other h g fits.
        let two = and_parts (expr_fits widths on) (stmt_fits widths body && perhaps_fits widths other) (sym (L.fits-If widths on body other) ∙ fits) in
        let more = and_parts (stmt_fits widths body) (perhaps_fits widths other) two.1 in
        subst of-flow (sym (D.doing-If on body other)) (λ k.
        let either = F.or_else ((doing body).flow k) (flow_or_nothing (perhaps other) k) in
        counted-in (F.and_then (F.reading ((meaning on).reads k)) either)
        (read-then ((meaning on).reads k) either ((within-all widths on two.0).reads k) (else-in ((doing body).flow k) (flow_or_nothing (perhaps other) k) (h more.0 k) (other-in other g more.1 k))));
    select = λ kind on is other h g fits.
        let two = and_parts (expr_fits widths on) (every (map (item_fits widths) is) && perhaps_fits widths other) (sym (L.fits-Case widths kind on is other) ∙ fits) in
        let more = and_parts (every (map (item_fits widths) is)) (perhaps_fits widths other) two.1 in
        subst of-flow (sym (D.doing-Case kind on is other)) (λ k.
        let values = flat_map (λ (i : Item). i.values) (map item_of is) in
        let any = F.any_of (map (λ (i : Item). i.does.flow) (map item_of is)) (flow_or_nothing (perhaps other) k) k in
        let read = (meaning on).reads k ++ F.all_reads values k in
        counted-in (F.and_then (F.reading read) any)
        (read-then read any (in-append widths ((meaning on).reads k) (F.all_reads values k) ((within-all widths on two.0).reads k) (all-reads-in widths values (values-in is more.0) k))
        (items-in is (flow_or_nothing (perhaps other) k) h more.0 (other-in other g more.1 k) k)));
    loop = λ n first test step body spot h fits.
        let one = and_parts (has_width (widths (local_number n)) (length (meaning first).of.two_state)) (expr_fits widths first && (expr_fits widths test && (expr_fits widths step && stmt_fits widths body)))
        (sym (L.fits-Loop widths n first test step body spot) ∙ fits) in
        let two = and_parts (expr_fits widths first) (expr_fits widths test && (expr_fits widths step && stmt_fits widths body)) one.1 in
        let three = and_parts (expr_fits widths test) (expr_fits widths step && stmt_fits widths body) two.1 in
        let four = and_parts (expr_fits widths step) (stmt_fits widths body) three.1 in
        subst of-flow (sym (D.doing-Loop n first test step body spot))
        (loop-in n (meaning first) (meaning test) (meaning step) (doing body).flow one.0 (within-all widths first two.0) (within-all widths test three.0) (within-all widths step four.0) (h four.1));
    assign = λ to value later spot fits.
        let two = and_parts (all_fit widths to) (expr_fits widths value) (sym (L.fits-Assign widths to value later spot) ∙ fits) in
        subst of-flow (sym (D.doing-Assign to value later spot)) (λ k. counted-in (F.assigning later (map meaning to) (meaning value) k) (assign-in later (map meaning to) (meaning value) (all-within widths to two.0) (within-all widths value two.1) k));
    call = λ f es spot fits.
        subst of-flow (sym (D.doing-Call f es spot)) (λ k. counted-in (F.calling f (map meaning es) k) (call-in f (map meaning es) (all-within widths es (sym (L.fits-Call widths f es spot) ∙ fits)) k));
    made = λ ls ss body h g fits.
        let two = and_parts (list_all (local_fits widths) ls) (every (map (stmt_fits widths) ss) && perhaps_fits widths body) (sym (L.fits-Made widths ls ss body) ∙ fits) in
        let more = and_parts (every (map (stmt_fits widths) ss)) (perhaps_fits widths body) two.1 in
        subst of-flow (sym (D.doing-Made ls ss body)) (made-in ls ss body h g two.0 more.0 more.1);
    breaks = λ fits. subst of-flow (sym D.doing-Break) (λ k. counted-in (F.jumping O.Break) (jumping-in O.Break));
    continues = λ fits. subst of-flow (sym D.doing-Continue) (λ k. counted-in (F.jumping O.Continue) (jumping-in O.Continue));
    returns = λ fits. subst of-flow (sym D.doing-Return) (λ k. counted-in (F.jumping O.Return) (jumping-in O.Return));
  }

  pub flows-in : (s : Stmt) → stmt_fits widths s ≡ true → FlowsIn (doing s).flow
  flows-in = by-stmt Claim ItemClaim claims
