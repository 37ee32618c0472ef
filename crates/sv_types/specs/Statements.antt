-- What typed statements mean, form by form: what they do, and what is known of them before.
use Rattle.std.specs.Prelude.{ℕ, ◌+◌, max, Bool, ◌&&◌, ◌==◌, not, List, [], ◌∷◌, ◌++◌, map, flat_map, Option, Some, None}
use Rattle.std.specs.List.{list_all, list_any}
use Rattle.sv_types.specs.declared.statement.CaseKind.{CaseKind}
use Rattle.sv_types.specs.declared.statement.Outcome.{Outcome}
use Rattle.sv_types.specs.declared.statement.Outcome.TheVariants.{Break, Continue, Return}
use Rattle.sv_types.specs.declared.statement.Local.{Local}
use Rattle.sv_types.specs.declared.statement.Way.{Way}
use Rattle.sv_types.specs.declared.statement.Way.TheVariants as W
use Rattle.sv_types.specs.declared.statement.Stmt.{Stmt, Stmt-F, fold-Stmt}
use Rattle.sv_types.specs.declared.statement.CaseItem.{CaseItem-F}
use Rattle.sv_types.specs.Layouts.{layout}
use Rattle.sv_types.specs.Surroundings.{Parameter, Sight, local_number}
use Rattle.sv_types.specs.Meanings.{Meaning, Named, most, total, wide}
use Rattle.sv_types.specs.Operators.{width_of_all, assigned_to, assigned_width}
use Rattle.sv_types.specs.Expressions.{meaning}
use Rattle.sv_types.specs.Runs as R
use Rattle.sv_types.specs.Runs.{Run, ItemRun}
use Rattle.sv_types.specs.Efforts as E
use Rattle.sv_types.specs.Efforts.{Effort, Step, ItemEffort}
use Rattle.sv_types.specs.Flows as F
use Rattle.sv_types.specs.Flows.{Flow, Flows}

-- What a statement does; what of a run it takes; what is known of it before; whether the loops in it have bounds that are known and leave their
-- variables alone, whatever turns they make; the signals and locals that it names, targets left out, and those that it names
-- as targets; and the greatest widths, as of expressions.
pub record Doing : Type 0 where
  pub run : Run
  pub effort : Effort
  pub flow : Flows
  pub bounded : Sight → Bool
  pub names : (ℕ → List Parameter) → List Named
  pub targets : (ℕ → List Parameter) → List ℕ
  pub arithmetic : (ℕ → List Parameter) → ℕ
  pub indexing : ℕ
  pub widest : ℕ
  pub misfits : ℕ

-- an item of a `case`
pub record Item : Type 0 where
  pub values : List Meaning
  pub does : Doing

-- the limits of expressions, each at a width
pub record Limits : Type 0 where
  pub names : List Named
  pub arithmetic : (ℕ → List Parameter) → ℕ
  pub indexing : ℕ
  pub widest : ℕ
  pub misfits : ℕ

abbrev pub no_limits : Limits
no_limits = record { names = []; arithmetic = λ fs. 0; indexing = 0; widest = 0; misfits = 0 }

abbrev pub limits_at : ℕ → Meaning → Limits
limits_at w m = record { names = m.names; arithmetic = λ fs. m.arithmetic fs w; indexing = m.indexing; widest = m.widest; misfits = m.misfits }

abbrev pub limits_alone : Meaning → Limits
limits_alone m = limits_at (wide m) m

-- of a target only the indices are valued
abbrev pub limits_as_target : Meaning → Limits
limits_as_target m = record { names = m.index_names; arithmetic = λ fs. m.arithmetic fs (wide m); indexing = m.indexing; widest = m.widest; misfits = m.misfits }

abbrev pub both_limits : Limits → Limits → Limits
both_limits a b = record {
  names = a.names ++ b.names;
  arithmetic = λ fs. max (a.arithmetic fs) (b.arithmetic fs);
  indexing = max a.indexing b.indexing;
  widest = max a.widest b.widest;
  misfits = a.misfits + b.misfits;
}

abbrev pub all_limits : List Limits → Limits
all_limits [] = no_limits
all_limits (x ∷ xs) = both_limits x (all_limits xs)

-- a statement with these expressions and these parts
abbrev pub composed : Run → Effort → Flows → Limits → List Doing → Doing
composed run effort flow own parts = record {
  run = run;
  effort = effort;
  flow = flow;
  bounded = λ k. list_all (λ (d : Doing). d.bounded k) parts;
  names = λ fs. own.names ++ flat_map (λ (d : Doing). d.names fs) parts;
  targets = λ fs. flat_map (λ (d : Doing). d.targets fs) parts;
  arithmetic = λ fs. max (own.arithmetic fs) (most (map (λ (d : Doing). d.arithmetic fs) parts));
  indexing = max own.indexing (most (map (λ (d : Doing). d.indexing) parts));
  widest = max own.widest (most (map (λ (d : Doing). d.widest) parts));
  misfits = own.misfits + total (map (λ (d : Doing). d.misfits) parts);
}

abbrev pub steps : List Doing → List Step
steps ds = map (λ (d : Doing). record { run = d.run; effort = d.effort }) ds

abbrev pub flows : List Doing → List Flows
flows ds = map (λ (d : Doing). d.flow) ds

abbrev pub none_or : Option Doing → List Doing
none_or None = []
none_or (Some d) = d ∷ []

abbrev pub run_or_idle : Option Doing → Run
run_or_idle None = R.idle
run_or_idle (Some d) = d.run

abbrev pub effort_or_none : Option Doing → Effort
effort_or_none None = E.no_effort
effort_or_none (Some d) = d.effort

abbrev pub flow_or_nothing : Option Doing → Flows
flow_or_nothing None k = F.nothing
flow_or_nothing (Some d) k = d.flow k

-- what a local starts with, if it is written
abbrev pub initial_of : Local → Option Meaning
initial_of l = elim l.initial [ None ↦ None | Some e ↦ Some (meaning e) ]

abbrev pub marks_of : Local → List Bool
marks_of l = (layout l.of).two_state

abbrev pub local_limits : Local → Limits
local_limits l = elim (initial_of l) [ None ↦ no_limits | Some m ↦ limits_at (assigned_width (marks_of l) m) m ]

abbrev pub starts : List Local → List Step
starts ls =
    map (λ (l : Local). record { run = R.start l.number (marks_of l) (initial_of l); effort = E.start (initial_of l) }) ls

abbrev pub runs : List Step → List Run
runs ds = map (λ (d : Step). d.run) ds

-- the flow of a block: a local without a written value isn't to be read before it is assigned
abbrev pub scope_flow : List Local → Flows → Flows
scope_flow [] f k = f k
scope_flow (l ∷ ls) f k =
    F.and_then (F.starting l.number (marks_of l) (initial_of l) k) (F.unset_in l.number (marks_of l) (initial_of l) (scope_flow ls f k))

-- statements in a scope of these locals
abbrev pub scope : List Local → List Doing → Doing
scope ls ds =
    let all = starts ls ++ steps ds in
    composed (R.in_turn (runs all)) (E.in_turn all) (scope_flow ls (F.in_turn (flows ds))) (all_limits (map local_limits ls)) ds

abbrev pub counted : Doing → Doing
counted d = record d { effort = E.statement d.effort; flow = λ k. F.counted (d.flow k) }

abbrev pub branching : Meaning → Doing → Option Doing → Doing
branching on body other =
    composed (R.branch on body.run (run_or_idle other)) (E.branch on body.effort (effort_or_none other))
    (λ k. F.and_then (F.reading (on.reads k)) (F.or_else (body.flow k) (flow_or_nothing other k)))
    (limits_alone on) (body ∷ none_or other)

abbrev pub item_runs : List Item → List ItemRun
item_runs is = map (λ (i : Item). record { values = i.values; run = i.does.run }) is

abbrev pub item_efforts : List Item → List ItemEffort
item_efforts is = map (λ (i : Item). record { values = i.values; effort = i.does.effort }) is

abbrev pub selecting : CaseKind → Meaning → List Item → Option Doing → Doing
selecting kind on is other =
    let values = flat_map (λ (i : Item). i.values) is in
    let w = R.widest_of (on ∷ values) in
    composed (R.select kind on values (item_runs is) (run_or_idle other))
    (E.select (R.selector kind on values) on (item_efforts is) (effort_or_none other))
    (λ k. F.and_then (F.reading (on.reads k ++ F.all_reads values k)) (F.any_of (map (λ (i : Item). i.does.flow) is) (flow_or_nothing other k) k))
    (all_limits (map (limits_at w) (on ∷ values))) (map (λ (i : Item). i.does) is ++ none_or other)

-- the sight of a turn, in which the variable is known
abbrev pub in_loop : ℕ → Meaning → Sight → Sight
in_loop n first k = F.knowing n first.of.two_state (assigned_to first.of.two_state first k.around) k

-- the bounds are known, and the body doesn't write the variable
abbrev pub is_bounded : ℕ → Meaning → Meaning → Meaning → Doing → Sight → Bool
is_bounded n first test step body k =
    let j = in_loop n first k in
    (first.constant k && (test.constant j && step.constant j))
    && (not (list_any (λ (m : ℕ). m == local_number n) (body.targets (λ f. (k.around.callee f).formals))) && body.bounded j)

abbrev pub looping : ℕ → Meaning → Meaning → Meaning → Doing → Doing
looping n first test step body =
    record (composed (R.loop n first test step body.run) (E.loop n first test step (record { run = body.run; effort = body.effort })) (F.looping n first test step body.flow)
    (all_limits (limits_at (assigned_width first.of.two_state first) first ∷ limits_alone test ∷ limits_at (assigned_width first.of.two_state step) step ∷ []))
    (body ∷ [])) {
      bounded = is_bounded n first test step body;
      targets = λ fs. local_number n ∷ body.targets fs;
    }

abbrev pub assigning : List Meaning → Meaning → Bool → Doing
assigning to value later =
    record (composed (R.assign later to value) (E.assign to value) (F.assigning later to value)
    (both_limits (all_limits (map limits_as_target to)) (limits_at (max (width_of_all to) (wide value)) value)) []) {
      targets = λ fs. flat_map (λ (m : Meaning). m.roots) to;
    }

-- an actual, by the way of its formal
abbrev pub names_by_way : Way → Meaning → List Named
names_by_way W.Input m = m.names
names_by_way W.Output m = m.index_names
names_by_way W.Inout m = m.names

abbrev pub actual_names : List Parameter → List Meaning → List Named
actual_names [] ms = []
actual_names (p ∷ ps) [] = []
actual_names (p ∷ ps) (m ∷ ms) = names_by_way p.way m ++ actual_names ps ms

abbrev pub actual_arithmetic : (ℕ → List Parameter) → List Parameter → List Meaning → ℕ
actual_arithmetic fs [] ms = 0
actual_arithmetic fs (p ∷ ps) [] = 0
actual_arithmetic fs (p ∷ ps) (m ∷ ms) = max (m.arithmetic fs (assigned_width p.two_state m)) (actual_arithmetic fs ps ms)

abbrev pub roots_by_way : Way → Meaning → List ℕ
roots_by_way W.Input m = []
roots_by_way W.Output m = m.roots
roots_by_way W.Inout m = m.roots

abbrev pub actual_roots : List Parameter → List Meaning → List ℕ
actual_roots [] ms = []
actual_roots (p ∷ ps) [] = []
actual_roots (p ∷ ps) (m ∷ ms) = roots_by_way p.way m ++ actual_roots ps ms

abbrev pub calling : ℕ → List Meaning → Doing
calling f ms = record (composed (R.call_routine f ms) (E.call_routine f ms) (F.calling f ms) (all_limits (map limits_alone ms)) []) {
  names = λ fs. actual_names (fs f) ms;
  targets = λ fs. actual_roots (fs f) ms;
  arithmetic = λ fs. actual_arithmetic fs (fs f) ms;
}

abbrev pub jumping : Outcome → Doing
jumping o = composed (R.jump o) E.no_effort (λ k. F.jumping o) no_limits []

-- statements that don't count
abbrev pub uncounted : Doing → Doing
uncounted d = record d { effort = E.uncounted d.effort; flow = λ k. record (d.flow k) { statements = 0 } }

-- what stands for a replaced call: it counts as its body, or as one statement
abbrev pub made : List Local → List Doing → Option Doing → Doing
made ls before None = counted (uncounted (scope ls before))
made ls before (Some body) =
    let all = starts ls ++ steps before in
    let first : Step = record { run = R.in_turn (runs all); effort = E.uncounted (E.in_turn all) } in
    record (scope ls (before ++ body ∷ [])) {
      run = R.in_turn (first.run ∷ body.run ∷ []);
      effort = E.in_turn (first ∷ steps (body ∷ []));
      flow = scope_flow ls (λ k. F.and_then (record (F.in_turn (flows before) k) { statements = 0 }) (body.flow k));
    }

abbrev pub item_step : CaseItem-F Doing Item → Item
item_step i = record { values = map meaning i.values; does = i.body }

abbrev pub stmt_step : Stmt-F Doing Item → Doing
stmt_step (Stmt-F.Block locals body) = counted (scope locals body)
stmt_step (Stmt-F.If on body other) = counted (branching (meaning on) body other)
stmt_step (Stmt-F.Case kind on items other) = counted (selecting kind (meaning on) items other)
stmt_step (Stmt-F.Loop n first test step body spot) = looping n (meaning first) (meaning test) (meaning step) body
stmt_step (Stmt-F.Assign to value later spot) = counted (assigning (map meaning to) (meaning value) later)
stmt_step (Stmt-F.Call f actuals spot) = counted (calling f (map meaning actuals))
stmt_step (Stmt-F.Made locals before body) = made locals before body
stmt_step Stmt-F.Break = counted (jumping Break)
stmt_step Stmt-F.Continue = counted (jumping Continue)
stmt_step Stmt-F.Return = counted (jumping Return)

abbrev pub doing : Stmt → Doing
doing = fold-Stmt Doing Item stmt_step item_step
