-- Assignments, calls of tasks, and what a `case` compares.
use Rattle.std.specs.Prelude.{◌≡◌, ◌≤◌, ◌<◌, ⊤, ℕ, Bool, max, List, [], ◌∷◌, length, map, flat_map, Option, Some, None, slice_get, Result, Ok, Err}
use Rattle.std.specs.List.{list_any}
use Rattle.sv_types.specs.declared.expression.Expr.{Expr}
use Rattle.sv_types.specs.declared.statement.CaseKind.{CaseKind}
use Rattle.sv_types.specs.declared.statement.CaseItem.{CaseItem}
use Rattle.sv_types.specs.Surroundings.{Around, Parameter}
use Rattle.sv_types.specs.Meanings.{Meaning, wide}
use Rattle.sv_types.specs.Operators.{assigned_width, width_of_all}
use Rattle.sv_types.specs.Expressions.{meaning}
use Rattle.sv_types.specs.Runs as R
use Rattle.sv_types.specs.Runs.{ItemRun}
use Rattle.sv_types.specs.Efforts as E
use Rattle.sv_types.specs.Efforts.{Step, ItemEffort}
use Rattle.sv_types.specs.Statements.{Doing, doing, run_or_idle, effort_or_none, actual_roots}
use Rattle.eval_parts.specs.declared.halt.Halt.{Halt}
use Rattle.eval_parts.specs.Limits.{Fits, AllFit}
use Rattle.eval_exprs.specs.declared.held.Scope.{Scope}
use Rattle.eval_parts.specs.Answers.{Halts}
use Rattle.eval_parts.specs.Surroundings.{running}
use Rattle.eval_stmts.specs.declared.env.Env.{Env}
use Rattle.eval_stmts.specs.declared.selectors.Selector.{Selector}
use Rattle.eval_stmts.specs.Environments.{AllHeld}
use Rattle.eval_stmts.specs.Stepping.{Resumes, Stops, step_of}

-- an assignment
abbrev pub assign_step : Bool → List Expr → Expr → Step
assign_step later to value = record { run = R.assign later (map meaning to) (meaning value); effort = E.assign (map meaning to) (meaning value) }

abbrev pub roots_of_all : List Meaning → List ℕ
roots_of_all ms = flat_map (λ (m : Meaning). m.roots) ms

pub record AssignFits (to : List Expr) (e : Expr) (fs : ℕ → List Parameter) (holds : ℕ → Bool) : Type 0 where
  pub targets : AllFit to fs
  pub value : Fits (meaning e) fs (max (width_of_all (map meaning to)) (wide (meaning e)))
  pub width : width_of_all (map meaning to) ≤ 4194304
  pub held : AllHeld (roots_of_all (map meaning to)) holds

-- a call of a task or void function
abbrev pub routine_step : ℕ → List Expr → Step
routine_step f es = record { run = R.call_routine f (map meaning es); effort = E.call_routine f (map meaning es) }

-- what a `case` compares: all values at one width
abbrev pub values_of : List CaseItem → List Meaning
values_of is = flat_map (λ (i : CaseItem). map meaning i.values) is

abbrev pub runs_of : List CaseItem → List ItemRun
runs_of is = map (λ (i : CaseItem). record { values = map meaning i.values; run = (doing i.body).run }) is

abbrev pub efforts_of : List CaseItem → List ItemEffort
efforts_of is = map (λ (i : CaseItem). record { values = map meaning i.values; effort = (doing i.body).effort }) is

abbrev pub select_step : CaseKind → Meaning → List CaseItem → Step → Step
select_step kind on is other = record {
  run = R.select kind on (values_of is) (runs_of is) other.run;
  effort = E.select (R.selector kind on (values_of is)) on (efforts_of is) other.effort;
}

abbrev pub step_or_idle : Option Doing → Step
step_or_idle o = record { run = run_or_idle o; effort = effort_or_none o }

-- the item with a number, or what stands for none
abbrev pub body_or_nothing : Option CaseItem → Step
body_or_nothing None = record { run = R.idle; effort = E.no_effort }
body_or_nothing (Some i) = step_of (doing i.body)

abbrev pub item_or : Option ℕ → List CaseItem → Step → Step
item_or None items other = other
item_or (Some k) items other = body_or_nothing (slice_get items k)

abbrev pub IsItem : Option ℕ → List CaseItem → Type 0
IsItem None items = ⊤
IsItem (Some k) items = k < length items

pub record Chooses (k : Option ℕ) (sc : Scope) (kind : CaseKind) (on : Expr) (items : List CaseItem) (old new : Env) : Type 0 where
  pub item : IsItem k items
  pub left : (other : Step) → Resumes sc (item_or k items other) (select_step kind (meaning on) items other) old new

abbrev pub ChoiceGives : Result (Option ℕ) Halt → Scope → CaseKind → Expr → List CaseItem → Env → Env → Type 0
ChoiceGives (Ok k) sc kind on items old new = Chooses k sc kind on items old new
ChoiceGives (Err h) sc kind on items old new = (other : Step) → Stops sc (select_step kind (meaning on) items other) old h

-- all of these fit at a width
abbrev pub AllFitWide : List Expr → (ℕ → List Parameter) → ℕ → Type 0
AllFitWide [] fs w = ⊤
AllFitWide (e ∷ es) fs w = Fits (meaning e) fs w × AllFitWide es fs w

abbrev pub ItemsFitWide : List CaseItem → (ℕ → List Parameter) → ℕ → Type 0
ItemsFitWide [] fs w = ⊤
ItemsFitWide (i ∷ is) fs w = AllFitWide i.values fs w × ItemsFitWide is fs w

pub record CaseFits (on : Expr) (items : List CaseItem) (fs : ℕ → List Parameter) : Type 0 where
  pub selector : Fits (meaning on) fs (R.widest_of (meaning on ∷ values_of items))
  pub values : ItemsFitWide items fs (R.widest_of (meaning on ∷ values_of items))

-- what is passed to formals
abbrev pub ActualsFit : List Parameter → List Expr → (ℕ → List Parameter) → Type 0
ActualsFit [] es fs = ⊤
ActualsFit (p ∷ ps) [] fs = ⊤
ActualsFit (p ∷ ps) (e ∷ es) fs = Fits (meaning e) fs (assigned_width p.two_state (meaning e)) × ActualsFit ps es fs

pub record RoutineFits (f : ℕ) (es : List Expr) (fs : ℕ → List Parameter) (holds : ℕ → Bool) : Type 0 where
  pub actuals : ActualsFit (fs f) es fs
  pub held : AllHeld (actual_roots (fs f) (map meaning es)) holds

-- whether a value matches, and what trying the values of an item takes
abbrev pub TriedGives : Result Bool Halt → R.Selector → List Meaning → Around → Option ℕ → Option ℕ → Type 0
TriedGives (Ok b) on ms a old new = (b ≡ list_any (R.matches on a) ms) × (E.tried on ms a (running old) ≡ running new)
TriedGives (Err h) on ms a old new = Halts h (E.tried on ms a (running old))

-- a selector as the code has it
abbrev pub selector_of : Selector → R.Selector
selector_of s = record { kind = s.kind; width = s.width; signed = s.signed; value = s.value }

-- no type in these has more than 2^22 bits
abbrev pub AllNarrow : List Expr → Type 0
AllNarrow [] = ⊤
AllNarrow (e ∷ es) = ((meaning e).widest ≤ 4194304) × AllNarrow es

abbrev pub NarrowItems : List CaseItem → Type 0
NarrowItems [] = ⊤
NarrowItems (i ∷ is) = AllNarrow i.values × NarrowItems is
