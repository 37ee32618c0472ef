-- What a `case` does as a step.
use Rattle.std.proofs.Common.{◌≡◌, List, [], ◌∷◌, ◌++◌, map, flat_map, Option, Some, None, refl, ap, sym, ◌∙◌}
use Rattle.sv_types.specs.declared.expression.Expr.{Expr}
use Rattle.sv_types.specs.declared.statement.CaseKind.{CaseKind}
use Rattle.sv_types.specs.declared.statement.CaseItem.{CaseItem}
use Rattle.sv_types.specs.declared.statement.Stmt.{Stmt}
use Rattle.sv_types.specs.declared.statement.Stmt.TheVariants as V
use Rattle.sv_types.specs.Meanings.{Meaning}
use Rattle.sv_types.specs.Expressions.{meaning}
use Rattle.sv_types.specs.Runs as R
use Rattle.sv_types.specs.Runs.{ItemRun}
use Rattle.sv_types.specs.Efforts as E
use Rattle.sv_types.specs.Efforts.{Step, ItemEffort}
use Rattle.sv_types.specs.Statements.{Doing, Item, doing, counted, selecting, item_runs, item_efforts, run_or_idle, effort_or_none}
use Rattle.sv_types.proofs.DoingLevels as D
use Rattle.sv_types.proofs.DoingLevels.{item_of, item-of}
use Rattle.eval_stmts.specs.Limits.{perhaps}
use Rattle.eval_stmts.specs.Stepping.{step_of, counted_step}
use Rattle.eval_stmts.specs.Targets.{values_of, runs_of, efforts_of, select_step, step_or_idle}

pub perhaps-is : (o : Option Stmt) → D.perhaps o ≡ perhaps o
perhaps-is None = refl
perhaps-is (Some s) = refl

pub values-are : (is : List CaseItem) → flat_map (λ (i : Item). i.values) (map item_of is) ≡ values_of is
values-are [] = refl
values-are (i ∷ is) = ap (λ (x : Item). x.values ++ flat_map (λ (y : Item). y.values) (map item_of is)) (item-of i) ∙ ap (λ vs. map meaning i.values ++ vs) (values-are is)

runs-are : (is : List CaseItem) → item_runs (map item_of is) ≡ runs_of is
runs-are [] = refl
runs-are (i ∷ is) =
    ap (λ (x : Item). (record { values = x.values; run = x.does.run }) ∷ item_runs (map item_of is)) (item-of i)
    ∙ ap (λ rs. (record { values = map meaning i.values; run = (doing i.body).run }) ∷ rs) (runs-are is)

efforts-are : (is : List CaseItem) → item_efforts (map item_of is) ≡ efforts_of is
efforts-are [] = refl
efforts-are (i ∷ is) =
    ap (λ (x : Item). (record { values = x.values; effort = x.does.effort }) ∷ item_efforts (map item_of is)) (item-of i)
    ∙ ap (λ rs. (record { values = map meaning i.values; effort = (doing i.body).effort }) ∷ rs) (efforts-are is)

abbrev selected : CaseKind → Meaning → List Meaning → List ItemRun → List ItemEffort → Option Doing → Step
selected kind on values is es other = counted_step (record {
  run = R.select kind on values is (run_or_idle other);
  effort = E.select (R.selector kind on values) on es (effort_or_none other);
})

pub step-Case : (s : Stmt) (kind : CaseKind) (on : Expr) (is : List CaseItem) (other : Option Stmt) → s ≡ V.Case kind on is other
    → counted_step (select_step kind (meaning on) is (step_or_idle (perhaps other))) ≡ step_of (doing s)
step-Case s kind on is other at =
    let m = meaning on in
    let items = map item_of is in
    sym (ap (λ x. step_of (doing x)) at ∙ ap step_of (D.doing-Case kind on is other) ∙ ap (λ o. step_of (counted (selecting kind m items o))) (perhaps-is other)
    ∙ ap (λ vs. selected kind m vs (item_runs items) (item_efforts items) (perhaps other)) (values-are is)
    ∙ ap (λ rs. selected kind m (values_of is) rs (item_efforts items) (perhaps other)) (runs-are is)
    ∙ ap (λ es. selected kind m (values_of is) (runs_of is) es (perhaps other)) (efforts-are is))
