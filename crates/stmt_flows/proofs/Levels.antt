-- The flow of a statement, one level at a time.
use Rattle.std.proofs.Common.{◌≡◌, ℕ, Bool, List, [], ◌∷◌, ◌++◌, map, flat_map, Option, Some, None, refl, ap, sym, ◌∙◌}
use Rattle.sv_source.specs.declared.token.Spot.{Spot}
use Rattle.sv_types.specs.declared.expression.Expr.{Expr}
use Rattle.sv_types.specs.declared.statement.CaseKind.{CaseKind}
use Rattle.sv_types.specs.declared.statement.CaseItem.{CaseItem}
use Rattle.sv_types.specs.declared.statement.Local.{Local}
use Rattle.sv_types.specs.declared.statement.Stmt.{Stmt}
use Rattle.sv_types.specs.declared.statement.Stmt.TheVariants as V
use Rattle.sv_types.specs.declared.statement.Outcome.TheVariants as O
use Rattle.sv_types.specs.Surroundings.{Sight}
use Rattle.sv_types.specs.Meanings.{Meaning}
use Rattle.sv_types.specs.Expressions.{meaning}
use Rattle.sv_types.specs.Flows as F
use Rattle.sv_types.specs.Flows.{Flow, Flows}
use Rattle.sv_types.specs.Statements.{Doing, Item, doing, scope_flow, flow_or_nothing, made}
use Rattle.sv_types.proofs.DoingLevels as D
use Rattle.sv_types.proofs.DoingLevels.{item_of, item-of}
use Rattle.eval_runs.proofs.Levels.{perhaps-is, values-are}
use Rattle.eval_stmts.specs.Limits.{perhaps}
use Rattle.eval_stmts.specs.Targets.{values_of}
use Rattle.stmt_flows.specs.Gives.{flows_of, perhaps_flow, item_flows}
use Rattle.stmt_flows.specs.Statements.{if_flow, loop_flow}

pub flow-Block : (s : Stmt) (ls : List Local) (ss : List Stmt) (h : Sight) → s ≡ V.Block ls ss → F.counted (scope_flow ls (F.in_turn (flows_of ss)) h) ≡ (doing s).flow h
flow-Block s ls ss h is = sym (ap (λ (x : Stmt). (doing x).flow h) is ∙ ap (λ (d : Doing). d.flow h) (D.doing-Block ls ss))

pub flow-If : (s : Stmt) (on : Expr) (body : Stmt) (other : Option Stmt) (h : Sight) → s ≡ V.If on body other → if_flow on body other h ≡ (doing s).flow h
flow-If s on body None h is = sym (ap (λ (x : Stmt). (doing x).flow h) is ∙ ap (λ (d : Doing). d.flow h) (D.doing-If on body None))
flow-If s on body (Some o) h is = sym (ap (λ (x : Stmt). (doing x).flow h) is ∙ ap (λ (d : Doing). d.flow h) (D.doing-If on body (Some o)))

items-are : (is : List CaseItem) → map (λ (i : Item). i.does.flow) (map item_of is) ≡ item_flows is
items-are [] = refl
items-are (i ∷ is) = ap (λ (x : Item). x.does.flow ∷ map (λ (y : Item). y.does.flow) (map item_of is)) (item-of i) ∙ ap (λ fs. (doing i.body).flow ∷ fs) (items-are is)

abbrev selecting : Meaning → List Meaning → List Flows → Flow → Sight → Flow
selecting on values fs other h = F.counted (F.and_then (F.reading (on.reads h ++ F.all_reads values h)) (F.any_of fs other h))

pub flow-Case : (s : Stmt) (kind : CaseKind) (on : Expr) (is : List CaseItem) (other : Option Stmt) (h : Sight) → s ≡ V.Case kind on is other
    → F.counted (F.and_then (F.reading ((meaning on).reads h ++ F.all_reads (values_of is) h)) (F.any_of (item_flows is) (perhaps_flow other h) h)) ≡ (doing s).flow h
flow-Case s kind on is other h at =
    let m = meaning on in
    let items = map item_of is in
    sym (ap (λ (x : Stmt). (doing x).flow h) at ∙ ap (λ (d : Doing). d.flow h) (D.doing-Case kind on is other)
    ∙ ap (λ (o : Option Doing). selecting m (flat_map (λ (i : Item). i.values) items) (map (λ (i : Item). i.does.flow) items) (flow_or_nothing o h) h) (perhaps-is other)
    ∙ ap (λ vs. selecting m vs (map (λ (i : Item). i.does.flow) items) (perhaps_flow other h) h) (values-are is)
    ∙ ap (λ fs. selecting m (values_of is) fs (perhaps_flow other h) h) (items-are is))

pub flow-Loop : (s : Stmt) (n : ℕ) (first test step : Expr) (body : Stmt) (spot : Spot) (h : Sight) → s ≡ V.Loop n first test step body spot
    → loop_flow (record { variable = n; first = first; test = test; step = step; body = body }) h ≡ (doing s).flow h
flow-Loop s n first test step body spot h is = sym (ap (λ (x : Stmt). (doing x).flow h) is ∙ ap (λ (d : Doing). d.flow h) (D.doing-Loop n first test step body spot))

pub flow-Assign : (s : Stmt) (to : List Expr) (value : Expr) (later : Bool) (spot : Spot) (h : Sight) → s ≡ V.Assign to value later spot → F.counted (F.assigning later (map meaning to) (meaning value) h) ≡ (doing s).flow h
flow-Assign s to value later spot h is = sym (ap (λ (x : Stmt). (doing x).flow h) is ∙ ap (λ (d : Doing). d.flow h) (D.doing-Assign to value later spot))

pub flow-Call : (s : Stmt) (f : ℕ) (es : List Expr) (spot : Spot) (h : Sight) → s ≡ V.Call f es spot → F.counted (F.calling f (map meaning es) h) ≡ (doing s).flow h
flow-Call s f es spot h is = sym (ap (λ (x : Stmt). (doing x).flow h) is ∙ ap (λ (d : Doing). d.flow h) (D.doing-Call f es spot))

pub flow-Made : (s : Stmt) (ls : List Local) (before : List Stmt) (body : Option Stmt) (h : Sight) → s ≡ V.Made ls before body → (made ls (map doing before) (perhaps body)).flow h ≡ (doing s).flow h
flow-Made s ls before None h is = sym (ap (λ (x : Stmt). (doing x).flow h) is ∙ ap (λ (d : Doing). d.flow h) (D.doing-Made ls before None))
flow-Made s ls before (Some b) h is = sym (ap (λ (x : Stmt). (doing x).flow h) is ∙ ap (λ (d : Doing). d.flow h) (D.doing-Made ls before (Some b)))

pub flow-Break : (s : Stmt) (h : Sight) → s ≡ V.Break → F.counted (F.jumping O.Break) ≡ (doing s).flow h
flow-Break s h is = sym (ap (λ (x : Stmt). (doing x).flow h) is ∙ ap (λ (d : Doing). d.flow h) D.doing-Break)

pub flow-Continue : (s : Stmt) (h : Sight) → s ≡ V.Continue → F.counted (F.jumping O.Continue) ≡ (doing s).flow h
flow-Continue s h is = sym (ap (λ (x : Stmt). (doing x).flow h) is ∙ ap (λ (d : Doing). d.flow h) D.doing-Continue)

pub flow-Return : (s : Stmt) (h : Sight) → s ≡ V.Return → F.counted (F.jumping O.Return) ≡ (doing s).flow h
flow-Return s h is = sym (ap (λ (x : Stmt). (doing x).flow h) is ∙ ap (λ (d : Doing). d.flow h) D.doing-Return)
