-- A statement passes few if its parts do.
use Rattle.std.proofs.Common.{◌≡◌, ℕ, Bool, true, false, ◌&&◌, List, map, length, Option, Some, None, ap, sym, ◌∙◌, rules}
use Rattle.std.specs.Prelude.{nat_le}
use Rattle.sv_source.specs.declared.token.Spot.{Spot}
use Rattle.sv_types.specs.declared.expression.Expr.{Expr}
use Rattle.sv_types.specs.declared.statement.CaseKind.{CaseKind}
use Rattle.sv_types.specs.declared.statement.CaseItem.{CaseItem}
use Rattle.sv_types.specs.declared.statement.Local.{Local}
use Rattle.sv_types.specs.declared.statement.Stmt.{Stmt, the_lemmas}
use Rattle.sv_types.specs.declared.statement.Stmt.TheVariants as V
use Rattle.sv_types.specs.Surroundings.{Parameter}
use Rattle.expr_flows.specs.Full.{every}
use Rattle.full_calls.specs.Full.{FullIf}
use Rattle.full_calls.proofs.Parts.{of-one, of-two, length-map}
use Rattle.unroll_laws.specs.Passing.{passes_few, item_passes_few, all_pass_few, perhaps_passes_few}

level-Block : (fs : ℕ → List Parameter) (ls : List Local) (ss : List Stmt) → passes_few fs (V.Block ls ss) ≡ all_pass_few fs ss
level-Block fs ls ss = search (rules, the_lemmas)

level-If : (fs : ℕ → List Parameter) (on : Expr) (body : Stmt) (other : Option Stmt) → passes_few fs (V.If on body other) ≡ (passes_few fs body && perhaps_passes_few fs other)
level-If fs on body None = search (rules, the_lemmas)
level-If fs on body (Some s) = search (rules, the_lemmas)

level-Case : (fs : ℕ → List Parameter) (kind : CaseKind) (on : Expr) (is : List CaseItem) (other : Option Stmt) → passes_few fs (V.Case kind on is other) ≡ (every (map (item_passes_few fs) is) && perhaps_passes_few fs other)
level-Case fs kind on is None = search (rules, the_lemmas)
level-Case fs kind on is (Some s) = search (rules, the_lemmas)

level-Loop : (fs : ℕ → List Parameter) (n : ℕ) (first test step : Expr) (body : Stmt) (spot : Spot) → passes_few fs (V.Loop n first test step body spot) ≡ passes_few fs body
level-Loop fs n first test step body spot = search (rules, the_lemmas)

level-Assign : (fs : ℕ → List Parameter) (to : List Expr) (value : Expr) (later : Bool) (spot : Spot) → passes_few fs (V.Assign to value later spot) ≡ true
level-Assign fs to value later spot = search (rules, the_lemmas)

level-Call : (fs : ℕ → List Parameter) (f : ℕ) (es : List Expr) (spot : Spot) → passes_few fs (V.Call f es spot) ≡ nat_le (length es) (length (fs f))
level-Call fs f es spot = search (rules, the_lemmas)

pub by-Block : (b : Bool) (fs : ℕ → List Parameter) (s : Stmt) (ls : List Local) (ss : List Stmt) → s ≡ V.Block ls ss → FullIf b (all_pass_few fs ss) → FullIf b (passes_few fs s)
by-Block b fs s ls ss is = of-one b (all_pass_few fs ss) (passes_few fs s) (ap (passes_few fs) is ∙ level-Block fs ls ss)

pub by-If : (b : Bool) (fs : ℕ → List Parameter) (s : Stmt) (on : Expr) (body : Stmt) (other : Option Stmt) → s ≡ V.If on body other → passes_few fs body ≡ true → FullIf b (perhaps_passes_few fs other) → FullIf b (passes_few fs s)
by-If b fs s on body other is = of-two b (passes_few fs body) (perhaps_passes_few fs other) (passes_few fs s) (ap (passes_few fs) is ∙ level-If fs on body other)

pub by-Case : (b : Bool) (fs : ℕ → List Parameter) (s : Stmt) (kind : CaseKind) (on : Expr) (is : List CaseItem) (other : Option Stmt) → s ≡ V.Case kind on is other → every (map (item_passes_few fs) is) ≡ true → FullIf b (perhaps_passes_few fs other)
    → FullIf b (passes_few fs s)
by-Case b fs s kind on is other at = of-two b (every (map (item_passes_few fs) is)) (perhaps_passes_few fs other) (passes_few fs s) (ap (passes_few fs) at ∙ level-Case fs kind on is other)

pub by-Loop : (b : Bool) (fs : ℕ → List Parameter) (s : Stmt) (n : ℕ) (first test step : Expr) (body : Stmt) (spot : Spot) → s ≡ V.Loop n first test step body spot → FullIf b (passes_few fs body) → FullIf b (passes_few fs s)
by-Loop b fs s n first test step body spot is = of-one b (passes_few fs body) (passes_few fs s) (ap (passes_few fs) is ∙ level-Loop fs n first test step body spot)

pub by-Assign : (fs : ℕ → List Parameter) (s : Stmt) (to : List Expr) (value : Expr) (later : Bool) (spot : Spot) → s ≡ V.Assign to value later spot → passes_few fs s ≡ true
by-Assign fs s to value later spot is = ap (passes_few fs) is ∙ level-Assign fs to value later spot

pub by-Call : (b : Bool) (fs : ℕ → List Parameter) (s : Stmt) (f : ℕ) (es : List Expr) (spot : Spot) → s ≡ V.Call f es spot → b ≡ nat_le (length es) (length (fs f)) → FullIf b (passes_few fs s)
by-Call true fs s f es spot is same = ap (passes_few fs) is ∙ level-Call fs f es spot ∙ sym same
by-Call false fs s f es spot is same = tt

pub by-Break : (fs : ℕ → List Parameter) (s : Stmt) → s ≡ V.Break → passes_few fs s ≡ true
by-Break fs s is = ap (passes_few fs) is ∙ search (rules, the_lemmas)

pub by-Continue : (fs : ℕ → List Parameter) (s : Stmt) → s ≡ V.Continue → passes_few fs s ≡ true
by-Continue fs s is = ap (passes_few fs) is ∙ search (rules, the_lemmas)

pub by-Return : (fs : ℕ → List Parameter) (s : Stmt) → s ≡ V.Return → passes_few fs s ≡ true
by-Return fs s is = ap (passes_few fs) is ∙ search (rules, the_lemmas)

-- an item, by its body
pub by-item : (fs : ℕ → List Parameter) (i : CaseItem) → passes_few fs i.body ≡ true → item_passes_few fs i ≡ true
by-item fs i h = level fs i ∙ h
  where
    level : (gs : ℕ → List Parameter) (j : CaseItem) → item_passes_few gs j ≡ passes_few gs j.body
    level gs j = search (rules, the_lemmas)

pub ruleset statements = (by-Block, by-If, by-Case, by-Loop, by-Assign, by-Call, by-Break, by-Continue, by-Return)

pub ruleset counts = (length-map)
