-- A statement is full if its parts are.
use Rattle.std.proofs.Common.{◌≡◌, ℕ, Bool, true, false, ◌&&◌, List, [], ◌∷◌, Option, Some, None, refl, ap, ◌∙◌, rules}
use Rattle.std.specs.Cmp.Derive.{both_true}
use Rattle.std.proofs.lemmas.List.Folds.{list_all-append}
use Rattle.sv_source.specs.declared.token.Spot.{Spot}
use Rattle.sv_types.specs.declared.expression.Expr.{Expr}
use Rattle.sv_types.specs.declared.statement.CaseKind.{CaseKind}
use Rattle.sv_types.specs.declared.statement.CaseItem.{CaseItem}
use Rattle.sv_types.specs.declared.statement.Local.{Local}
use Rattle.sv_types.specs.declared.statement.Stmt.{Stmt, the_lemmas}
use Rattle.sv_types.specs.declared.statement.Stmt.TheVariants as V
use Rattle.sv_types.specs.Surroundings.{Parameter}
use Rattle.expr_flows.specs.Full.{is_full, all_full}
use Rattle.stmt_flows.specs.Full.{stmt_full, item_full, stmts_full, items_full, perhaps_full, written_start, written_starts}
use Rattle.full_calls.specs.Full.{FullIf}
use Rattle.full_calls.proofs.Parts.{of-one, of-two}

level-Block : (fs : ℕ → List Parameter) (ls : List Local) (ss : List Stmt) → stmt_full fs (V.Block ls ss) ≡ (all_full fs (written_starts ls) && stmts_full fs ss)
level-Block fs ls ss = search (rules, the_lemmas)

level-If : (fs : ℕ → List Parameter) (on : Expr) (body : Stmt) (other : Option Stmt) → stmt_full fs (V.If on body other) ≡ (all_full fs (on ∷ []) && (stmt_full fs body && perhaps_full fs other))
level-If fs on body None = search (rules, the_lemmas)
level-If fs on body (Some s) = search (rules, the_lemmas)

level-Case : (fs : ℕ → List Parameter) (kind : CaseKind) (on : Expr) (is : List CaseItem) (other : Option Stmt) → stmt_full fs (V.Case kind on is other) ≡ (all_full fs (on ∷ []) && (items_full fs is && perhaps_full fs other))
level-Case fs kind on is None = search (rules, the_lemmas)
level-Case fs kind on is (Some s) = search (rules, the_lemmas)

level-Loop : (fs : ℕ → List Parameter) (n : ℕ) (first test step : Expr) (body : Stmt) (spot : Spot) → stmt_full fs (V.Loop n first test step body spot) ≡ (all_full fs (first ∷ test ∷ step ∷ []) && stmt_full fs body)
level-Loop fs n first test step body spot = search (rules, the_lemmas)

level-Assign : (fs : ℕ → List Parameter) (to : List Expr) (value : Expr) (later : Bool) (spot : Spot) → stmt_full fs (V.Assign to value later spot) ≡ all_full fs (value ∷ to)
level-Assign fs to value later spot = search (rules, the_lemmas)

level-Call : (fs : ℕ → List Parameter) (f : ℕ) (es : List Expr) (spot : Spot) → stmt_full fs (V.Call f es spot) ≡ all_full fs es
level-Call fs f es spot = search (rules, the_lemmas)

level-Made : (fs : ℕ → List Parameter) (ls : List Local) (before : List Stmt) (body : Option Stmt) → stmt_full fs (V.Made ls before body) ≡ (all_full fs (written_starts ls) && (stmts_full fs before && perhaps_full fs body))
level-Made fs ls before None = search (rules, the_lemmas)
level-Made fs ls before (Some s) = search (rules, the_lemmas)

level-item : (fs : ℕ → List Parameter) (i : CaseItem) → item_full fs i ≡ (all_full fs i.values && stmt_full fs i.body)
level-item fs i = search (rules, the_lemmas)

alone : (fs : ℕ → List Parameter) (e : Expr) → is_full fs e ≡ true → all_full fs (e ∷ []) ≡ true
alone fs e h = both_true h refl

-- three parts
of-three : (b x y z q : Bool) → q ≡ (x && (y && z)) → x ≡ true → y ≡ true → FullIf b z → FullIf b q
of-three b x y z q is h k = of-two b y z q (is ∙ ap (λ p. p && (y && z)) h) k

pub by-Block : (b : Bool) (fs : ℕ → List Parameter) (s : Stmt) (ls : List Local) (ss : List Stmt) → s ≡ V.Block ls ss → all_full fs (written_starts ls) ≡ true → FullIf b (stmts_full fs ss) → FullIf b (stmt_full fs s)
by-Block b fs s ls ss is = of-two b (all_full fs (written_starts ls)) (stmts_full fs ss) (stmt_full fs s) (ap (stmt_full fs) is ∙ level-Block fs ls ss)

pub by-If : (b : Bool) (fs : ℕ → List Parameter) (s : Stmt) (on : Expr) (body : Stmt) (other : Option Stmt) → s ≡ V.If on body other → is_full fs on ≡ true → stmt_full fs body ≡ true → FullIf b (perhaps_full fs other) → FullIf b (stmt_full fs s)
by-If b fs s on body other is h = of-three b (all_full fs (on ∷ [])) (stmt_full fs body) (perhaps_full fs other) (stmt_full fs s) (ap (stmt_full fs) is ∙ level-If fs on body other) (alone fs on h)

pub by-Case : (b : Bool) (fs : ℕ → List Parameter) (s : Stmt) (kind : CaseKind) (on : Expr) (is : List CaseItem) (other : Option Stmt) → s ≡ V.Case kind on is other → is_full fs on ≡ true → items_full fs is ≡ true → FullIf b (perhaps_full fs other)
    → FullIf b (stmt_full fs s)
by-Case b fs s kind on is other at h = of-three b (all_full fs (on ∷ [])) (items_full fs is) (perhaps_full fs other) (stmt_full fs s) (ap (stmt_full fs) at ∙ level-Case fs kind on is other) (alone fs on h)

pub by-Loop : (b : Bool) (fs : ℕ → List Parameter) (s : Stmt) (n : ℕ) (first test step : Expr) (body : Stmt) (spot : Spot) → s ≡ V.Loop n first test step body spot → is_full fs first ≡ true → is_full fs test ≡ true → is_full fs step ≡ true → FullIf b (stmt_full fs body)
    → FullIf b (stmt_full fs s)
by-Loop b fs s n first test step body spot is h k m =
    of-two b (all_full fs (first ∷ test ∷ step ∷ [])) (stmt_full fs body) (stmt_full fs s) (ap (stmt_full fs) is ∙ level-Loop fs n first test step body spot) (both_true h (both_true k (alone fs step m)))

pub by-Assign : (b : Bool) (fs : ℕ → List Parameter) (s : Stmt) (to : List Expr) (value : Expr) (later : Bool) (spot : Spot) → s ≡ V.Assign to value later spot → is_full fs value ≡ true → FullIf b (all_full fs to) → FullIf b (stmt_full fs s)
by-Assign b fs s to value later spot is = of-two b (is_full fs value) (all_full fs to) (stmt_full fs s) (ap (stmt_full fs) is ∙ level-Assign fs to value later spot)

pub by-Call : (b : Bool) (fs : ℕ → List Parameter) (s : Stmt) (f : ℕ) (es : List Expr) (spot : Spot) → s ≡ V.Call f es spot → FullIf b (all_full fs es) → FullIf b (stmt_full fs s)
by-Call b fs s f es spot is = of-one b (all_full fs es) (stmt_full fs s) (ap (stmt_full fs) is ∙ level-Call fs f es spot)

pub by-Made : (b : Bool) (fs : ℕ → List Parameter) (s : Stmt) (ls : List Local) (before : List Stmt) (body : Option Stmt) → s ≡ V.Made ls before body → all_full fs (written_starts ls) ≡ true → stmts_full fs before ≡ true → FullIf b (perhaps_full fs body)
    → FullIf b (stmt_full fs s)
by-Made b fs s ls before body is = of-three b (all_full fs (written_starts ls)) (stmts_full fs before) (perhaps_full fs body) (stmt_full fs s) (ap (stmt_full fs) is ∙ level-Made fs ls before body)

pub by-Break : (fs : ℕ → List Parameter) (s : Stmt) → s ≡ V.Break → stmt_full fs s ≡ true
by-Break fs s is = ap (stmt_full fs) is ∙ search (rules, the_lemmas)

pub by-Continue : (fs : ℕ → List Parameter) (s : Stmt) → s ≡ V.Continue → stmt_full fs s ≡ true
by-Continue fs s is = ap (stmt_full fs) is ∙ search (rules, the_lemmas)

pub by-Return : (fs : ℕ → List Parameter) (s : Stmt) → s ≡ V.Return → stmt_full fs s ≡ true
by-Return fs s is = ap (stmt_full fs) is ∙ search (rules, the_lemmas)

pub by-item : (b : Bool) (fs : ℕ → List Parameter) (i : CaseItem) → all_full fs i.values ≡ true → FullIf b (stmt_full fs i.body) → FullIf b (item_full fs i)
by-item b fs i = of-two b (all_full fs i.values) (stmt_full fs i.body) (item_full fs i) (level-item fs i)

-- what locals start with
pub by-start : (b : Bool) (fs : ℕ → List Parameter) (l : Local) (e : Expr) → l.initial ≡ Some e → FullIf b (is_full fs e) → FullIf b (all_full fs (written_start l))
by-start true fs l e is f = ap (λ (o : Option Expr). all_full fs (elim o [ None ↦ [] | Some x ↦ x ∷ [] ])) is ∙ alone fs e f
by-start false fs l e is f = tt

pub by-nothing : (fs : ℕ → List Parameter) (l : Local) → l.initial ≡ None → all_full fs (written_start l) ≡ true
by-nothing fs l is = ap (λ (o : Option Expr). all_full fs (elim o [ None ↦ [] | Some x ↦ x ∷ [] ])) is

pub starts-cons : (fs : ℕ → List Parameter) (l : Local) (ls : List Local) → all_full fs (written_start l) ≡ true → all_full fs (written_starts ls) ≡ true → all_full fs (written_starts (l ∷ ls)) ≡ true
starts-cons fs l ls h k = list_all-append (is_full fs) (written_start l) (written_starts ls) ∙ both_true h k

pub ruleset statements = (by-Block, by-If, by-Case, by-Loop, by-Assign, by-Call, by-Made, by-Break, by-Continue, by-Return)

pub ruleset items = (by-item)

pub ruleset starts = (by-start, by-nothing)
