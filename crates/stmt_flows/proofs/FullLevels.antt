-- Whether calls in statements pass no more than there are formals, one level at a time.
use Rattle.std.proofs.Common.{◌≡◌, ℕ, Bool, true, ◌&&◌, List, [], ◌∷◌, ◌++◌, Option, Some, None, refl, ap, sym, ◌∙◌, rules}
use Rattle.std.proofs.lemmas.Bool.{and_parts}
use Rattle.std.proofs.lemmas.List.Folds.{list_all-append}
use Rattle.sv_source.specs.declared.token.Spot.{Spot}
use Rattle.sv_types.specs.declared.expression.Expr.{Expr}
use Rattle.sv_types.specs.declared.statement.CaseKind.{CaseKind}
use Rattle.sv_types.specs.declared.statement.CaseItem.{CaseItem}
use Rattle.sv_types.specs.declared.statement.Local.{Local}
use Rattle.sv_types.specs.declared.statement.Stmt.{Stmt, the_lemmas}
use Rattle.sv_types.specs.declared.statement.Stmt.TheVariants as V
use Rattle.sv_types.specs.Surroundings.{Parameter}
use Rattle.expr_flows.specs.Full.{is_full, all_full}
use Rattle.stmt_flows.specs.Full.{stmt_full, item_full, stmts_full, items_full, perhaps_full, written_starts}
use Rattle.stmt_flows.specs.Long.{item_values}

level-Block : (fs : ℕ → List Parameter) (ls : List Local) (ss : List Stmt) → stmt_full fs (V.Block ls ss) ≡ (all_full fs (written_starts ls) && stmts_full fs ss)
level-Block fs ls ss = search (rules, the_lemmas)

level-If : (fs : ℕ → List Parameter) (on : Expr) (body : Stmt) (other : Option Stmt) → stmt_full fs (V.If on body other) ≡ (all_full fs (on ∷ []) && (stmt_full fs body && perhaps_full fs other))
level-If fs on body None = search (rules, the_lemmas)
level-If fs on body (Some s) = search (rules, the_lemmas)

level-Case : (fs : ℕ → List Parameter) (kind : CaseKind) (on : Expr) (is : List CaseItem) (other : Option Stmt) → stmt_full fs (V.Case kind on is other) ≡ (all_full fs (on ∷ []) && (items_full fs is && perhaps_full fs other))
level-Case fs kind on is None = search (rules, the_lemmas)
level-Case fs kind on is (Some s) = search (rules, the_lemmas)

level-Loop : (fs : ℕ → List Parameter) (n : ℕ) (first test step : Expr) (body : Stmt) (spot : Spot) → stmt_full fs (V.Loop n first test step body spot) ≡ (all_full fs (first ∷ test ∷ step ∷ []) && stmt_full fs body)
level-Loop fs n first test step body spot = search (rules, the_lemmas)

level-Assign : (fs : ℕ → List Parameter) (to : List Expr) (value : Expr) (later : Bool) (spot : Spot) → stmt_full fs (V.Assign to value later spot) ≡ all_full fs (value ∷ to)
level-Assign fs to value later spot = search (rules, the_lemmas)

level-Call : (fs : ℕ → List Parameter) (f : ℕ) (es : List Expr) (spot : Spot) → stmt_full fs (V.Call f es spot) ≡ all_full fs es
level-Call fs f es spot = search (rules, the_lemmas)

level-Made : (fs : ℕ → List Parameter) (ls : List Local) (before : List Stmt) (body : Option Stmt) → stmt_full fs (V.Made ls before body) ≡ (all_full fs (written_starts ls) && (stmts_full fs before && perhaps_full fs body))
level-Made fs ls before None = search (rules, the_lemmas)
level-Made fs ls before (Some s) = search (rules, the_lemmas)

level-item : (fs : ℕ → List Parameter) (i : CaseItem) → item_full fs i ≡ (all_full fs i.values && stmt_full fs i.body)
level-item fs i = search (rules, the_lemmas)

-- the parts of a full statement are full

pub full-Block : (fs : ℕ → List Parameter) (s : Stmt) (ls : List Local) (ss : List Stmt) → s ≡ V.Block ls ss → stmt_full fs s ≡ true → (all_full fs (written_starts ls) ≡ true) × (stmts_full fs ss ≡ true)
full-Block fs s ls ss is h = and_parts (all_full fs (written_starts ls)) (stmts_full fs ss) (sym (ap (stmt_full fs) is ∙ level-Block fs ls ss) ∙ h)

pub full-If : (fs : ℕ → List Parameter) (s : Stmt) (on : Expr) (body : Stmt) (other : Option Stmt) → s ≡ V.If on body other → stmt_full fs s ≡ true → (is_full fs on ≡ true) × ((stmt_full fs body ≡ true) × (perhaps_full fs other ≡ true))
full-If fs s on body other is h =
    let p = and_parts (all_full fs (on ∷ [])) (stmt_full fs body && perhaps_full fs other) (sym (ap (stmt_full fs) is ∙ level-If fs on body other) ∙ h) in
    ((and_parts (is_full fs on) true p.0).0, and_parts (stmt_full fs body) (perhaps_full fs other) p.1)

pub full-Case : (fs : ℕ → List Parameter) (s : Stmt) (kind : CaseKind) (on : Expr) (is : List CaseItem) (other : Option Stmt) → s ≡ V.Case kind on is other → stmt_full fs s ≡ true
    → (is_full fs on ≡ true) × ((items_full fs is ≡ true) × (perhaps_full fs other ≡ true))
full-Case fs s kind on is other at h =
    let p = and_parts (all_full fs (on ∷ [])) (items_full fs is && perhaps_full fs other) (sym (ap (stmt_full fs) at ∙ level-Case fs kind on is other) ∙ h) in
    ((and_parts (is_full fs on) true p.0).0, and_parts (items_full fs is) (perhaps_full fs other) p.1)

pub full-Loop : (fs : ℕ → List Parameter) (s : Stmt) (n : ℕ) (first test step : Expr) (body : Stmt) (spot : Spot) → s ≡ V.Loop n first test step body spot → stmt_full fs s ≡ true
    → (all_full fs (first ∷ test ∷ step ∷ []) ≡ true) × (stmt_full fs body ≡ true)
full-Loop fs s n first test step body spot is h = and_parts (all_full fs (first ∷ test ∷ step ∷ [])) (stmt_full fs body) (sym (ap (stmt_full fs) is ∙ level-Loop fs n first test step body spot) ∙ h)

pub full-Assign : (fs : ℕ → List Parameter) (s : Stmt) (to : List Expr) (value : Expr) (later : Bool) (spot : Spot) → s ≡ V.Assign to value later spot → stmt_full fs s ≡ true → (is_full fs value ≡ true) × (all_full fs to ≡ true)
full-Assign fs s to value later spot is h = and_parts (is_full fs value) (all_full fs to) (sym (ap (stmt_full fs) is ∙ level-Assign fs to value later spot) ∙ h)

pub full-Call : (fs : ℕ → List Parameter) (s : Stmt) (f : ℕ) (es : List Expr) (spot : Spot) → s ≡ V.Call f es spot → stmt_full fs s ≡ true → all_full fs es ≡ true
full-Call fs s f es spot is h = sym (ap (stmt_full fs) is ∙ level-Call fs f es spot) ∙ h

pub full-Made : (fs : ℕ → List Parameter) (s : Stmt) (ls : List Local) (before : List Stmt) (body : Option Stmt) → s ≡ V.Made ls before body → stmt_full fs s ≡ true
    → (all_full fs (written_starts ls) ≡ true) × ((stmts_full fs before ≡ true) × (perhaps_full fs body ≡ true))
full-Made fs s ls before body is h =
    let p = and_parts (all_full fs (written_starts ls)) (stmts_full fs before && perhaps_full fs body) (sym (ap (stmt_full fs) is ∙ level-Made fs ls before body) ∙ h) in
    (p.0, and_parts (stmts_full fs before) (perhaps_full fs body) p.1)

-- statements and items, one in front of others
pub first-full : (fs : ℕ → List Parameter) (s : Stmt) (ss : List Stmt) → stmts_full fs (s ∷ ss) ≡ true → stmt_full fs s ≡ true
first-full fs s ss h = (and_parts (stmt_full fs s) (stmts_full fs ss) h).0

pub front-full : (fs : ℕ → List Parameter) (xs ys : List Stmt) → stmts_full fs (xs ++ ys) ≡ true → stmts_full fs xs ≡ true
front-full fs [] ys h = refl
front-full fs (x ∷ xs) ys h = let p = and_parts (stmt_full fs x) (stmts_full fs (xs ++ ys)) h in ap (λ b. b && stmts_full fs xs) p.0 ∙ front-full fs xs ys p.1

pub back-full : (fs : ℕ → List Parameter) (xs ys : List Stmt) → stmts_full fs (xs ++ ys) ≡ true → stmts_full fs ys ≡ true
back-full fs [] ys h = h
back-full fs (x ∷ xs) ys h = back-full fs xs ys (and_parts (stmt_full fs x) (stmts_full fs (xs ++ ys)) h).1

pub item-full : (fs : ℕ → List Parameter) (i : CaseItem) (is : List CaseItem) → items_full fs (i ∷ is) ≡ true → (all_full fs i.values ≡ true) × (stmt_full fs i.body ≡ true)
item-full fs i is h = and_parts (all_full fs i.values) (stmt_full fs i.body) (sym (level-item fs i) ∙ (and_parts (item_full fs i) (items_full fs is) h).0)

pub front-items : (fs : ℕ → List Parameter) (xs ys : List CaseItem) → items_full fs (xs ++ ys) ≡ true → items_full fs xs ≡ true
front-items fs [] ys h = refl
front-items fs (x ∷ xs) ys h = let p = and_parts (item_full fs x) (items_full fs (xs ++ ys)) h in ap (λ b. b && items_full fs xs) p.0 ∙ front-items fs xs ys p.1

pub back-items : (fs : ℕ → List Parameter) (xs ys : List CaseItem) → items_full fs (xs ++ ys) ≡ true → items_full fs ys ≡ true
back-items fs [] ys h = h
back-items fs (x ∷ xs) ys h = back-items fs xs ys (and_parts (item_full fs x) (items_full fs (xs ++ ys)) h).1

pub values-full : (fs : ℕ → List Parameter) (is : List CaseItem) → items_full fs is ≡ true → all_full fs (item_values is) ≡ true
values-full fs [] h = refl
values-full fs (i ∷ is) h =
    list_all-append (is_full fs) i.values (item_values is)
    ∙ ap (λ b. b && all_full fs (item_values is)) (item-full fs i is h).0 ∙ values-full fs is (and_parts (item_full fs i) (items_full fs is) h).1
