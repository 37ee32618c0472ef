-- Induction over statements.
use Rattle.std.proofs.Common.{ℕ, Bool, List, [], ◌∷◌, map, Option, Some, None, sym, subst}
use Rattle.sv_types.specs.declared.expression.Expr.{Expr}
use Rattle.sv_types.specs.declared.statement.CaseKind.{CaseKind}
use Rattle.sv_types.specs.declared.statement.Local.{Local}
use Rattle.sv_types.specs.declared.statement.Stmt.{Stmt, Stmt-F, ind-Stmt, roll-Stmt, map-Stmt}
use Rattle.sv_types.specs.declared.statement.Stmt.TheVariants as V
use Rattle.sv_types.specs.declared.statement.CaseItem.{CaseItem, CaseItem-F, roll-CaseItem, map-CaseItem}
use Rattle.sv_source.specs.declared.token.Spot.{Spot}

abbrev pub Each : {A : Type 0} → (A → Type 0) → List A → Type 0
Each P [] = Unit {0}
Each P (x ∷ xs) = P x × Each P xs

abbrev pub OrNone : (Stmt → Type 0) → Option Stmt → Type 0
OrNone P None = Unit {0}
OrNone P (Some s) = P s

-- what each kind of statement needs
pub record Steps (P : Stmt → Type 0) (Q : CaseItem → Type 0) : Type 0 where
  pub item : (i : CaseItem) → P i.body → Q i
  pub block : (ls : List Local) (ss : List Stmt) → Each P ss → P (V.Block ls ss)
  pub branch : (on : Expr) (body : Stmt) (other : Option Stmt) → P body → OrNone P other → P (V.If on body other)
  pub select : (kind : CaseKind) (on : Expr) (is : List CaseItem) (other : Option Stmt) → Each Q is → OrNone P other → P (V.Case kind on is other)
  pub loop : (n : ℕ) (first test step : Expr) (body : Stmt) (spot : Spot) → P body → P (V.Loop n first test step body spot)
  pub assign : (to : List Expr) (value : Expr) (later : Bool) (spot : Spot) → P (V.Assign to value later spot)
  pub call : (f : ℕ) (es : List Expr) (spot : Spot) → P (V.Call f es spot)
  pub made : (ls : List Local) (ss : List Stmt) (body : Option Stmt) → Each P ss → OrNone P body → P (V.Made ls ss body)
  pub breaks : P V.Break
  pub continues : P V.Continue
  pub returns : P V.Return

module _ (P : Stmt → Type 0) (Q : CaseItem → Type 0) (steps : Steps P Q) where
  abbrev AStmt : Type 0
  AStmt = (x : Stmt) × P x

  abbrev AnItem : Type 0
  AnItem = (x : CaseItem) × Q x

  each-stmt : (ys : List AStmt) → Each P (map (λ e. e.0) ys)
  each-stmt [] = tt
  each-stmt (y ∷ ys) = (y.1, each-stmt ys)

  each-item : (ys : List AnItem) → Each Q (map (λ e. e.0) ys)
  each-item [] = tt
  each-item (y ∷ ys) = (y.1, each-item ys)

  stmt-level : (y : Stmt-F AStmt AnItem) → P (roll-Stmt (map-Stmt AStmt AnItem Stmt CaseItem (λ e. e.0) (λ e. e.0) y))
  stmt-level (Stmt-F.Block ls ss) = subst P (sym (V.rolls-Block ls (map (λ e. e.0) ss))) (steps.block ls (map (λ e. e.0) ss) (each-stmt ss))
  stmt-level (Stmt-F.If on b None) = subst P (sym (V.rolls-If on b.0 None)) (steps.branch on b.0 None b.1 tt)
  stmt-level (Stmt-F.If on b (Some o)) = subst P (sym (V.rolls-If on b.0 (Some o.0))) (steps.branch on b.0 (Some o.0) b.1 o.1)
  stmt-level (Stmt-F.Case kind on is None) = subst P (sym (V.rolls-Case kind on (map (λ e. e.0) is) None)) (steps.select kind on (map (λ e. e.0) is) None (each-item is) tt)
  stmt-level (Stmt-F.Case kind on is (Some o)) = subst P (sym (V.rolls-Case kind on (map (λ e. e.0) is) (Some o.0))) (steps.select kind on (map (λ e. e.0) is) (Some o.0) (each-item is) o.1)
  stmt-level (Stmt-F.Loop n first test step b spot) = subst P (sym (V.rolls-Loop n first test step b.0 spot)) (steps.loop n first test step b.0 spot b.1)
  stmt-level (Stmt-F.Assign to value later spot) = subst P (sym (V.rolls-Assign to value later spot)) (steps.assign to value later spot)
  stmt-level (Stmt-F.Call f es spot) = subst P (sym (V.rolls-Call f es spot)) (steps.call f es spot)
  stmt-level (Stmt-F.Made ls ss None) = subst P (sym (V.rolls-Made ls (map (λ e. e.0) ss) None)) (steps.made ls (map (λ e. e.0) ss) None (each-stmt ss) tt)
  stmt-level (Stmt-F.Made ls ss (Some b)) = subst P (sym (V.rolls-Made ls (map (λ e. e.0) ss) (Some b.0))) (steps.made ls (map (λ e. e.0) ss) (Some b.0) (each-stmt ss) b.1)
  stmt-level Stmt-F.Break = subst P (sym V.rolls-Break) steps.breaks
  stmt-level Stmt-F.Continue = subst P (sym V.rolls-Continue) steps.continues
  stmt-level Stmt-F.Return = subst P (sym V.rolls-Return) steps.returns

  item-level : (y : CaseItem-F AStmt AnItem) → Q (roll-CaseItem (map-CaseItem AStmt AnItem Stmt CaseItem (λ e. e.0) (λ e. e.0) y))
  item-level y = steps.item (roll-CaseItem (map-CaseItem AStmt AnItem Stmt CaseItem (λ e. e.0) (λ e. e.0) y)) y.body.1

  pub by-stmt : (x : Stmt) → P x
  by-stmt = ind-Stmt P Q (λ x y is. subst (λ z. P (roll-Stmt z)) is (stmt-level y)) (λ x y is. subst (λ z. Q (roll-CaseItem z)) is (item-level y))
