-- Induction over statements, of which those that have a core form are told apart.
use Rattle.std.proofs.Common.{◌≡◌, ℕ, Bool, List, [], ◌∷◌, map, Option, Some, None, sym, subst}
use Rattle.sv_source.specs.declared.token.Spot.{Spot}
use Rattle.sv_types.specs.declared.expression.Expr.{Expr}
use Rattle.sv_types.specs.declared.statement.Local.{Local}
use Rattle.sv_types.specs.declared.statement.Stmt.{Stmt, Stmt-F, ind-Stmt, roll-Stmt, map-Stmt}
use Rattle.sv_types.specs.declared.statement.Stmt.TheVariants as V
use Rattle.sv_types.specs.declared.statement.CaseItem.{CaseItem, CaseItem-F, roll-CaseItem, map-CaseItem}
use Rattle.core_forms.specs.Forms.{stmt_of}
use Rattle.core_forms.proofs.Levels.{of-Case, of-Loop, of-Call, of-Made, of-Break, of-Continue, of-Return}

abbrev pub Each : (Stmt → Type 0) → List Stmt → Type 0
Each P [] = Unit {0}
Each P (s ∷ ss) = P s × Each P ss

abbrev pub OrNone : (Stmt → Type 0) → Option Stmt → Type 0
OrNone P None = Unit {0}
OrNone P (Some s) = P s

-- what each kind of statement needs
pub record Steps (P : Stmt → Type 0) : Type 0 where
  pub block : (ls : List Local) (ss : List Stmt) → Each P ss → P (V.Block ls ss)
  pub branch : (on : Expr) (body : Stmt) (other : Option Stmt) → P body → OrNone P other → P (V.If on body other)
  pub assign : (to : List Expr) (value : Expr) (later : Bool) (spot : Spot) → P (V.Assign to value later spot)
  pub other : (s : Stmt) → stmt_of s ≡ None → P s

module _ (P : Stmt → Type 0) (steps : Steps P) where
  abbrev AStmt : Type 0
  AStmt = (x : Stmt) × P x

  abbrev AnItem : Type 0
  AnItem = (x : CaseItem) × Unit {0}

  each-stmt : (ys : List AStmt) → Each P (map (λ e. e.0) ys)
  each-stmt [] = tt
  each-stmt (y ∷ ys) = (y.1, each-stmt ys)

  level : (y : Stmt-F AStmt AnItem) → P (roll-Stmt (map-Stmt AStmt AnItem Stmt CaseItem (λ e. e.0) (λ e. e.0) y))
  level (Stmt-F.Block ls ss) = subst P (sym (V.rolls-Block ls (map (λ e. e.0) ss))) (steps.block ls (map (λ e. e.0) ss) (each-stmt ss))
  level (Stmt-F.If on b None) = subst P (sym (V.rolls-If on b.0 None)) (steps.branch on b.0 None b.1 tt)
  level (Stmt-F.If on b (Some o)) = subst P (sym (V.rolls-If on b.0 (Some o.0))) (steps.branch on b.0 (Some o.0) b.1 o.1)
  level (Stmt-F.Case kind on is None) = subst P (sym (V.rolls-Case kind on (map (λ e. e.0) is) None)) (steps.other _ (of-Case kind on (map (λ e. e.0) is) None))
  level (Stmt-F.Case kind on is (Some o)) =
      subst P (sym (V.rolls-Case kind on (map (λ e. e.0) is) (Some o.0))) (steps.other _ (of-Case kind on (map (λ e. e.0) is) (Some o.0)))
  level (Stmt-F.Loop n first test step b spot) = subst P (sym (V.rolls-Loop n first test step b.0 spot)) (steps.other _ (of-Loop n first test step b.0 spot))
  level (Stmt-F.Assign to value later spot) = subst P (sym (V.rolls-Assign to value later spot)) (steps.assign to value later spot)
  level (Stmt-F.Call f es spot) = subst P (sym (V.rolls-Call f es spot)) (steps.other _ (of-Call f es spot))
  level (Stmt-F.Made ls ss None) = subst P (sym (V.rolls-Made ls (map (λ e. e.0) ss) None)) (steps.other _ (of-Made ls (map (λ e. e.0) ss) None))
  level (Stmt-F.Made ls ss (Some b)) = subst P (sym (V.rolls-Made ls (map (λ e. e.0) ss) (Some b.0))) (steps.other _ (of-Made ls (map (λ e. e.0) ss) (Some b.0)))
  level Stmt-F.Break = subst P (sym V.rolls-Break) (steps.other _ of-Break)
  level Stmt-F.Continue = subst P (sym V.rolls-Continue) (steps.other _ of-Continue)
  level Stmt-F.Return = subst P (sym V.rolls-Return) (steps.other _ of-Return)

  pub by_statement : (x : Stmt) → P x
  by_statement = ind-Stmt P (λ i. Unit {0}) (λ x y is. subst (λ z. P (roll-Stmt z)) is (level y)) (λ x y is. tt)
