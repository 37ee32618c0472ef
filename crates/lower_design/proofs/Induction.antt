-- Induction over statements.
use Rattle.std.proofs.Common.{ℕ, Bool, List, map, Some, None, subst, sym}
use Rattle.row_machine.specs.Valuation.{Member}
use Rattle.sv_core.specs.declared.design.Expr.{Expr}
use Rattle.sv_core.specs.declared.design.Stmt.{Stmt, Stmt-F, ind-Stmt, roll-Stmt, map-Stmt}
use Rattle.sv_core.specs.declared.design.Stmt.TheVariants.{Block, If, Assign, rolls-Block, rolls-If, rolls-Assign}
use Rattle.row_machine.proofs.Members.{map-member}

-- what is to be shown of each kind of statement, where it holds of the statements inside
pub record Steps (P : Stmt → Type 0) : Type 0 where
  pub block : (ss : List Stmt) → ((s : Stmt) → Member ss s → P s) → P (Block ss)
  pub alone : (on : Expr) (body : Stmt) → P body → P (If on body None)
  pub either : (on : Expr) (body other : Stmt) → P body → P other → P (If on body (Some other))
  pub assign : (to : ℕ) (value : Expr) (later : Bool) → P (Assign to value later)

module _ (P : Stmt → Type 0) (steps : Steps P) where
  each : {A : Type 0} (f : A → Stmt) → ((a : A) → P (f a)) → (xs : List A) (s : Stmt) → Member (map f xs) s → P s
  each f h xs s m = let r = map-member f xs s m in subst P (sym r.2) (h r.0)

  level : (A : Type 0) (f : A → Stmt) → ((a : A) → P (f a)) → (y : Stmt-F A) → P (roll-Stmt (map-Stmt A Stmt f y))
  level A f h (Stmt-F.Block ys) = subst P (sym (rolls-Block (map f ys))) (steps.block (map f ys) (each f h ys))
  level A f h (Stmt-F.If on b None) = subst P (sym (rolls-If on (f b) None)) (steps.alone on (f b) (h b))
  level A f h (Stmt-F.If on b (Some o)) = subst P (sym (rolls-If on (f b) (Some (f o)))) (steps.either on (f b) (f o) (h b) (h o))
  level A f h (Stmt-F.Assign to value later) = subst P (sym (rolls-Assign to value later)) (steps.assign to value later)

  pub by_statement : (s : Stmt) → P s
  by_statement = ind-Stmt P (λ x y e. subst (λ z. P (roll-Stmt z)) e (level _ (λ a. a.0) (λ a. a.1) y))
