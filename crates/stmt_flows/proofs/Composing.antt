-- Statements from what is known of their parts.
use Rattle.std.proofs.Common.{◌≡◌, ◌≤◌, ℕ, Bool, List, [], ◌∷◌, map, Option, Some, None, Result, inr, refl, arith, ap, sym, subst}
use Rattle.sv_types.specs.declared.expression.Expr.{Expr}
use Rattle.sv_types.specs.declared.statement.Local.{Local}
use Rattle.sv_types.specs.declared.statement.Stmt.{Stmt}
use Rattle.sv_types.specs.Surroundings.{Sight}
use Rattle.sv_types.specs.Flows as F
use Rattle.sv_types.specs.Flows.{Flow, Flows}
use Rattle.sv_types.specs.Statements.{doing, made, scope_flow}
use Rattle.eval_stmts.specs.Limits.{perhaps}
use Rattle.flow_sets.specs.declared.found.Found.{Found}
use Rattle.stmt_flows.specs.declared.fails.StmtFail.{StmtFail}
use Rattle.stmt_flows.specs.Gives.{FoundGives, flows_of, perhaps_flow}
use Rattle.stmt_flows.specs.Long.{LongIn, LongInOne, those}
use Rattle.stmt_flows.specs.Statements.{LongInIf, LongInMade, if_flow}
use Rattle.stmt_flows.proofs.Passing as P
use Rattle.stmt_flows.proofs.Scoping as C

-- an `if`: how many statements its branches have
pub if-body-counts : (on : Expr) (body : Stmt) (other : Option Stmt) (h : Sight) → ((doing body).flow h).statements ≤ (if_flow on body other h).statements
if-body-counts on body other h = omega arith

pub if-other-counts : (on : Expr) (body : Stmt) (other : Option Stmt) (h : Sight) → (perhaps_flow other h).statements ≤ (if_flow on body other h).statements
if-other-counts on body other h = omega arith

pub if-body-long : (h : Sight) (on : Expr) (body : Stmt) (other : Option Stmt) (at : ℕ) → LongIn h body at → LongInIf h on body other at
if-body-long h on body other at l = inr (P.this-one h body (those other) at l)

pub if-other-long : (h : Sight) (on : Expr) (body : Stmt) (other : Option Stmt) (at : ℕ) → LongInOne h (those other) at → LongInIf h on body other at
if-other-long h on body other at l = inr (P.other-one h body (those other) at l)

-- one that may be left out
pub perhaps-gives : (r : Result Found StmtFail) (counting : Bool) (h : Sight) (s : Stmt) (o : Option Stmt) → o ≡ Some s → FoundGives r counting (LongIn h s) ((doing s).flow h) → FoundGives r counting (LongInOne h (those o)) (perhaps_flow o h)
perhaps-gives r counting h s o is g =
    subst (λ x. FoundGives r counting (LongInOne h (those x)) (perhaps_flow x h)) (sym is) (P.relabel r counting (LongIn h s) (LongInOne h (s ∷ [])) ((doing s).flow h) ((doing s).flow h) refl (P.this-one h s []) g)

-- what stands for a replaced call
pub bare-made-is : (ls : List Local) (before : List Stmt) (o : Option Stmt) (h : Sight) → o ≡ None → F.counted (record (scope_flow ls (F.in_turn (flows_of before)) h) { statements = 0 }) ≡ (made ls (map doing before) (perhaps o)).flow h
bare-made-is ls before o h is = ap (λ x. (made ls (map doing before) (perhaps x)).flow h) (sym is)

pub made-is : (ls : List Local) (before : List Stmt) (s : Stmt) (o : Option Stmt) (h : Sight) → o ≡ Some s
    → scope_flow ls (λ k. F.and_then (record (F.in_turn (flows_of before) k) { statements = 0 }) ((doing s).flow k)) h ≡ (made ls (map doing before) (perhaps o)).flow h
made-is ls before s o h is = ap (λ x. (made ls (map doing before) (perhaps x)).flow h) (sym is)

pub made-counts : (ls : List Local) (before : List Stmt) (s : Stmt) (o : Option Stmt) (h : Sight) → o ≡ Some s → ((doing s).flow h).statements ≤ ((made ls (map doing before) (perhaps o)).flow h).statements
made-counts ls before s o h is =
    subst (λ (f : Flow). ((doing s).flow h).statements ≤ f.statements) (made-is ls before s o h is)
    (omega (arith, C.scope-counts ls (λ k. F.and_then (record (F.in_turn (flows_of before) k) { statements = 0 }) ((doing s).flow k)) h))

pub made-before-long : (h : Sight) (ls : List Local) (before : List Stmt) (o : Option Stmt) (at : ℕ) → LongInOne h before at → LongInMade h ls before o at
made-before-long h ls before o at l = inr (P.front-one h before (those o) at l)

pub made-body-long : (h : Sight) (ls : List Local) (before : List Stmt) (s : Stmt) (o : Option Stmt) → o ≡ Some s → (at : ℕ) → LongIn h s at → LongInMade h ls before o at
made-body-long h ls before s o is at l = inr (P.back-one h before (those o) at (subst (λ x. LongInOne h (those x) at) (sym is) (P.this-one h s [] at l)))
