-- Assignments, and an operator between a target and a value.
use Rattle.std.proofs.Common.{◌≡◌, ℕ, Bool, List, Some, refl, sym, ap, subst}
use Rattle.std.specs.Prelude.{Result, Ok, Err}
use Rattle.sv_tree.specs.declared.operators.AssignmentOperator.{AssignmentOperator}
use Rattle.sv_tree.specs.declared.operators.BinaryOperator.{BinaryOperator}
use Rattle.sv_types.specs.declared.expression.Expr.{Expr}
use Rattle.sv_types.specs.declared.statement.Stmt.{Stmt}
use Rattle.sv_types.specs.declared.statement.Stmt.TheVariants as S
use Rattle.expr_type.specs.declared.halt.Halt.{Halt}
use Rattle.expr_type.specs.declared.halt.Halt.TheVariants as H
use Rattle.expr_type.specs.declared.operand.Valued.{Valued}
use Rattle.expr_type.specs.Answers.{Gives}
use Rattle.expr_type.specs.Names.{Context, spot}
use Rattle.expr_type.specs.Operands.{Operand, is_value}
use Rattle.expr_type.specs.Statements.{as_operand, assign, assignment, combined, is_later, operator_of}
use Rattle.expr_type.specs.Targets as D
use Rattle.expr_type.specs.Targets.{Target}
use Rattle.expr_type.specs.Typings.{Checked, where_whole}
use Rattle.typing_assigns.specs.Assigning.{StopsFirst, assigned_by, both_of}
use Rattle.typing_assigns.proofs.Joining.{where-stops}

where-fine : {A B : Type 0} (c : Checked A) (f : A → Checked B) (r : Result B Halt) (a : A) → Gives (Ok a) c → Gives r (f a) → Gives r (where_whole c f)
where-fine {A = A} c f r a p q = subst (λ (d : Checked A). Gives r (where_whole d f)) (sym p) q

abbrev with_left : Context → ℕ → BinaryOperator → Operand → Valued → Checked Operand
with_left k at op o l = where_whole (is_value k.source o) (both_of k at op l)

pub pair-stops : (k : Context) (at : ℕ) (op : BinaryOperator) (d : Target) (o : Operand) (a b : Result Valued Halt) (h : Halt) → StopsFirst a b h → Gives a (as_operand k d) → Gives b (is_value k.source o)
    → Gives {A = Operand} (Err h) (combined k at (Some op) d o)
pair-stops k at op d o (Ok l) b h s p q =
    where-fine (as_operand k d) (with_left k at op o) (Err h) l p
    (where-stops (is_value k.source o) (both_of k at op l) h (subst (λ (r : Result Valued Halt). Gives r (is_value k.source o)) s q))
pair-stops k at op d o (Err g) b h s p q = where-stops (as_operand k d) (with_left k at op o) h (subst (λ (e : Halt). Gives {A = Valued} (Err e) (as_operand k d)) s p)

pub pair-combines : (k : Context) (at : ℕ) (op : BinaryOperator) (d : Target) (o : Operand) (a b : Result Valued Halt) (l r : Valued) (v : Result Operand Halt) → a ≡ Ok l → b ≡ Ok r → Gives a (as_operand k d)
    → Gives b (is_value k.source o) → Gives v (both_of k at op l r) → Gives v (combined k at (Some op) d o)
pair-combines k at op d o a b l r v e f p q s =
    where-fine (as_operand k d) (with_left k at op o) v l (subst (λ (x : Result Valued Halt). Gives x (as_operand k d)) e p)
    (where-fine (is_value k.source o) (both_of k at op l) v r (subst (λ (x : Result Valued Halt). Gives x (is_value k.source o)) f q) s)

pub ruleset pairing = (pair-stops, pair-combines)

-- the statement, by its parts and its value
made-by : (c : Checked Operand) (f : Operand → Checked Expr) (g : Expr → Checked Stmt) → where_whole (where_whole c f) g ≡ where_whole c (λ v. where_whole (f v) g)
made-by (Ok v) f g = refl
made-by (Err b) f g = refl

abbrev made_of : Context → ℕ → AssignmentOperator → Target → Expr → Checked Stmt
made_of k at op d e = Ok (assign k at (is_later op) d e)

by-value : (k : Context) (at : ℕ) (op : AssignmentOperator) (d : Target) (o : Operand) (r : Result Stmt Halt) → Gives r (where_whole (assigned_by k at op d o) (made_of k at op d)) → Gives r (assignment k at op d o)
by-value k at op d o r g = subst (λ (c : Checked Stmt). Gives r c) (made-by (combined k at (operator_of op) d o) (D.assigned k d) (made_of k at op d)) g

pub assignment-stops : (k : Context) (at : ℕ) (op : AssignmentOperator) (d : Target) (o : Operand) (a : Result (List Expr) Halt) (b : Result Expr Halt) (h : Halt) → StopsFirst a b h → Gives a (Ok (D.parts_of d))
    → Gives b (assigned_by k at op d o) → Gives {A = Stmt} (Err h) (assignment k at op d o)
assignment-stops k at op d o (Ok es) b h s p q =
    by-value k at op d o (Err h) (where-stops (assigned_by k at op d o) (made_of k at op d) h (subst (λ (x : Result Expr Halt). Gives x (assigned_by k at op d o)) s q))
assignment-stops k at op d o (Err H.Memory) b h s p q = subst (λ (e : Halt). Gives {A = Stmt} (Err e) (assignment k at op d o)) s tt
assignment-stops k at op d o (Err (H.Breaks n rule)) b h s p q = absurd (cc)
assignment-stops k at op d o (Err H.Quiet) b h s p q = absurd (cc)

pub assignment-types : (k : Context) (at : ℕ) (op : AssignmentOperator) (d : Target) (o : Operand) (a : Result (List Expr) Halt) (b : Result Expr Halt) (es : List Expr) (e : Expr) (later : Bool) (s : Stmt)
    → a ≡ Ok es → b ≡ Ok e → Gives a (Ok (D.parts_of d)) → Gives b (assigned_by k at op d o) → later ≡ is_later op → s ≡ S.Assign es e later (spot k.source at) → Gives (Ok s) (assignment k at op d o)
assignment-types k at op d o a b es e later s f g p q l is =
    let parts = subst (λ (x : Result (List Expr) Halt). Gives x (Ok (D.parts_of d))) f p in
    let same : D.parts_of d ≡ es = cc in
    let made : s ≡ S.Assign (D.parts_of d) e (is_later op) (spot k.source at) = cc in
    by-value k at op d o (Ok s)
    (where-fine (assigned_by k at op d o) (made_of k at op d) (Ok s) e (subst (λ (x : Result Expr Halt). Gives x (assigned_by k at op d o)) g q) (ap (λ (t : Stmt). ok t) (sym made)))
  where
    ok : Stmt → Checked Stmt
    ok t = Ok t

pub ruleset assignments = (assignment-stops, assignment-types)
