-- Assignments of what is typed.
use Rattle.std.specs.Prelude.{◌≡◌, ℕ, List, Result, Ok, Err}
use Rattle.sv_tree.specs.declared.operators.AssignmentOperator.{AssignmentOperator}
use Rattle.sv_tree.specs.declared.operators.BinaryOperator.{BinaryOperator}
use Rattle.sv_types.specs.declared.expression.Expr.{Expr}
use Rattle.sv_types.specs.declared.expression.Form.{Form}
use Rattle.sv_types.specs.declared.expression.Form.TheVariants as F
use Rattle.expr_type.specs.declared.halt.Halt.{Halt}
use Rattle.expr_type.specs.declared.operand.Valued.{Valued}
use Rattle.expr_type.specs.Names.{Context}
use Rattle.expr_type.specs.Operands.{Operand, Plain}
use Rattle.expr_type.specs.Operators.{binary_of}
use Rattle.expr_type.specs.Statements.{combined, operator_of}
use Rattle.expr_type.specs.Targets.{Target, assigned}
use Rattle.expr_type.specs.Typings.{Checked, where_whole}

-- of a concatenation these are the operands
abbrev pub IsOperands : Form → List Expr → Type 0
IsOperands f es = (os : List Expr) → f ≡ F.Concat os → es ≡ os

-- both of two answers, or what the first of them that isn't whole stops by
abbrev pub StopsFirst : {A B : Type 0} → Result A Halt → Result B Halt → Halt → Type 0
StopsFirst (Ok a) b h = b ≡ Err h
StopsFirst (Err g) b h = g ≡ h

abbrev pub Pairs : {A B : Type 0} → Result A Halt → Result B Halt → Result (A × B) Halt → Type 0
Pairs a b (Ok p) = (a ≡ Ok p.0) × (b ≡ Ok p.1)
Pairs a b (Err h) = StopsFirst a b h

-- an operator of an assignment between two values
abbrev pub both_of : Context → ℕ → BinaryOperator → Valued → Valued → Checked Operand
both_of k at op l r = where_whole (binary_of op k.source at l r) (λ v. Ok (Plain v))

-- what an assignment gives to its target
abbrev pub assigned_by : Context → ℕ → AssignmentOperator → Target → Operand → Checked Expr
assigned_by k at op t o = where_whole (combined k at (operator_of op) t o) (λ v. assigned k t v)
