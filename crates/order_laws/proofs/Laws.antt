-- All trees together.
use Rattle.std.proofs.Common.{ℕ, ◌≤◌, Option, Some, None, false}
use Rattle.std.specs.Prelude.{Ok}
use Rattle.sv_tree.specs.declared.expressions.Expr.{Expr}
use Rattle.sv_tree.specs.declared.operators.AssignmentOperator.TheVariants as A
use Rattle.sv_types.specs.declared.types.SvType.{SvType}
use Rattle.expr_type.specs.Typings.{rule}
use Rattle.expr_type.specs.Names.{Context}
use Rattle.expr_type.specs.Operands.{Operand, is_value}
use Rattle.expr_type.specs.Expressions.{given_if, operand, typed_expr}
use Rattle.expr_type.specs.Statements.{continuous, parameters, typed_stmt}
use Rattle.expr_type.specs.Placed.{Ascend, OperandStands, RoutinesInOrder, Stands}
use Rattle.order_laws.specs.Laws.{TreesKeepOrder}
use Rattle.order_laws.specs.Ordered.{expr_tokens}
use Rattle.order_laws.proofs.Typings.{PlacedAs, TypedAs, as-checked, as-then}
use Rattle.order_laws.proofs.Operands.{placed-from}
use Rattle.order_laws.proofs.Parts.{PartsInOrder}
use Rattle.order_laws.proofs.Given.{given-stands, value-stands}
use Rattle.order_laws.proofs.Declared.{operand-in, parameters-in}
use Rattle.order_laws.proofs.Assignments.{assign-in}
use Rattle.order_laws.proofs.Walk.{stmt-in-order}
use Rattle.order_laws.proofs.Routines.{routines-in-order}

given-or-alone : (k : Context) (want : Option SvType) (o : Operand) (low high : ℕ) → OperandStands k.source.instance low high o → PlacedAs (λ e. Unit {0}) k.source.instance low high (given_if k.source want o)
given-or-alone k None o low high s =
    as-then k.source.instance (Stands low high) (λ e. Unit {0}) (is_value k.source o) (λ v. Ok v.expr) low high (value-stands k.source low high o s) (λ v t. tt)
given-or-alone k (Some t) o low high s = given-stands k.source low high t o s

module _ (parts : PartsInOrder) where
  expr-in-order : (e : Expr) (want : Option SvType) (low high : ℕ) → low ≤ high → Ascend low high (expr_tokens e) → (k : Context) → RoutinesInOrder k
      → TypedAs (λ e. Unit {0}) k.source.instance low high (typed_expr k e want)
  expr-in-order e want low high h a k rs =
      as-checked k.source.instance (OperandStands k.source.instance low high) (λ e. Unit {0}) (operand k e) (λ o. rule (given_if k.source want o)) low high (operand-in parts k e low high rs h a)
      (λ o s fs. given-or-alone k want o low high s)

  pub keep-order : TreesKeepOrder
  keep-order = record {
    expr = λ e want low high h a k rs. placed-from k.source.instance low high (λ a. Unit {0}) (typed_expr k e want) (expr-in-order e want low high h a k rs);
    text = λ t low high h a k rs. parts.text t low high h a k rs;
    parameters = λ before bs low high h a k rs. placed-from k.source.instance low high (λ a. Unit {0}) (parameters k before bs) (parameters-in parts k before bs low high rs h a);
    assignment = λ to at e low high h a k rs. placed-from k.source.instance low high (λ a. Unit {0}) (continuous k to at e) (assign-in parts k to false at A.Assign e low high rs h a);
    stmt = λ s low high h a k rs. placed-from k.source.instance low high (λ a. Unit {0}) (typed_stmt k s) (stmt-in-order parts s low high h a k rs);
    routines = λ depth k texts. routines-in-order parts depth k texts;
  }
