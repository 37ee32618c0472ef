-- Forms that are values alone: operators, `?:`, numbers, parentheses, replications and calls.
use Rattle.std.proofs.Common.{ℕ, suc, ◌≤◌, ◌<◌, List, None}
use Rattle.sv_tree.specs.Extents.{qualified_first}
use Rattle.sv_tree.specs.declared.expressions.Expr.{Expr-F}
use Rattle.sv_tree.specs.declared.names.QualifiedName.{QualifiedName}
use Rattle.sv_tree.specs.declared.operators.BinaryOperator.{BinaryOperator}
use Rattle.sv_tree.specs.declared.operators.UnaryOperator.{UnaryOperator}
use Rattle.expr_type.specs.Expressions.{Meaning, expr_step}
use Rattle.expr_type.proofs.Calls as C
use Rattle.expr_type.proofs.Forms as E
use Rattle.order_laws.specs.Meanings.{ExprInOrder}
use Rattle.order_laws.proofs.Forms.{all-in-order}
use Rattle.order_laws.proofs.Typings.{Each}

pub conditional-form : (test : Meaning) (question : ℕ) (first : Meaning) (colon : ℕ) (second : Meaning) (low high : ℕ) → low ≤ question → question < colon → colon < high
    → ExprInOrder low question test → ExprInOrder (suc question) colon first → ExprInOrder (suc colon) high second → ExprInOrder low high (expr_step (Expr-F.Conditional test question first colon second))
conditional-form test question first colon second low high h m n p q r = record {
  typed = E.conditional test question first colon second low high h m n p.typed q.typed r.typed;
  as_type = λ k rs. tt;
  as_target = λ k rs. tt;
  alone = tt;
}

pub binary-form : (left : Meaning) (op : BinaryOperator) (at : ℕ) (right : Meaning) (low high : ℕ) → low ≤ at → at < high → ExprInOrder low at left → ExprInOrder (suc at) high right
    → ExprInOrder low high (expr_step (Expr-F.Binary left op at right))
binary-form left op at right low high h m p q = record {
  typed = E.binary left op at right low high h m p.typed q.typed;
  as_type = λ k rs. tt;
  as_target = λ k rs. tt;
  alone = tt;
}

pub unary-form : (op : UnaryOperator) (at : ℕ) (operand : Meaning) (high : ℕ) → ExprInOrder (suc at) high operand → ExprInOrder at high (expr_step (Expr-F.Unary op at operand))
unary-form op at operand high p = record { typed = E.unary op at operand high p.typed; as_type = λ k rs. tt; as_target = λ k rs. tt; alone = tt }

pub decimal-form : (at : ℕ) → ExprInOrder at (suc at) (expr_step (Expr-F.«Expr::Decimal» at))
decimal-form at = record { typed = E.decimal at; as_type = λ k rs. tt; as_target = λ k rs. tt; alone = tt }

pub based-form : (at : ℕ) → ExprInOrder at (suc at) (expr_step (Expr-F.Based at))
based-form at = record { typed = E.based at; as_type = λ k rs. tt; as_target = λ k rs. tt; alone = tt }

pub sized-form : (size at : ℕ) → size < at → ExprInOrder size (suc at) (expr_step (Expr-F.Sized size at))
sized-form size at h = record { typed = E.sized size at h; as_type = λ k rs. tt; as_target = λ k rs. tt; alone = tt }

pub fill-form : (at : ℕ) → ExprInOrder at (suc at) (expr_step (Expr-F.Fill at))
fill-form at = record { typed = E.fill at; as_type = λ k rs. tt; as_target = λ k rs. tt; alone = tt }

pub parenthesized-form : (opening : ℕ) (inner : Meaning) (closing : ℕ) → ExprInOrder (suc opening) closing inner
    → ExprInOrder opening (suc closing) (expr_step (Expr-F.«Expr::Parenthesized» opening inner closing None))
parenthesized-form opening inner closing p = record { typed = E.parenthesized opening inner closing p.typed; as_type = λ k rs. tt; as_target = λ k rs. tt; alone = tt }

pub replication-form : (opening : ℕ) (times : Meaning) (inner : ℕ) (items : List Meaning) (inner_closing closing : ℕ) → opening < inner → inner < inner_closing → inner_closing < closing
    → ExprInOrder (suc opening) inner times → Each ExprInOrder (suc inner) inner_closing items
    → ExprInOrder opening (suc closing) (expr_step (Expr-F.«Expr::Replication» opening times inner items inner_closing closing))
replication-form opening times inner items inner_closing closing h m n p q = record {
  typed = E.replication opening times inner items inner_closing closing h m n p.typed (all-in-order items (suc inner) inner_closing q);
  as_type = λ k rs. tt;
  as_target = λ k rs. tt;
  alone = tt;
}

pub call-form : (of : QualifiedName) (opening : ℕ) (arguments : List Meaning) (closing : ℕ) → qualified_first of ≤ of.name → of.name < opening → opening < closing
    → Each ExprInOrder (suc opening) closing arguments → ExprInOrder (qualified_first of) (suc closing) (expr_step (Expr-F.Call of opening arguments closing None))
call-form of opening arguments closing h m n p = record {
  typed = C.call of opening arguments closing h m n (all-in-order arguments (suc opening) closing p);
  as_type = λ k rs. tt;
  as_target = λ k rs. tt;
  alone = tt;
}
