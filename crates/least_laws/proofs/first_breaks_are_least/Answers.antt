use Rattle.least_laws.proofs.Texts.{part-ascends}
use Rattle.least_laws.proofs.Frames.{expr-least, stmt-least, function-least, type-least, parameters-least, assignment-least}
use Rattle.least_laws.proofs.Told.{told}
use Rattle.least_laws.proofs.first_breaks_are_least.Goals as goal
use Rattle.order_laws.specs.Ordered.{expr_tokens, stmt_tokens}

pub returns : goal.returns
returns c = record {
  expr = λ tokens tree t f at e want r p. expr-least tokens tree t f at r e want (part-ascends tokens tree (expr_tokens e) r p);
  stmt = λ tokens tree t f at s r p. stmt-least tokens tree t f at r s (part-ascends tokens tree (stmt_tokens s) r p);
  function = function-least;
  any_expr = λ tokens tree t f at e want r a. expr-least tokens tree t f at r e want a;
  any_stmt = λ tokens tree t f at s r a. stmt-least tokens tree t f at r s a;
  any_type = λ tokens tree t f at x r a. type-least tokens tree t f at r x a;
  any_parameters = λ tokens tree t f at before bs r a. parameters-least tokens tree t f at r before bs a;
  any_assignment = λ tokens tree t f at to equals e r a. assignment-least tokens tree t f at r to equals e a;
  told = told;
}
