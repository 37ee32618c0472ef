use Rattle.std.proofs.Common.{◌≡◌, ◌++◌, drop}
use Rattle.expr_copies.proofs.exprs.+copy.Given as goal

abbrev pub invariant-copy_exprs-loop-expr : goal.invariant-copy_exprs-loop-expr
invariant-copy_exprs-loop-expr l = l.made ++ drop l.expr-index l.exprs ≡ l.exprs

abbrev pub invariant-copy_choices-loop-choice : goal.invariant-copy_choices-loop-choice
invariant-copy_choices-loop-choice l = l.made ++ drop l.choice-index l.choices ≡ l.choices
