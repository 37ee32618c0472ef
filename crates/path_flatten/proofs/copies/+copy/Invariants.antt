use Rattle.std.proofs.Common.{◌≡◌, ◌++◌, drop}
use Rattle.path_flatten.proofs.copies.+copy.Given as goal

abbrev pub invariant-copy_exprs-loop-expr : goal.invariant-copy_exprs-loop-expr
invariant-copy_exprs-loop-expr l = l.made ++ drop l.expr-index l.exprs ≡ l.exprs

abbrev pub invariant-copy_sels-loop-sel : goal.invariant-copy_sels-loop-sel
invariant-copy_sels-loop-sel l = l.made ++ drop l.sel-index l.sels ≡ l.sels
