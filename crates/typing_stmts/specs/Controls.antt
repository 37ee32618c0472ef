-- The heads of loops.
use Rattle.std.specs.Prelude.{Option}
use Rattle.sv_tree.specs.declared.expressions.Expr as X
use Rattle.sv_tree.specs.declared.statements.LoopStep.{LoopStep}
use Rattle.expr_type.specs.Names.{Context}
use Rattle.expr_type.specs.Statements as D
use Rattle.expr_type.specs.Typings.{Typing, both}

-- a test and a step of a loop of a variable, where it stands
abbrev pub controlled : Context → Option D.LoopVariable → X.Expr → LoopStep → Typing D.Control
controlled k o test step = both (D.condition k test) (D.loop_step k (D.id_of o) step) D.control
