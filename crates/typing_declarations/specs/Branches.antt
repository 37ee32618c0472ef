-- Choices.
use Rattle.std.specs.Prelude.{Option}
use Rattle.sv_types.specs.declared.statement.Stmt as R
use Rattle.sv_types.specs.declared.statement.Stmt.TheVariants as S
use Rattle.expr_type.specs.declared.operand.Valued.{Valued}
use Rattle.expr_type.specs.Statements.{branches}
use Rattle.expr_type.specs.Typings.{Typing, both, whole}

-- an `if` of a condition and its branches, all of which are looked at
abbrev pub chosen : Typing Valued → Typing R.Stmt → Typing (Option R.Stmt) → Typing R.Stmt
chosen x y z = both x (both y z branches) (λ v b. whole (S.If v.expr b.body b.other))
