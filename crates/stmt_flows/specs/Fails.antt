-- Why it isn't known what a statement does.
use Rattle.std.specs.Prelude.{⊤, ℕ}
use Rattle.expr_flows.specs.declared.fails.FlowFail.{FlowFail}
use Rattle.expr_flows.specs.declared.fails.FlowFail.TheVariants as F
use Rattle.stmt_flows.specs.declared.fails.StmtFail.{StmtFail}
use Rattle.stmt_flows.specs.declared.fails.StmtFail.TheVariants as S

-- what fails in an expression
abbrev pub fail_of : FlowFail → StmtFail
fail_of F.Memory = S.Memory
fail_of (F.TooLong at) = S.TooLong at

-- a failure that isn't the number of statements, with what holds of the token of a constant that takes too long
abbrev pub Fails : StmtFail → (ℕ → Type 0) → Type 0
Fails S.Memory long = ⊤
Fails (S.TooLong at) long = long at
Fails S.TooMany long = ⊥
