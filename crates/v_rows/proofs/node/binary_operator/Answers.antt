use Rattle.std.proofs.Common.{sym, arith}
use Rattle.v_rows.proofs.Meanings.{past-rows}
use Rattle.v_rows.proofs.node.binary_operator.Goals as goal

pub returns-in_default : goal.returns-in_default
returns-in_default c = λ parts. sym (past-rows c.args.row parts (omega arith))
