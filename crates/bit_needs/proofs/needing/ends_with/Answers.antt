use Rattle.std.proofs.Common.{◌-◌, length, arith, subst}
use Rattle.std.proofs.lemmas.Bool.{eqb-true}
use Rattle.row_machine.specs.Valuation.{Member}
use Rattle.row_machine.proofs.Basics.{member_at}
use Rattle.bit_needs.proofs.needing.ends_with.Goals as goal

pub returns-then-list-gt0 : goal.returns-then-list-gt0
returns-then-list-gt0 c = λ same.
    let list = c.args.list.now in subst (Member list) (eqb-true _ c.args.number same) (member_at list (length list - 1) 0 (omega arith))
