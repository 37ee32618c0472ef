use Rattle.std.proofs.Common.{◌≤◌, ◌-◌, length, arith}
use Rattle.v_functions.specs.Numbered as means
use Rattle.v_functions.proofs.Numbering.{number-step}
use Rattle.v_functions.proofs.table.Functions.of.Goals as goal

pub loop-at-preserved : goal.loop-at-preserved
loop-at-preserved c =
    let low : c.loop-at.at - 1 ≤ length c.args.items.now = omega arith in (
      low,
      number-step c.args.items.now c.loop-at.at c.index-items-at.result (means.numbers_in c.loop-at.table) (means.numbers_in c.number_item.new.self) (omega arith) (omega arith)
          c.index-items-at.is c.loop-at.invariant.1 c.in_ok-number_item.ensures,
    )
