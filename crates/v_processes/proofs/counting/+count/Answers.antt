use Rattle.std.proofs.Common.{◌-◌, arith}
use Rattle.v_processes.proofs.Counted.{counted-level, if-ok}
use Rattle.v_processes.proofs.counting.+count.Goals as goal

pub signal_count-returns : goal.signal_count-returns
signal_count-returns t c =
    if-ok c.added.result
    (λ n h. counted-level c.args.depth (c.args.depth - 1) c.args.design.modules.now c.args.name.now n c.own_count.result c.in_ok-below.below c.items_named-items.result.now (omega (arith, c.if-depth-eq0.false))
    c.items_named-items.ensures c.own_count.ensures c.in_ok-below.ensures h)
    c.added.ensures
