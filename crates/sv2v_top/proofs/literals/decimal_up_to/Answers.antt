use Rattle.std.proofs.Common.{◌<◌, subst, arith}
use Rattle.sv2v_top.proofs.Decimals.{decimal_past}
use Rattle.sv2v_top.proofs.literals.decimal_up_to.Goals as goal

pub returns-then-number-from : goal.returns-then-number-from
returns-then-number-from c =
    decimal_past c.args.limit c.loop-c.number c.args.text.now c.loop-c.c-index _ c.loop-c-test.true
    (subst (λ n. c.args.limit < n) c.add_digit-number.ensures (omega arith)) c.loop-c.invariant.so_far
