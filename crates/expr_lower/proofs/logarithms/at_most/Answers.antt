use Rattle.std.proofs.Common.{◌<◌, ◌^◌, arith}
use Rattle.v_meaning.specs.Values as T
use Rattle.expr_lower.proofs.Powers.{by-order, without-order}
use Rattle.expr_lower.proofs.logarithms.at_most.Goals as goal

pub returns-in_ok-test : goal.returns-in_ok-test
returns-in_ok-test c =
    let fits = c.ranges.k.fits in
    let small : c.args.k < 2 ^ 32 = omega arith in
    by-order (T.meaning c.args.y.now) c.args.width c.args.k (T.meaning c.in_ok-test.test) c.requires small c.in_ok-test.ensures

pub returns-in_ok-wide : goal.returns-in_ok-wide
returns-in_ok-wide c =
    let fits = c.ranges.k.fits in
    let small : c.args.k < 2 ^ 32 = omega arith in
    without-order (T.meaning c.args.y.now) c.args.width c.args.k (T.meaning c.in_ok-wide.wide) c.requires small c.in_ok-wide.ensures
