use Rattle.std.proofs.Common.{◌+◌, subst, sym, arith}
use Rattle.bit_tokens.specs.Tokens.{HasSome}
use Rattle.bit_tokens.proofs.Least.{LeastUpTo, least-skip, least-add, least-end}
use Rattle.bit_tokens.proofs.least_token.Goals as goal
use Rattle.bit_tokens.proofs.least_token.Goals.{then-u, else-u}

pub loop-u-preserved : goal.loop-u-preserved
loop-u-preserved c =
    let us = c.args.uses.now in
    let k = c.loop-u.u-index in
    elim c.if-u.branch [
      | then-u w ↦ subst (LeastUpTo HasSome us (k + 1)) (sym w.least-is) (subst (LeastUpTo HasSome us (k + 1)) (sym w.with_token-least.ensures)
          (least-add HasSome us k c.loop-u.least c.loop-u-test.true w.if-u.true c.loop-u.invariant))
      | else-u w ↦ subst (LeastUpTo HasSome us (k + 1)) (sym w.least-is)
          (least-skip HasSome us k c.loop-u.least (λ lt. let ge = w.if-u.false in absurd (omega (arith, lt, ge))) c.loop-u.invariant)
    ]

pub returns : goal.returns
returns c = least-end HasSome c.args.uses.now c.loop-u.u-index c.loop-u.least c.loop-u-test.false c.loop-u.invariant
