use Rattle.std.proofs.Common.{◌+◌, subst, sym, ◌∙◌}
use Rattle.std.proofs.lemmas.Bool.{false≢true}
use Rattle.bit_tokens.specs.Tokens.{Inside}
use Rattle.bit_tokens.proofs.Least.{LeastUpTo, least-skip, least-add, least-end}
use Rattle.bit_tokens.proofs.least_inside.Goals as goal
use Rattle.bit_tokens.proofs.least_inside.Goals.{then-meets, else-meets}

pub loop-u-preserved : goal.loop-u-preserved
loop-u-preserved c =
    let P = Inside c.args.set.now in
    let us = c.args.uses.now in
    let k = c.loop-u.u-index in
    elim c.if-meets.branch [
      | then-meets w ↦ subst (LeastUpTo P us (k + 1)) (sym w.least-is) (subst (LeastUpTo P us (k + 1)) (sym w.with_token-least.ensures)
          (least-add P us k c.loop-u.least c.loop-u-test.true (c.meets.ensures.only w.if-meets.true) c.loop-u.invariant))
      | else-meets w ↦ subst (LeastUpTo P us (k + 1)) (sym w.least-is)
          (least-skip P us k c.loop-u.least (λ m. false≢true (sym w.if-meets.false ∙ c.meets.ensures.every m)) c.loop-u.invariant)
    ]

pub returns : goal.returns
returns c = least-end (Inside c.args.set.now) c.args.uses.now c.loop-u.u-index c.loop-u.least c.loop-u-test.false c.loop-u.invariant
