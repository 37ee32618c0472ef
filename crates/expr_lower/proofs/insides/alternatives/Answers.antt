use Rattle.std.proofs.Common.{◌-◌, arith}
use Rattle.expr_lower.proofs.Alternating.{narrow-at, enough-at, listed-next, listed-all}
use Rattle.expr_lower.proofs.insides.alternatives.Goals as goal

pub alternative-requires-clause-narrow : goal.alternative-requires-clause-narrow
alternative-requires-clause-narrow c =
    let few = c.loop-i.invariant.few in
    narrow-at c.args.choices.now (c.loop-i.i - 1) c.index-choices-i.result (omega arith) c.index-choices-i.is c.requires.narrow

pub alternative-requires-clause-enough : goal.alternative-requires-clause-enough
alternative-requires-clause-enough c =
    enough-at c.args.x.now c.args.choices.now c.loop-i.i (c.loop-i.i - 1) c.index-choices-i.result c.args.parts c.loop-i.rest c.args.helpers.now c.loop-i.helpers c.loop-i.made c.loop-i.invariant (omega arith)
    c.index-choices-i.is c.requires.count

pub loop-i-preserved : goal.loop-i-preserved
loop-i-preserved c =
    listed-next c.args.x.now c.args.choices.now c.loop-i.i (c.loop-i.i - 1) c.index-choices-i.result c.args.parts c.loop-i.rest c.alternative.new.rest c.args.helpers.now c.loop-i.helpers c.alternative.new.helpers
    c.loop-i.made c.push.new.self c.in_ok-bit.bit c.loop-i.invariant (omega arith) c.index-choices-i.is c.in_ok-bit.ensures.grows c.in_ok-bit.ensures.takes c.in_ok-push.ensures.ok

pub returns-clause-lists : goal.returns-clause-lists
returns-clause-lists c =
    listed-all c.args.x.now c.args.choices.now c.loop-i.i c.args.parts c.loop-i.rest c.args.helpers.now c.loop-i.helpers c.loop-i.made c.in_ok-ordered.ordered c.loop-i.invariant (omega arith) c.requires.count
    c.in_ok-ordered.ensures
