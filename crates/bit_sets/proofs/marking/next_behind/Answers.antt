use Rattle.std.proofs.Common.{arith, ◌∙◌, ◌+◌}
use Rattle.bit_sets.specs.Sets.{nothing}
use Rattle.bit_sets.proofs.Marks as M
use Rattle.bit_sets.proofs.marking.next_behind.Goals as goal

pub loop-at-preserved : goal.loop-at-preserved
loop-at-preserved c = λ n far.
    let ends = c.saturating_sub.ensures in
    let short = c.if-saturating_sub-k.true in
    c.loop-at.invariant n far
    ∙ M.passed (c.args.low + c.args.k) c.loop-at.at n c.args.set.now nothing c.loop-at-test.true (omega (arith, ends, short)) far
