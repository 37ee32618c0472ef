use Rattle.std.proofs.Common.{sym, ◌∙◌}
use Rattle.v_tree.specs.Takings.{taken_in}
use Rattle.v_tree.proofs.Takes.{free-step}
use Rattle.v_tree.proofs.plain.free_numbered.Goals as goal

pub loop-tried-preserved : goal.loop-tried-preserved
loop-tried-preserved c =
    free-step c.args.count c.loop-tried.tried (taken_in c.args.taken.now) c.args.name.now c.in_ok-candidate.candidate c.loop-tried-test.true c.in_ok-candidate.ensures (sym c.has.ensures ∙ c.if-not-has.false)
    ∙ c.loop-tried.invariant
