use Rattle.std.proofs.Common.{◌++◌, map, take, subst}
use Rattle.sv2v_top.specs.source.Statements.{word_of, targets_in}
use Rattle.sv2v_top.specs.source.Lookup.{Numbers}
use Rattle.sv2v_top.proofs.Checks.{targets-more}
use Rattle.sv2v_top.proofs.elab_build.rules.add_targets.Goals as goal

pub loop-item-preserved : goal.loop-item-preserved
loop-item-preserved c = λ ns n.
    subst (λ ws. Numbers c.add_target.new.names ws)
    (targets-more ns c.args.uses.now c.loop-item.item-index c.item-item.result c.loop-item-test.true c.item-item.is)
    (c.in_ok-add_target.ensures (ns ++ map word_of (targets_in (take c.loop-item.item-index c.args.uses.now))) (c.loop-item.invariant ns n))
