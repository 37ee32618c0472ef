use Rattle.std.proofs.Common.{take, subst, sym}
use Rattle.sv2v_top.specs.source.Rules.{input_paths}
use Rattle.sv2v_top.specs.source.Lookup.{Numbers}
use Rattle.sv2v_top.proofs.Checks.{inputs-more}
use Rattle.sv2v_top.proofs.elab_build.signals.input_table.Goals as goal

pub loop-signal-preserved : goal.loop-signal-preserved
loop-signal-preserved c =
    subst (λ ns. Numbers c.add_input.new.names ns)
    (sym (inputs-more c.args.signals.now c.loop-signal.signal-index c.signal-item.result c.loop-signal-test.true c.signal-item.is))
    (c.in_ok-add_input.ensures (input_paths (take c.loop-signal.signal-index c.args.signals.now)) c.loop-signal.invariant)
