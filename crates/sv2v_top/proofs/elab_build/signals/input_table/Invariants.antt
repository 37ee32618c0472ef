use Rattle.std.proofs.Common.{take}
use Rattle.sv2v_top.specs.source.Rules.{input_paths}
use Rattle.sv2v_top.specs.source.Lookup.{Numbers}
use Rattle.sv2v_top.proofs.elab_build.signals.input_table.Given as goal

abbrev pub invariant-loop-signal : goal.invariant-loop-signal
invariant-loop-signal l = Numbers l.names (input_paths (take l.signal-index l.signals))
