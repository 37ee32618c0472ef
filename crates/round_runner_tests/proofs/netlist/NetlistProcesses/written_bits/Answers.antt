use Rattle.std.proofs.Common.{sym, ◌∙◌}
use Rattle.round_runner_tests.proofs.Netlisted.{bits_written}
use Rattle.round_runner_tests.proofs.netlist.NetlistProcesses.written_bits.Goals as goal

pub returns : goal.returns
returns c = c.len.ensures ∙ sym (bits_written c.args.self.now.gates)
