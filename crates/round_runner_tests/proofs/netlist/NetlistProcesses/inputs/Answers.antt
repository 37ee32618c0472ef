use Rattle.round_runner_tests.proofs.Netlisted.{inputs_are}
use Rattle.round_runner_tests.proofs.netlist.NetlistProcesses.inputs.Goals as goal

pub returns-clause-whole : goal.returns-clause-whole
returns-clause-whole c = inputs_are c.args.self.now.initial c.args.self.now.inputs c.args.self.now.gates c.args.self.now.flops c.args.self.now.whole.inputs_there
