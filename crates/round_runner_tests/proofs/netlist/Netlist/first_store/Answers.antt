use Rattle.std.proofs.Common.{ap, ◌∙◌}
use Rattle.round_runner_tests.specs.Netlists.{vectors}
use Rattle.round_runner_tests.proofs.Netlisted.{holds_first}
use Rattle.round_runner_tests.proofs.netlist.Netlist.first_store.Goals as goal

pub returns : goal.returns
returns c = holds_first c.args.self.now.initial c.in_ok-all.all.items (c.in_ok-all.ensures ∙ ap vectors c.as_slice.ensures)
