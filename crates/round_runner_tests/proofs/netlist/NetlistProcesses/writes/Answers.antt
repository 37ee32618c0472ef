use Rattle.std.proofs.Common.{◌<◌, ◌∙◌, ap, sym, subst, length, map, slice_index_or, arith}
use Rattle.std.proofs.lemmas.List.{length-map}
use Rattle.round_runner.specs.Parts.{WritesAlone}
use Rattle.round_runner_tests.specs.Netlists.{comb_of}
use Rattle.round_runner_tests.proofs.Netlisted.{gate_writes}
use Rattle.round_runner_tests.proofs.netlist.NetlistProcesses.writes.Goals as goal

pub returns-then-self : goal.returns-then-self
returns-then-self c =
    let gates = c.args.self.now.gates in
    let list = c.index-as_slice-i.result in
    let room : c.args.i < length gates = omega (arith, c.requires, length-map gates comb_of) in
    subst (WritesAlone (map comb_of gates) c.args.i) (sym c.as_slice-then-self.ensures)
    (gate_writes gates c.args.self.now.writes c.args.i list room c.args.self.now.whole.writes_are (c.index-as_slice-i.is ∙ ap (λ ls. slice_index_or ls c.args.i list) c.as_slice.ensures))
