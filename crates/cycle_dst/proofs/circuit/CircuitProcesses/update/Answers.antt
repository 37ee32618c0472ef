use Rattle.std.proofs.Common.{get_or}
use Rattle.std.proofs.lemmas.Option.{slice_get-get_or}
use Rattle.v_meaning.specs.Machine.{machine}
use Rattle.cycle_dst.specs.Circuits.{EdgeOf}
use Rattle.cycle_dst.specs.Designs.{widths_of}
use Rattle.cycle_dst.proofs.Running.{pair-below, edge-there, edge-updates, where-ok}
use Rattle.cycle_dst.proofs.circuit.CircuitProcesses.update.Goals as goal

pub update_process-requires-clause-there : goal.update_process-requires-clause-there
update_process-requires-clause-there c =
    let s = c.args.self.now in
    let d = machine s.design.now s.top.now in
    let below = pair-below (EdgeOf s.tables.now s.procs.now) s.edges.now d.edges s.edges_are c.args.i c.requires.there in
    edge-there d s.tables.now s.procs.now s.edges.now s.edges_are c.args.i (get_or s.edges.now c.args.i 0) (slice_get-get_or s.edges.now c.args.i 0 below) c.requires.there

pub returns : goal.returns
returns c =
    let s = c.args.self.now in
    let d = machine s.design.now s.top.now in
    let below = pair-below (EdgeOf s.tables.now s.procs.now) s.edges.now d.edges s.edges_are c.args.i c.requires.there in
    where-ok c.update_process.result
    (edge-updates d s.tables.now s.procs.now s.edges.now s.edges_are c.args.i (get_or s.edges.now c.args.i 0) (slice_get-get_or s.edges.now c.args.i 0 below)
    (widths_of s.design.now s.top.now) c.args.held.now c.args.to.now c.update_process.new.to s.runnable)
    c.update_process.ensures
