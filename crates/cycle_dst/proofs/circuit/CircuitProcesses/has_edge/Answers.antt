use Rattle.std.proofs.Common.{get_or}
use Rattle.std.proofs.lemmas.Option.{slice_get-get_or}
use Rattle.v_meaning.specs.Machine.{machine}
use Rattle.cycle_dst.specs.Circuits.{EdgeOf}
use Rattle.cycle_dst.proofs.Running.{pair-below, edge-there, edge-told}
use Rattle.cycle_dst.proofs.circuit.CircuitProcesses.has_edge.Goals as goal

pub edge_comes-requires : goal.edge_comes-requires
edge_comes-requires c =
    let s = c.args.self.now in
    let d = machine s.design.now s.top.now in
    let below = pair-below (EdgeOf s.tables.now s.procs.now) s.edges.now d.edges s.edges_are c.args.i c.requires.there in
    edge-there d s.tables.now s.procs.now s.edges.now s.edges_are c.args.i (get_or s.edges.now c.args.i 0) (slice_get-get_or s.edges.now c.args.i 0 below) c.requires.there

pub returns : goal.returns
returns c =
    let s = c.args.self.now in
    let d = machine s.design.now s.top.now in
    let below = pair-below (EdgeOf s.tables.now s.procs.now) s.edges.now d.edges s.edges_are c.args.i c.requires.there in
    edge-told d s.tables.now s.procs.now s.edges.now s.edges_are c.args.i (get_or s.edges.now c.args.i 0) (slice_get-get_or s.edges.now c.args.i 0 below)
    c.args.last.now c.args.now.now c.edge_comes.result c.edge_comes.ensures
