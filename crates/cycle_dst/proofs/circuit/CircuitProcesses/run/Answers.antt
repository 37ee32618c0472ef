use Rattle.std.proofs.Common.{get_or}
use Rattle.std.proofs.lemmas.Option.{slice_get-get_or}
use Rattle.v_meaning.specs.Machine.{machine}
use Rattle.cycle_dst.specs.Circuits.{CombOf}
use Rattle.cycle_dst.specs.Designs.{widths_of}
use Rattle.cycle_dst.proofs.Running.{pair-below, comb-there, comb-runs, where-ok}
use Rattle.cycle_dst.proofs.circuit.CircuitProcesses.run.Goals as goal

pub run_process-requires-clause-there : goal.run_process-requires-clause-there
run_process-requires-clause-there c =
    let s = c.args.self.now in
    let d = machine s.design.now s.top.now in
    let below = pair-below (CombOf (widths_of s.design.now s.top.now) s.tables.now s.procs.now) s.combs.now d.combs s.combs_are c.args.i c.requires.there in
    comb-there d (widths_of s.design.now s.top.now) s.tables.now s.procs.now s.combs.now s.combs_are c.args.i (get_or s.combs.now c.args.i c.index-self-i.result)
    (slice_get-get_or s.combs.now c.args.i c.index-self-i.result below) c.requires.there

pub returns : goal.returns
returns c =
    let s = c.args.self.now in
    let d = machine s.design.now s.top.now in
    let below = pair-below (CombOf (widths_of s.design.now s.top.now) s.tables.now s.procs.now) s.combs.now d.combs s.combs_are c.args.i c.requires.there in
    where-ok c.run_process.result
    (comb-runs d (widths_of s.design.now s.top.now) s.tables.now s.procs.now s.combs.now s.combs_are c.args.i (get_or s.combs.now c.args.i c.index-self-i.result)
    (slice_get-get_or s.combs.now c.args.i c.index-self-i.result below) c.args.held.now c.args.to.now c.run_process.new.to s.runnable)
    c.run_process.ensures
