use Rattle.std.proofs.Common.{get_or}
use Rattle.std.proofs.lemmas.Option.{slice_get-get_or}
use Rattle.v_meaning.specs.Machine.{machine}
use Rattle.cycle_dst.specs.Circuits.{CombOf}
use Rattle.cycle_dst.specs.Designs.{widths_of}
use Rattle.cycle_dst.proofs.Running.{pair-below, comb-zero}
use Rattle.cycle_dst.proofs.circuit.CircuitProcesses.starts_at_zero.Goals as goal

pub returns : goal.returns
returns c =
    let s = c.args.self.now in
    let d = machine s.design.now s.top.now in
    let below = pair-below (CombOf (widths_of s.design.now s.top.now) s.tables.now s.procs.now) s.combs.now d.combs s.combs_are c.args.i c.requires in
    comb-zero d (widths_of s.design.now s.top.now) s.tables.now s.procs.now s.combs.now s.combs_are c.args.i (get_or s.combs.now c.args.i c.index-self-i.result)
    (slice_get-get_or s.combs.now c.args.i c.index-self-i.result below)
