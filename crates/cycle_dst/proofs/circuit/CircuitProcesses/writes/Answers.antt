use Rattle.std.proofs.Common.{◌∙◌, ap, get_or, Some, sym, subst}
use Rattle.std.proofs.lemmas.Option.{slice_get-get_or}
use Rattle.round_runner.specs.Parts.{ReadsAlone, WritesAlone}
use Rattle.v_meaning.specs.Machine.{machine}
use Rattle.cycle_dst.specs.Prints.{PrintsOf}
use Rattle.cycle_dst.proofs.Running.{pair-below}
use Rattle.cycle_dst.proofs.Printing.{writes-alone}
use Rattle.cycle_dst.proofs.circuit.CircuitProcesses.writes.Goals as goal

pub returns-in-Some : goal.returns-in-Some
returns-in-Some c =
    let s = c.args.self.now in
    let d = machine s.design.now s.top.now in
    let below = pair-below PrintsOf s.prints.now d.combs s.prints_are c.args.i c.requires in
    writes-alone s.prints.now d.combs s.prints_are c.args.i (get_or s.prints.now c.args.i c.index-self-i.result) (slice_get-get_or s.prints.now c.args.i c.index-self-i.result below) c.as_slice.result.now
    (c.in-Some.is ∙ ap Some (sym c.as_slice.ensures))
