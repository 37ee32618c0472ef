use Rattle.std.proofs.Common.{◌<◌, length, arith}
use Rattle.round_runner.proofs.Elements.{element}
use Rattle.round_runner.proofs.Built.{built_more}
use Rattle.round_runner.proofs.grouping.place_processes.Goals as goal

pub loop-i-preserved : goal.loop-i-preserved
loop-i-preserved g c =
    let d = g.P.Processes.machine c.args.machine.now in
    let room : c.loop-i.i < length d.combs = omega (arith, c.combs-i-end.ensures) in
    let p = element d.combs c.loop-i.i room in
    built_more d c.args.places.now c.loop-i.processes c.loop-i.readers c.add.new.lists c.tell.new.readers c.loop-i.i c.in-Some.group p.0 c.in-Some-reads.signals.now p.1
    (omega (arith, c.requires.processes.long)) room c.in-Some.ensures c.in-Some-reads.ensures (c.in_ok-tell.ensures c.if-not-branch.false) c.in_ok-add.ensures c.loop-i.invariant
