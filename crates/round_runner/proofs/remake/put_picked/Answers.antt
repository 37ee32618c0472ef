use Rattle.std.proofs.Common.{◌≡◌, ◌+◌, ◌<◌, length, slice_get, slice_index_or, Some, arith, false, sym, subst}
use Rattle.std.proofs.lemmas.Option.{slice_get-get_or}
use Rattle.round_runner.proofs.Picking.{Picking, picking_told, picking_untold}
use Rattle.round_runner.proofs.remake.put_picked.Goals as goal
use Rattle.round_runner.proofs.remake.put_picked.Goals.{then-started-i+in_ok-run, else-started-i}

pub loop-i-preserved : goal.loop-i-preserved
loop-i-preserved g c =
    let d = g.P.Processes.machine c.args.machine.now in
    let is = c.args.processes.now in
    let j = c.loop-i.i-index in
    let n = slice_index_or is j 0 in
    let room : j < length is = omega arith in
    let at : slice_get is j ≡ Some n = slice_get-get_or is j 0 room in
    let there : n < length d.combs = c.requires.processes j 0 room in
    elim c.if-started-i.branch [
      | then-started-i+in_ok-run w ↦
          subst (λ made. Picking d c.args.started.now is c.args.held.now c.args.to.now made (j + 1)) (sym w.to-is)
          (picking_told d c.args.started.now is c.args.held.now c.args.to.now c.loop-i.to w.run.new.to j n false at there w.if-started-i.true w.in_ok-run.ensures c.loop-i.invariant)
      | else-started-i w ↦
          subst (λ made. Picking d c.args.started.now is c.args.held.now c.args.to.now made (j + 1)) (sym w.to-is)
          (picking_untold d c.args.started.now is c.args.held.now c.args.to.now c.loop-i.to j n false at there w.if-started-i.false c.loop-i.invariant)
    ]
