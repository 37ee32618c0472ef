use Rattle.std.proofs.Common.{◌+◌, ◌<◌, length, arith, sym, subst}
use Rattle.round_runner.proofs.Edging.{Edging, edging_updated, edging_passed}
use Rattle.round_runner.proofs.step.put_updates.Goals as goal
use Rattle.round_runner.proofs.step.put_updates.Goals.{then-has_edge+in_ok-update, else-has_edge}

pub loop-i-preserved : goal.loop-i-preserved
loop-i-preserved g c =
    let d = g.P.Processes.machine c.args.machine.now in
    let room : c.loop-i.i < length d.edges = omega (arith, c.edges-i-end.ensures) in
    elim c.if-has_edge.branch [
      | then-has_edge+in_ok-update w ↦
          subst (λ made. Edging d c.args.last.now c.args.held.now made (c.loop-i.i + 1)) (sym w.to-is)
          (edging_updated d c.args.last.now c.args.held.now c.loop-i.to w.update.new.to c.loop-i.i c.has_edge.result room c.has_edge.ensures w.if-has_edge.true
          w.in_ok-update.ensures c.loop-i.invariant)
      | else-has_edge w ↦
          subst (λ made. Edging d c.args.last.now c.args.held.now made (c.loop-i.i + 1)) (sym w.to-is)
          (edging_passed d c.args.last.now c.args.held.now c.loop-i.to c.loop-i.i c.has_edge.result room c.has_edge.ensures w.if-has_edge.false c.loop-i.invariant)
    ]
