use Rattle.std.proofs.Common.{◌+◌, ◌<◌, length, arith, refl, sym, true, false, slice_index_or, slice_set, subst}
use Rattle.round_runner.proofs.Starting.{Looking, looking_added, looking_kept, looked}
use Rattle.round_runner.proofs.settle.wake.Goals as goal
use Rattle.round_runner.proofs.settle.wake.Goals.{then-is_added, else-is_added}

pub loop-i-preserved : goal.loop-i-preserved
loop-i-preserved g c =
    let d = g.P.Processes.machine c.args.machine.now in
    let now = c.args.now.now in
    let before = c.args.started.now in
    let flags = c.loop-i.started in
    let i = c.loop-i.i in
    let room : i < length d.combs = omega (arith, c.requires.started) in
    let there : i < length flags = omega arith in
    elim c.if-is_added.branch [
      | then-is_added w ↦
          subst (λ fs. Looking d now before fs c.if-is_added.more (i + 1)) (sym w.started-is)
          (subst (λ more. Looking d now before (slice_set flags i true) more (i + 1)) (sym w.more-is)
          (looking_added d now before flags c.loop-i.more c.is_added.result (slice_index_or flags i false) i room there refl c.is_added.ensures w.if-is_added.true c.loop-i.invariant))
      | else-is_added w ↦
          subst (λ fs. Looking d now before fs c.if-is_added.more (i + 1)) (sym w.started-is)
          (subst (λ more. Looking d now before flags more (i + 1)) (sym w.more-is)
          (looking_kept d now before flags c.loop-i.more c.is_added.result (slice_index_or flags i false) i room refl c.is_added.ensures w.if-is_added.false c.loop-i.invariant))
    ]

pub returns-clause-woken : goal.returns-clause-woken
returns-clause-woken g c =
    looked (g.P.Processes.machine c.args.machine.now) c.args.now.now c.args.started.now c.loop-i.started c.loop-i.more c.loop-i.i (omega (arith, c.requires.started)) (omega (arith, c.requires.started)) c.loop-i.invariant
