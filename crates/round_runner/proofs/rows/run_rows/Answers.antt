use Rattle.std.proofs.Common.{◌+◌, length, sym, ◌∙◌, subst, arith, refl}
use Rattle.std.proofs.lemmas.Option.{slice_get_read}
use Rattle.round_runner.specs.declared.rounds.Ended.TheVariants.{Rests, Changes}
use Rattle.round_runner.specs.Rows.{StepEnds, IsUnsettled}
use Rattle.round_runner.proofs.Tracing.{Tracing, traced_row, failed_row, all_traced, step_read}
use Rattle.round_runner.proofs.rows.run_rows.Goals as goal

pub returns-in-Changes : goal.returns-in-Changes
returns-in-Changes g c =
    let d = g.P.Processes.machine c.args.machine.now in
    let ns = g.P.Processes.inputs c.args.machine.now in
    let rows = c.args.rows.now in
    subst (λ k. IsUnsettled d (g.P.Processes.shape c.args.machine.now) ns rows k c.in-Changes.change) (sym c.len.ensures)
    (failed_row d (g.P.Processes.shape c.args.machine.now) ns rows c.loop-row.trace c.row-item.result c.loop-row.last.items c.loop-row.held.items c.loop-row.started c.loop-row.row-index
    c.in-Changes.change
    (slice_get_read rows (length rows) c.loop-row.row-index c.row-item.result refl (omega arith) c.row-item.is)
    (step_read d ns (Changes c.in-Changes.change) c.row-item.result c.loop-row.last.items c.loop-row.held.items c.as_slice.result.now c.deref.result.now c.deref-in-loop-row.result.now
    c.loop-row.started c.loop-row.started c.step.new.started c.as_slice.ensures c.deref.ensures.value c.deref-in-loop-row.ensures.value refl
    (subst (StepEnds d ns c.as_slice.result.now c.deref.result.now c.deref-in-loop-row.result.now c.loop-row.started c.step.new.started) c.in-Changes.is c.in_ok-change.ensures))
    c.loop-row.invariant)

pub loop-row-preserved : goal.loop-row-preserved
loop-row-preserved g c =
    let d = g.P.Processes.machine c.args.machine.now in
    let ns = g.P.Processes.inputs c.args.machine.now in
    let ws = g.P.Processes.shape c.args.machine.now in
    let rows = c.args.rows.now in
    let now = c.in-Rests.now in
    subst (λ vs. Tracing d ws ns rows c.push.new.self vs c.in_ok-held-in-Rests.held.items c.step.new.started (c.loop-row.row-index + 1)) (sym (c.in_ok-last-in-Rests.ensures ∙ c.as_slice-in-Rests.ensures))
    (subst (λ vs. Tracing d ws ns rows c.push.new.self now vs c.step.new.started (c.loop-row.row-index + 1)) (sym (c.in_ok-held-in-Rests.ensures ∙ c.as_slice-in-Rests-2.ensures))
    (traced_row d ws ns rows c.loop-row.trace c.push.new.self c.row-item.result c.loop-row.last.items c.loop-row.held.items now c.loop-row.started c.step.new.started c.loop-row.row-index
    (slice_get_read rows (length rows) c.loop-row.row-index c.row-item.result refl (omega arith) c.row-item.is)
    (step_read d ns (Rests now) c.row-item.result c.loop-row.last.items c.loop-row.held.items c.as_slice.result.now c.deref.result.now c.deref-in-loop-row.result.now
    c.loop-row.started c.loop-row.started c.step.new.started c.as_slice.ensures c.deref.ensures.value c.deref-in-loop-row.ensures.value refl
    (subst (StepEnds d ns c.as_slice.result.now c.deref.result.now c.deref-in-loop-row.result.now c.loop-row.started c.step.new.started) c.in-Rests.is c.in_ok-change.ensures))
    c.in_ok-push-in-Rests.ensures.ok
    c.loop-row.invariant))

pub returns : goal.returns
returns g c =
    all_traced (g.P.Processes.machine c.args.machine.now) (g.P.Processes.shape c.args.machine.now) (g.P.Processes.inputs c.args.machine.now) c.args.rows.now c.loop-row.trace
    c.loop-row.last.items c.loop-row.held.items c.loop-row.started c.loop-row.row-index (omega arith) c.loop-row.invariant
