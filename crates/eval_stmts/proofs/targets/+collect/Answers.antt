use Rattle.std.proofs.Common.{◌≡◌, ◌+◌, ◌-◌, map, take, drop, Err, arith, ap, sym, ◌∙◌, subst}
use Rattle.std.proofs.lemmas.Result.{err_from_is_err_and}
use Rattle.std.proofs.Math.ListN.{drop_of_length-le}
use Rattle.row_machine.specs.Steps.{then_changes}
use Rattle.sv_types.specs.Meanings.{wide, total}
use Rattle.sv_types.specs.Operators.{puts_all, places_all, width_of_all, streamed}
use Rattle.sv_types.specs.Expressions.{meaning}
use Rattle.eval_parts.specs.Steps.{is_held}
use Rattle.eval_parts.specs.Surroundings.{running}
use Rattle.eval_parts.proofs.Efforts.{goes-on}
use Rattle.eval_parts.proofs.Lists.{own-narrow}
use Rattle.eval_parts.proofs.Nodes as N
use Rattle.eval_exprs.specs.Held.{around, formals}
use Rattle.eval_exprs.proofs.Turns.{at-front}
use Rattle.eval_stmts.specs.Environments.{updates}
use Rattle.eval_stmts.specs.Parts.{PartsFit, TargetGives}
use Rattle.eval_stmts.proofs.Collecting as K
use Rattle.eval_stmts.proofs.targets.+collect.Goals as goal

pub collect-returns-in_err-found-in-Path : goal.collect-returns-in_err-found-in-Path
collect-returns-in_err-found-in-Path g t c =
    let p = err_from_is_err_and c.from_residual.result c.from_residual.ensures.1 in
    let a = around c.args.held in
    let us = c.args.to.now.items in
    subst (λ r. TargetGives r (meaning c.args.e.now) c.args.value.now a us us c.args.budget.now c.find.new.budget) (sym (p.1 ∙ ap Err p.2))
    (K.path-halts c.in_err-found-in-Path.field-0.0 c.args.e.now c.in-Path.field-0 c.args.value.now a us us c.args.budget.now c.find.new.budget c.in-Path.ensures c.in_err-found-in-Path.ensures)

pub collect-store-requires : goal.collect-store-requires
collect-store-requires g t c = let e = c.args.e.now in own-narrow e (formals c.args.held.scope) (wide (meaning e)) c.requires.fits

pub collect-collect_all-requires : goal.collect-collect_all-requires
collect-collect_all-requires g t c κs within =
    let e = c.args.e.now in
    let es = c.in-Concat.es.now in
    (omega (arith, c.decreases, N.nodes-Concat e es c.in-Concat.ensures), (within, (c.requires.calls, K.concat-parts e es (formals c.args.held.scope) (is_held c.args.held.signals.now) c.in-Concat.ensures c.requires.fits c.requires.roots)))

pub collect-collect_all-requires-in-Stream : goal.collect-collect_all-requires-in-Stream
collect-collect_all-requires-in-Stream g t c κs within =
    let e = c.args.e.now in
    let s = c.in-Stream.stream in (
      omega (arith, c.decreases, N.nodes-Stream e s.reversed s.slice s.parts.now c.in-Stream.ensures),
      (within, (c.requires.calls, K.stream-parts e s.reversed s.slice s.parts.now (formals c.args.held.scope) (is_held c.args.held.signals.now) c.in-Stream.ensures c.requires.fits c.requires.roots)),
    )

pub collect-returns-in_ok-push-in-Path : goal.collect-returns-in_ok-push-in-Path
collect-returns-in_ok-push-in-Path g t c =
    K.path-adds c.args.e.now c.in-Path.field-0 c.in_ok-found-in-Path.found c.args.value.now c.in_ok-stored-in-Path.stored (around c.args.held) c.args.to.now.items c.push.new.self.items c.args.budget.now c.find.new.budget c.in-Path.ensures
    c.in_ok-found-in-Path.ensures c.requires.roots c.in_ok-stored-in-Path.ensures c.in_ok-push-in-Path.ensures.items

pub collect-returns-in-Concat : goal.collect-returns-in-Concat
collect-returns-in-Concat g t c =
    K.concat-gives c.collect_all.result c.args.e.now c.in-Concat.es.now c.args.value.now (around c.args.held) c.args.to.now.items c.collect_all.new.to.items c.args.budget.now c.collect_all.new.budget c.in-Concat.ensures c.collect_all.ensures

pub collect-returns-in_ok-ordered-in-Stream : goal.collect-returns-in_ok-ordered-in-Stream
collect-returns-in_ok-ordered-in-Stream g t c =
    let s = c.in-Stream.stream in
    K.stream-gives c.collect_all-in-Stream.result c.args.e.now s.reversed s.slice s.parts.now c.args.value.now c.in_ok-ordered-in-Stream.ordered (around c.args.held) c.args.to.now.items c.collect_all-in-Stream.new.to.items c.args.budget.now
    c.collect_all-in-Stream.new.budget c.in-Stream.ensures (c.in_ok-ordered-in-Stream.ensures ∙ ap (streamed s.reversed s.slice) (c.in_ok-copied-in-Stream.ensures ∙ c.as_slice.ensures)) c.collect_all-in-Stream.ensures

pub collect_all-total_width-above-requires-clause-narrow : goal.collect_all-total_width-above-requires-clause-narrow
collect_all-total_width-above-requires-clause-narrow g t c = K.parts-narrow c.args.es.now (formals c.args.held.scope) c.requires.fits.fit

pub collect_all-collect-requires : goal.collect_all-collect-requires
collect_all-collect-requires g t c κs within =
    let fs = formals c.args.held.scope in
    let holds = is_held c.args.held.signals.now in
    let es = c.args.es.now in
    let rest = drop (c.loop-e.e-index + 1) es in
    let here = at-front es c.loop-e.e-index c.e-item.result (omega arith) c.e-item.is in
    let fit = subst (λ xs. PartsFit xs fs holds) here c.loop-e.invariant.fit in
    (omega (arith, c.decreases, c.loop-e.invariant.few, ap (λ xs. total (map N.nodes xs)) here), (within, (c.requires.calls, (fit.fit.0, K.first-part c.e-item.result rest fs holds fit))))

pub collect_all-loop-e-preserved : goal.collect_all-loop-e-preserved
collect_all-loop-e-preserved g t c =
    let fs = formals c.args.held.scope in
    let a = around c.args.held in
    let holds = is_held c.args.held.signals.now in
    let es = c.args.es.now in
    let v = c.args.value.now in
    let x = c.e-item.result in
    let m = meaning x in
    let rest = drop (c.loop-e.e-index + 1) es in
    let ms = map meaning rest in
    let here = at-front es c.loop-e.e-index x (omega arith) c.e-item.is in
    let fit = subst (λ xs. PartsFit xs fs holds) here c.loop-e.invariant.fit in
    let width = c.own_width-width.result in
    let above : c.loop-e.above - width ≡ width_of_all ms = omega (arith, c.loop-e.invariant.above, c.own_width-width.ensures, ap (λ xs. width_of_all (map meaning xs)) here) in
    let gives = c.in_ok-collect.ensures in
    record {
      above = above;
      fit = K.later-parts x rest fs holds fit;
      few = omega (arith, c.loop-e.invariant.few, ap (λ xs. total (map N.nodes xs)) here);
      changes = K.adds-next m ms c.in_ok-piece.piece v a c.loop-e.to.items c.collect.new.to.items (then_changes (updates c.args.to.now.items) (puts_all (map meaning es) a v))
          (c.in_ok-piece.ensures ∙ ap (λ n. take n (drop (c.loop-e.above - width) v)) c.own_width-width.ensures ∙ ap (λ k. take (wide m) (drop k v)) above) gives.0
          (subst (λ xs. then_changes (updates c.loop-e.to.items) (puts_all (map meaning xs) a v) ≡ then_changes (updates c.args.to.now.items) (puts_all (map meaning es) a v)) here c.loop-e.invariant.changes);
      ready = λ h. gives.0.ready (c.loop-e.invariant.ready h);
      runs = sym (goes-on (places_all ms a) (m.places a (running c.loop-e.budget)) c.collect.new.budget gives.1)
          ∙ subst (λ xs. places_all (map meaning xs) a (running c.loop-e.budget) ≡ places_all (map meaning es) a (running c.args.budget.now)) here c.loop-e.invariant.runs;
    }

pub collect_all-returns : goal.collect_all-returns
collect_all-returns g t c =
    let a = around c.args.held in
    let es = c.args.es.now in
    let v = c.args.value.now in
    let ended = drop_of_length-le es (omega arith) in (
      record {
        changes = K.all-added c.loop-e.to.items a v (then_changes (updates c.args.to.now.items) (puts_all (map meaning es) a v))
            (subst (λ xs. then_changes (updates c.loop-e.to.items) (puts_all (map meaning xs) a v) ≡ then_changes (updates c.args.to.now.items) (puts_all (map meaning es) a v)) ended c.loop-e.invariant.changes);
        ready = c.loop-e.invariant.ready;
      },
      sym (subst (λ xs. places_all (map meaning xs) a (running c.loop-e.budget) ≡ places_all (map meaning es) a (running c.args.budget.now)) ended c.loop-e.invariant.runs),
    )
