use Rattle.std.proofs.Common.{ap, sym, ◌∙◌, subst}
use Rattle.row_machine.specs.Valuation.{put}
use Rattle.row_machine.specs.Steps.{then_changes}
use Rattle.v_meaning.specs.Runs.{assign_as}
use Rattle.eval_store.proofs.Storing.{on-ok}
use Rattle.v_eval.specs.Holding.{holding}
use Rattle.v_run.specs.Changes.{changes_of, AllNear}
use Rattle.v_run.specs.Standing.{Stands}
use Rattle.v_run.proofs.Changed.{put-then, changes-both, near-both}
use Rattle.v_run.proofs.assigned.assign.Goals as goal

pub returns : goal.returns
returns c = λ v s st.
    let old = c.args.state.now in
    let ps = c.args.pieces in
    let held = c.in_ok-write_all.ensures ∙ ap (λ x. put (changes_of x) (holding old.signals.now old.over.items old.locals.items)) c.as_slice.ensures in
    on-ok
    (λ is. subst
    (λ b. Stands v (assign_as b (changes_of ps) s) (record { signals = old.signals; over = c.write_all.new.over; locals = c.write_all.new.locals; written = c.append-2.new.self; pending = old.pending }))
    (sym c.if-later.false)
    (record {
      now = held ∙ ap (put (changes_of ps)) st.now ∙ sym (put-then s.written (changes_of ps) v);
      written = ap changes_of is ∙ changes-both old.written ps ∙ ap (λ x. then_changes x (changes_of ps)) st.written;
      pending = st.pending;
      near_written = subst AllNear (sym is) (near-both old.written ps st.near_written c.requires);
      near_pending = st.near_pending;
    }))
    c.append-2.result c.append-2.ensures
