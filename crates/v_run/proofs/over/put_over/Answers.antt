use Rattle.std.proofs.Common.{◌≡◌, ◌+◌, [], drop, refl, arith, ap, sym, ◌∙◌, subst}
use Rattle.std.proofs.Math.ListN.{drop_of_length-le}
use Rattle.row_machine.specs.Valuation.{put}
use Rattle.row_machine.specs.Steps.{unchanged}
use Rattle.v_meaning.specs.Machine.{to_signals}
use Rattle.v_eval.specs.Holding.{holding}
use Rattle.v_eval.proofs.Loops.{at-front}
use Rattle.v_run.specs.Changes.{change_of, changes_of, widths, AllNear, Within}
use Rattle.v_run.proofs.PutOver.{none-put, over-next, within-first, within-rest}
use Rattle.v_run.proofs.over.put_over.Goals as goal

pub put_signal-requires : goal.put_signal-requires
put_signal-requires c = record {
  near = (subst AllNear (at-front c.args.pieces.now c.loop-piece.piece-index c.piece-item.result (omega arith) c.piece-item.is) c.loop-piece.invariant.near).0;
}

pub loop-piece-preserved : goal.loop-piece-preserved
loop-piece-preserved c =
    let ps = c.args.pieces.now in
    let i = c.loop-piece.piece-index in
    let p = c.piece-item.result in
    let ws = widths c.args.to.now in
    let rest = drop (i + 1) ps in
    let front = at-front ps i p (omega arith) c.piece-item.is in
    let now = holding c.loop-piece.to [] [] in
    let all = put (to_signals (changes_of ps)) (holding c.args.to.now [] []) in
    record {
      near = (subst AllNear front c.loop-piece.invariant.near).1;
      shape = c.put_signal.ensures.widths ∙ c.loop-piece.invariant.shape;
      inside = λ h. within-rest ws p rest (subst (λ xs. Within ws (changes_of xs)) front (c.loop-piece.invariant.inside h));
      values = λ h.
          (
          let here = within-first ws p rest (subst (λ xs. Within ws (changes_of xs)) front (c.loop-piece.invariant.inside h)) in
          over-next p rest now (holding c.put_signal.new.to [] []) all (c.put_signal.ensures.values (subst (λ ns. Within ns (change_of p)) (sym c.loop-piece.invariant.shape) here))
          (subst (λ xs. put (to_signals (changes_of xs)) now ≡ all) front (c.loop-piece.invariant.values h))
          );
    }

pub returns-clause-values : goal.returns-clause-values
returns-clause-values c = λ h.
    (
    let ps = c.args.pieces.now in
    let now = holding c.loop-piece.to [] [] in
    let none : drop c.loop-piece.piece-index ps ≡ [] = drop_of_length-le ps (omega arith) in
    none-put unchanged now (λ q e. refl) ∙ ap (λ xs. put (to_signals (changes_of xs)) now) (sym none) ∙ c.loop-piece.invariant.values h
    )
