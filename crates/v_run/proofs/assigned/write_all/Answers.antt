use Rattle.std.proofs.Common.{◌≡◌, ◌+◌, [], drop, arith, ap, sym, ◌∙◌, subst}
use Rattle.std.proofs.Math.ListN.{drop_of_length-le}
use Rattle.row_machine.specs.Valuation.{put}
use Rattle.v_eval.specs.Holding.{holding}
use Rattle.v_eval.proofs.Loops.{at-front}
use Rattle.v_run.specs.Changes.{changes_of, AllNear}
use Rattle.v_run.proofs.Changed.{write-next}
use Rattle.v_run.proofs.assigned.write_all.Goals as goal

pub loop-piece-preserved : goal.loop-piece-preserved
loop-piece-preserved c =
    let pieces = c.args.pieces.now in
    let i = c.loop-piece.piece-index in
    let p = c.piece-item.result in
    let now = holding c.args.signals.now c.loop-piece.over.items c.loop-piece.locals.items in
    let new = holding c.args.signals.now c.write.new.over.items c.write.new.locals.items in
    let all = put (changes_of pieces) (holding c.args.signals.now c.args.over.now.items c.args.locals.now.items) in
    let front = at-front pieces i p (omega arith) c.piece-item.is in
    record {
      held = write-next p (drop (i + 1) pieces) now new all c.in_ok-write.ensures (subst (λ ps. put (changes_of ps) now ≡ all) front c.loop-piece.invariant.held);
      near = (subst AllNear front c.loop-piece.invariant.near).1;
    }

pub returns : goal.returns
returns c =
    let pieces = c.args.pieces.now in
    let now = holding c.args.signals.now c.loop-piece.over.items c.loop-piece.locals.items in
    let none : drop c.loop-piece.piece-index pieces ≡ [] = drop_of_length-le pieces (omega arith) in
    ap (λ ps. put (changes_of ps) now) (sym none) ∙ c.loop-piece.invariant.held
