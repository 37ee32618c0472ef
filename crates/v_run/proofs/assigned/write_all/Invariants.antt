use Rattle.std.proofs.Common.{◌≡◌, drop}
use Rattle.row_machine.specs.Valuation.{put}
use Rattle.v_eval.specs.Holding.{holding}
use Rattle.v_run.specs.Changes.{changes_of, AllNear}
use Rattle.v_run.proofs.assigned.write_all.Given as goal

abbrev pub invariant-loop-piece : goal.invariant-loop-piece
invariant-loop-piece l = record {
  held :
      put (changes_of (drop l.piece-index l.pieces)) (holding l.signals l.over.items l.locals.items)
      ≡ put (changes_of l.fn.pieces) (holding l.fn.signals l.initial.over.items l.initial.locals.items);
  near : AllNear (drop l.piece-index l.pieces);
}
