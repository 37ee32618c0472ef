use Rattle.std.proofs.Common.{◌≡◌, [], drop}
use Rattle.row_machine.specs.Valuation.{put}
use Rattle.v_meaning.specs.Machine.{to_signals}
use Rattle.v_eval.specs.Holding.{holding}
use Rattle.v_run.specs.Changes.{changes_of, widths, AllNear, Within}
use Rattle.v_run.proofs.over.put_over.Given as goal

abbrev pub invariant-loop-piece : goal.invariant-loop-piece
invariant-loop-piece l = record {
  near : AllNear (drop l.piece-index l.pieces);
  shape : widths l.to ≡ widths l.initial.to;
  inside : Within (widths l.initial.to) (changes_of l.fn.pieces) → Within (widths l.initial.to) (changes_of (drop l.piece-index l.pieces));
  values :
      Within (widths l.initial.to) (changes_of l.fn.pieces)
      → put (to_signals (changes_of (drop l.piece-index l.pieces))) (holding l.to [] []) ≡ put (to_signals (changes_of l.fn.pieces)) (holding l.initial.to [] []);
}
