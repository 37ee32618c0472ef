use Rattle.std.proofs.Common.{◌≡◌, drop}
use Rattle.v_item_rules.specs.Signals.{fills}
use Rattle.v_item_rules.proofs.signals.pieces_fill.Given as goal

abbrev pub invariant-loop-piece : goal.invariant-loop-piece
invariant-loop-piece l = fills (drop l.piece-index l.pieces) l.left ≡ fills l.fn.pieces l.fn.bits
