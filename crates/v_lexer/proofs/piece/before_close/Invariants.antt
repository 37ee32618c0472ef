use Rattle.std.proofs.Common.{◌≡◌, ◌+◌, drop, codes}
use Rattle.v_tree.specs.Tokens.{until, begins}
use Rattle.v_lexer.proofs.piece.before_close.Given as goal

abbrev pub invariant-loop-at : goal.invariant-loop-at
invariant-loop-at l = l.at + until (begins (codes "*/")) (drop l.at l.bytes) ≡ until (begins (codes "*/")) l.bytes
