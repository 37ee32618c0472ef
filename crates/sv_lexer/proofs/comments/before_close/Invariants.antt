use Rattle.std.proofs.Common.{◌≡◌, ◌+◌, drop}
use Rattle.sv_lexer.specs.Spans.{until, closes_comment}
use Rattle.sv_lexer.proofs.comments.before_close.Given as goal

abbrev pub invariant-loop-at : goal.invariant-loop-at
invariant-loop-at l = l.at + until closes_comment (drop l.at l.bytes) ≡ until closes_comment l.bytes
