use Rattle.std.proofs.Common.{◌≡◌, ◌+◌, drop}
use Rattle.sv_lexer.specs.Spans.{until, ends_line}
use Rattle.sv_lexer.proofs.comments.line_rest.Given as goal

abbrev pub invariant-loop-at : goal.invariant-loop-at
invariant-loop-at l = l.at + until ends_line (drop l.at l.bytes) ≡ until ends_line l.bytes
