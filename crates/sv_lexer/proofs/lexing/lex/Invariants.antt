use Rattle.std.proofs.Common.{◌≡◌, ◌+◌, ◌≤◌, ◌++◌, length, IsTrue}
use Rattle.sv_lexer.specs.Lexing.{tokens_from, tokens_of}
use Rattle.sv_lexer.proofs.Unclosed.{NoString}
use Rattle.sv_lexer.proofs.lexing.lex.Given as goal

abbrev pub invariant-loop-rest : goal.invariant-loop-rest
invariant-loop-rest l = record {
  value : l.tokens ++ tokens_from 0 l.place l.rest ≡ tokens_of l.file l.bytes;
  line : l.place.line + length l.rest ≤ length l.bytes + 1;
  col : l.place.col + length l.rest ≤ length l.bytes + 1;
  col_least : 1 ≤ l.place.col;
  no_string : IsTrue l.no_string → NoString l.rest;
}

abbrev pub decreases-loop-rest : goal.decreases-loop-rest
decreases-loop-rest l = length l.rest
