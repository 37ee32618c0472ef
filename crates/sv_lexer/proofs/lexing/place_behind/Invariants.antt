use Rattle.std.proofs.Common.{◌≡◌, ◌+◌, ◌≤◌, drop}
use Rattle.sv_lexer.specs.Lexing.{behind_bytes}
use Rattle.sv_lexer.proofs.lexing.place_behind.Given as goal

abbrev pub invariant-loop-byte : goal.invariant-loop-byte
invariant-loop-byte l = record {
  value : behind_bytes l.behind (drop l.byte-index l.bytes) ≡ behind_bytes l.initial.behind l.bytes;
  line : l.behind.line ≤ l.initial.behind.line + l.byte-index;
  col : l.behind.col ≤ l.initial.behind.col + l.byte-index;
  col_least : 1 ≤ l.behind.col;
}
