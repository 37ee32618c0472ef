use Rattle.std.proofs.Common.{◌≡◌, ◌≤◌, ◌+◌, drop}
use Rattle.v_parse.specs.Spots.{behind}
use Rattle.v_parse.proofs.spot.behind.Given as goal

abbrev pub invariant-loop-byte : goal.invariant-loop-byte
invariant-loop-byte l = record {
  place : behind l.line l.col (drop l.byte-index l.bytes) ≡ behind 1 1 l.bytes;
  line : l.line ≤ l.byte-index + 1;
  col : l.col ≤ l.byte-index + 1;
}
