use Rattle.std.proofs.Common.{◌≡◌, ◌≤◌, ◌-◌, ◌++◌, length, map, drop}
use Rattle.v_lexer.specs.Places.{placed_from}
use Rattle.v_lexer.specs.Seen.{seen, tokens_of}
use Rattle.v_lexer.proofs.lexing.lex.Given as goal

abbrev pub invariant-loop-at : goal.invariant-loop-at
invariant-loop-at l = record {
  value : l.tokens ++ map seen (placed_from l.at 0 (drop l.at l.bytes)) ≡ tokens_of l.bytes;
  within : l.at ≤ length l.bytes;
}

abbrev pub decreases-loop-at : goal.decreases-loop-at
decreases-loop-at l = length l.bytes - l.at
