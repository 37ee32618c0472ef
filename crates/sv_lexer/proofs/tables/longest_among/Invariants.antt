use Rattle.std.proofs.Common.{◌≡◌, ◌≤◌, length, drop, map}
use Rattle.sv_lexer.specs.Tables.{longest_of}
use Rattle.sv_lexer.proofs.tables.longest_among.Given as goal

abbrev pub invariant-loop-word : goal.invariant-loop-word
invariant-loop-word l = record {
  within : l.best ≤ length l.bytes;
  value : longest_of l.bytes l.best (map (λ word. word.now) (drop l.word-index l.words)) ≡ longest_of l.bytes 0 (map (λ word. word.now) l.words);
}
