use Rattle.std.proofs.Common.{◌≡◌, ◌≤◌, ◌^◌, Some, map, sum, length, string_bytes}
use Rattle.command_line.specs.Words as spec
use Rattle.command_line.specs.Drafts.{start, with_words}
use Rattle.command_line.proofs.words.read_all.Given as goal

abbrev pub invariant-loop-rest : goal.invariant-loop-rest
invariant-loop-rest l = record {
  same : with_words (Some l.draft) (spec.joined (map string_bytes l.rest)) ≡ with_words (Some start) (spec.joined (map string_bytes l.words));
  few : sum (map length (map string_bytes l.rest)) ≤ 2 ^ 30;
}

abbrev pub decreases-loop-rest : goal.decreases-loop-rest
decreases-loop-rest l = length l.rest
