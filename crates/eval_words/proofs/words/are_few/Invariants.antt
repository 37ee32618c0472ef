use Rattle.std.proofs.Common.{◌≡◌, ◌^◌, ◌+◌, length, string_bytes, take}
use Rattle.std.specs.List.{sum_by}
use Rattle.eval_words.proofs.words.are_few.Given as goal

abbrev pub invariant-loop-word : goal.invariant-loop-word
invariant-loop-word l = sum_by (λ w. length (string_bytes w)) (take l.word-index l.words) + l.room ≡ 2 ^ 30
