use Rattle.std.proofs.Common.{◌≡◌, ◌≤◌, ◌+◌, ◌*◌, ◌<◌, ◌^◌, drop, length}
use Rattle.eval_words.specs.Words as spec
use Rattle.eval_words.proofs.words.value_of.Given as goal

abbrev pub invariant-loop-c : goal.invariant-loop-c
invariant-loop-c l = (spec.value_of l.value (drop l.c-index l.word) ≡ spec.value_of 0 l.word) × (l.value < 10 ^ l.c-index)
