use Rattle.std.proofs.Common.{◌≡◌, ◌^◌}
use Rattle.memory_words.proofs.words.power_of_two.Given as goal

abbrev pub invariant-loop-i : goal.invariant-loop-i
invariant-loop-i l = l.power ≡ 2 ^ l._i
