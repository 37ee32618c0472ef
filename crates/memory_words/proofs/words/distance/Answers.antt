use Rattle.std.proofs.Common.{rules, arith, inl, inr}
use Rattle.std.proofs.lemmas.Int.{ints}
use Rattle.memory_words.proofs.words.distance.Goals as goal

pub returns-then-above-lt0 : goal.returns-then-above-lt0
returns-then-above-lt0 c = inl (first_of (search rules, omega (arith, ints)))

pub returns-then-above-last : goal.returns-then-above-last
returns-then-above-last c = inr (first_of (search rules, omega (arith, ints)))

pub returns : goal.returns
returns c = (first_of (search rules, omega (arith, ints)), first_of (search rules, omega (arith, ints)))
