use Rattle.std.proofs.Common.{◌≡◌, ℕ, cond, [], ◌++◌, drop}
use Rattle.bit_sets.specs.Sets.{in_spans, tokens_at}
use Rattle.bit_sets.proofs.cutting.cut_uses.Given as goal

abbrev pub invariant-loop-u : goal.invariant-loop-u
invariant-loop-u l =
    (n : ℕ) → tokens_at l.to n ++ cond (in_spans l.set n) [] (tokens_at (drop l.u-index l.uses) n)
    ≡ tokens_at l.fn.to n ++ cond (in_spans l.set n) [] (tokens_at l.uses n)
