use Rattle.std.proofs.Common.{◌≡◌, ◌-◌, ℕ, ◌&&◌, not, cond, [], ◌∷◌, ◌++◌, drop, length}
use Rattle.bit_sets.specs.Sets.{covers, in_spans, IsSet, tokens_at}
use Rattle.bit_sets.proofs.cutting.cut_use.Given as goal

abbrev pub invariant-loop-k : goal.invariant-loop-k
invariant-loop-k l = record {
  rest : IsSet (drop l.k l.set);
  value : (n : ℕ) → tokens_at l.to n ++ cond (covers (record { low = l.low; high = l.u.span.high }) n && not (in_spans (drop l.k l.set) n)) (l.u.at ∷ []) []
      ≡ tokens_at l.fn.to n ++ cond (covers l.u.span n && not (in_spans l.set n)) (l.u.at ∷ []) [];
}

abbrev pub decreases-loop-k : goal.decreases-loop-k
decreases-loop-k l = length l.set - l.k
