use Rattle.std.proofs.Common.{◌≡◌, ℕ, ◌||◌, drop}
use Rattle.bit_sets.specs.Sets.{in_spans, IsSet}
use Rattle.flow_sets.specs.Uses.{surely}
use Rattle.flow_sets.proofs.found.sure_set.Given as goal

abbrev pub invariant-loop-w : goal.invariant-loop-w
invariant-loop-w l = record {
  set : IsSet l.set;
  value : (n : ℕ) → (in_spans l.set n || surely (drop l.w-index l.writes) n) ≡ surely l.writes n;
}
