use Rattle.std.proofs.Common.{◌≡◌, ℕ, ◌<◌, []}
use Rattle.peel.specs.Steps.{Going, Met}
use Rattle.peel.proofs.peeling.peel.Given as goal

abbrev pub invariant-loop-p : goal.invariant-loop-p
invariant-loop-p l = record {
  going : Going l.needs l.peeling;
  ended : l.peeling.path ≡ [];
  met : (q : ℕ) → q < l.p → Met l.peeling q;
}
