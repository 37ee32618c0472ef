use Rattle.std.proofs.Common.{ℕ}
use Rattle.peel.specs.Steps.{Going, Met, work}
use Rattle.peel.proofs.peeling.Peeling.walk.Given as goal

abbrev pub invariant-steps : goal.invariant-steps
invariant-steps l = record {
  going : Going l.needs l.self;
  met : (p : ℕ) → Met l.initial.self p → Met l.self p;
}

abbrev pub decreases-steps : goal.decreases-steps
decreases-steps l = work l.self
