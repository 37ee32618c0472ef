use Rattle.std.proofs.Common.{◌≡◌, ◌≤◌, length, take}
use Rattle.function_cuts.specs.Cuts.{IsIndexed}
use Rattle.function_cuts.proofs.cutting.cut.Given as goal

abbrev pub invariant-loop-alloc : goal.invariant-loop-alloc
invariant-loop-alloc l = record {
  indexed : IsIndexed l.known;
  within : l.count ≤ length l.known.functions;
  same : take l.count l.known.functions ≡ take l.count l.initial.known.functions;
}

abbrev pub decreases-loop-alloc : goal.decreases-loop-alloc
decreases-loop-alloc l = length l.known.functions
