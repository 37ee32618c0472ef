use Rattle.std.proofs.Common.{◌≡◌, ◌+◌, length, take}
use Rattle.cycle_dst.specs.Grounds.{Below, CombsOf, combs_among}
use Rattle.cycle_dst.proofs.making.all_combs.Given as goal

abbrev pub invariant-loop-k : goal.invariant-loop-k
invariant-loop-k l = record {
  long : length l.marks ≡ length l.ground.initial.now;
  below : Below l.marks (l.k + 1);
  pairs : CombsOf l.ground l.combs (combs_among l.ground (take l.k l.ground.procs.now));
}
