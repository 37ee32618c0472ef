use Rattle.std.proofs.Common.{◌+◌, take}
use Rattle.cycle_dst.specs.Grounds.{Below, machine_in}
use Rattle.cycle_dst.specs.Prints.{AllPrints, IsKnown}
use Rattle.cycle_dst.proofs.prints.all_prints.Given as goal

abbrev pub invariant-loop-i : goal.invariant-loop-i
invariant-loop-i l = record {
  read : Below l.read (l.i + 1);
  written : Below l.written (l.i + 1);
  known : IsKnown l.ground.tables.now l.known;
  pairs : AllPrints l.prints (take l.i (machine_in l.ground).combs);
}
