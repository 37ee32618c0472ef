use Rattle.std.proofs.Common.{◌+◌, ◌*◌, ◌≤ℤ◌, ◌∷◌, length}
use Rattle.target_flatten.specs.Owning.{AllOwn}
use Rattle.case_targets.specs.declared.indices.PathIndex.TheVariants as I
use Rattle.case_targets.specs.Naming.{NamesEach}
use Rattle.case_targets.specs.Spreading.{SpreadsBelow, all_of}
use Rattle.case_targets.proofs.targets.+spread.Given as goal

abbrev pub decreases-add_case : goal.decreases-add_case
decreases-add_case l = 4 * length l.rest.now + 1

abbrev pub decreases-cases_between : goal.decreases-cases_between
decreases-cases_between l = 4 * length l.rest.now + 2

abbrev pub decreases-cases : goal.decreases-cases
decreases-cases l = 4 * length l.rest.now + 3

abbrev pub decreases-spread : goal.decreases-spread
decreases-spread l = 4 * length l.rest.now

abbrev pub invariant-cases_between-loop-k : goal.invariant-cases_between-loop-k
invariant-cases_between-loop-k l = record {
  below : SpreadsBelow l.bits l.e l.done l.i l.rest l.fn.numbers.low l.k l.all;
  names : NamesEach l.bits l.e (all_of l.done (I.InPart l.i ∷ l.rest)) l.all;
  own : AllOwn l.name l.bits l.all;
  low : l.fn.numbers.low ≤ℤ l.k;
}

abbrev pub decreases-plain : goal.decreases-plain
decreases-plain l = 4 * length l.rest.now + 1
