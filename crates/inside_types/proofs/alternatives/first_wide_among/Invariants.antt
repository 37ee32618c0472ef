use Rattle.std.proofs.Common.{◌≡◌, drop}
use Rattle.inside_types.specs.Alternatives.{AllNarrowIn, first_wide_among}
use Rattle.inside_types.proofs.alternatives.first_wide_among.Given as goal

abbrev pub invariant-loop-item : goal.invariant-loop-item
invariant-loop-item l = record {
  first : first_wide_among l.v (drop l.item-index l.items) ≡ first_wide_among l.v l.items;
  narrow : AllNarrowIn (drop l.item-index l.items);
}
