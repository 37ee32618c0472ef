use Rattle.std.proofs.Common.{◌≡◌, drop, map, max}
use Rattle.expr_type.specs.Operators.{ordered}
use Rattle.sv_types.specs.Meanings.{most}
use Rattle.inside_types.specs.Alternatives.{AllNarrowIn, alternative}
use Rattle.inside_types.proofs.alternatives.most_ordered.Given as goal

abbrev pub invariant-loop-item : goal.invariant-loop-item
invariant-loop-item l = record {
  most : max l.most (most (map (ordered l.v) (map alternative (drop l.item-index l.items)))) ≡ most (map (ordered l.v) (map alternative l.items));
  narrow : AllNarrowIn (drop l.item-index l.items);
}
