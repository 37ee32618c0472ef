use Rattle.std.proofs.Common.{map, take}
use Rattle.expr_type.specs.Typings.{all}
use Rattle.inside_types.specs.Alternatives.{AllNarrowIn, alternative}
use Rattle.typing_fits.specs.Sound.{Extends}
use Rattle.typing_steps.specs.Steps.{TypesTo}
use Rattle.typing_rows.specs.Rows.{so_far}
use Rattle.typing_parts.specs.Typists.{IsReady}
use Rattle.typing_operators.specs.Ranges.{range_of}
use Rattle.typing_operators.proofs.insides.alternatives.Given as goal

abbrev pub invariant-loop-range : goal.invariant-loop-range
invariant-loop-range g l = record {
  typed : TypesTo (so_far l.whole (map alternative l.made)) (all (map (range_of (g.S.Names.context l.names)) (take l.range-index l.ranges)) l.fn.known.functions) l.known.functions;
  ready : IsReady l.known;
  keeps : Extends l.fn.known.functions l.known.functions;
  narrow : AllNarrowIn l.made;
}
