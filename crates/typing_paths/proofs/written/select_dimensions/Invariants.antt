use Rattle.std.proofs.Common.{map, take}
use Rattle.expr_type.specs.Typings.{all}
use Rattle.typing_fits.specs.Sound.{Extends}
use Rattle.typing_steps.specs.Steps.{TypesTo}
use Rattle.typing_parts.specs.Typists.{IsReady}
use Rattle.typing_paths.specs.Dimensions.{select_dimension_of}
use Rattle.typing_paths.proofs.written.select_dimensions.Given as goal

abbrev pub invariant-loop-select : goal.invariant-loop-select
invariant-loop-select g l = record {
  value : TypesTo l.dims (all (map (select_dimension_of (g.S.Names.context l.names)) (take l.select-index l.selects)) l.initial.known.functions) l.known.functions;
  ready : IsReady l.known;
  keeps : Extends l.initial.known.functions l.known.functions;
}
