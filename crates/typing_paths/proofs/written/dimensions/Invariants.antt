use Rattle.std.proofs.Common.{map, take}
use Rattle.expr_type.specs.Typings.{all}
use Rattle.typing_fits.specs.Sound.{Extends}
use Rattle.typing_steps.specs.Steps.{TypesTo}
use Rattle.typing_parts.specs.Typists.{IsReady}
use Rattle.typing_paths.specs.Dimensions.{dimension_of}
use Rattle.typing_paths.proofs.written.dimensions.Given as goal

abbrev pub invariant-loop-d : goal.invariant-loop-d
invariant-loop-d g l = record {
  value : TypesTo l.dims (all (map (dimension_of (g.S.Names.context l.names)) (take l.d-index l.ds)) l.initial.known.functions) l.known.functions;
  ready : IsReady l.known;
  keeps : Extends l.initial.known.functions l.known.functions;
}
