use Rattle.std.proofs.Common.{map, take}
use Rattle.operand_types.specs.Allowed.{AllNarrow}
use Rattle.expr_type.specs.Typings.{all}
use Rattle.typing_fits.specs.Sound.{Extends}
use Rattle.typing_steps.specs.Steps.{TypesTo}
use Rattle.typing_rows.specs.Rows.{so_far}
use Rattle.typing_parts.specs.Typists.{IsReady}
use Rattle.typing_operators.specs.Lists.{part_expr}
use Rattle.typing_operators.proofs.lists.parts.Given as goal

abbrev pub invariant-loop-e : goal.invariant-loop-e
invariant-loop-e g l = record {
  typed : TypesTo (so_far l.whole l.made) (all (map (part_expr (g.S.Names.context l.names)) (take l.e-index l.es)) l.fn.known.functions) l.known.functions;
  ready : IsReady l.known;
  keeps : Extends l.fn.known.functions l.known.functions;
  narrow : AllNarrow l.made;
}
