use Rattle.std.proofs.Common.{◌+◌, ◌*◌, map, take}
use Rattle.std.specs.Prelude.{IfOk}
use Rattle.operand_types.specs.Allowed.{AllNarrow}
use Rattle.expr_type.specs.Typings.{all}
use Rattle.typing_fits.specs.Sound.{Extends}
use Rattle.typing_steps.specs.Steps.{TypesTo}
use Rattle.typing_parts.specs.Typists.{IsReady}
use Rattle.typing_calls.specs.Lists.{all_meant}
use Rattle.typing_operators.specs.Children.{nodes, sum}
use Rattle.typing_actions.specs.Actuals.{as_itself, part_of}
use Rattle.typing_actions.proofs.actual_walk.+actual.Given as goal

abbrev pub decreases-parts : goal.decreases-parts
decreases-parts g l = 2 * sum (map nodes l.items.now) + 1

abbrev pub decreases-target : goal.decreases-target
decreases-target g l = 2 * nodes l.e.now

abbrev pub invariant-parts-loop-item : goal.invariant-parts-loop-item
invariant-parts-loop-item g l =
    let k = g.S.Names.context l.names in
    record {
      made : TypesTo (all_meant as_itself l.made) (all (map (part_of k) (take l.item-index l.items)) l.fn.known.functions) l.known.functions;
      narrow : IfOk l.made (λ v. AllNarrow v.items);
      ready : IsReady l.known;
      keeps : Extends l.fn.known.functions l.known.functions;
    }
