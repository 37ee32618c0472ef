use Rattle.std.proofs.Common.{take}
use Rattle.typing_fits.specs.Sound.{Extends}
use Rattle.typing_steps.specs.Steps.{TypesTo}
use Rattle.typing_parts.specs.Typists.{IsReady}
use Rattle.typing_calls.specs.Lists.{all_meant}
use Rattle.typing_actions.specs.Conditions.{as_itself, conditions_of}
use Rattle.typing_actions.proofs.conditions.item_values.Given as goal

abbrev pub invariant-loop-e : goal.invariant-loop-e
invariant-loop-e g l =
    let k = g.S.Names.context l.names in
    record {
      made : TypesTo (all_meant as_itself l.made) (conditions_of k (take l.e-index l.es) l.fn.known.functions) l.known.functions;
      ready : IsReady l.known;
      keeps : Extends l.fn.known.functions l.known.functions;
    }
