use Rattle.std.proofs.Common.{take}
use Rattle.typing_fits.specs.Sound.{Extends}
use Rattle.typing_steps.specs.Steps.{TypesTo}
use Rattle.typing_parts.specs.Typists.{IsReady}
use Rattle.typing_calls.specs.Lists.{all_meant}
use Rattle.typing_actions.specs.TaskActuals.{actuals_of}
use Rattle.typing_actions.specs.Calls.{actual_of}
use Rattle.typing_actions.proofs.task_actuals.actuals.Given as goal

abbrev pub invariant-loop-i : goal.invariant-loop-i
invariant-loop-i g l =
    let k = g.S.Names.context l.names in
    record {
      made : TypesTo (all_meant (actual_of k.source) l.made) (actuals_of k l.ways (take l.i l.es) l.fn.known.functions) l.known.functions;
      ready : IsReady l.known;
      keeps : Extends l.fn.known.functions l.known.functions;
    }
