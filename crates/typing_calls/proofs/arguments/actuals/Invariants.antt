use Rattle.std.proofs.Common.{take}
use Rattle.typing_fits.specs.Sound.{Extends}
use Rattle.typing_steps.specs.Steps.{TypesTo}
use Rattle.pattern_types.specs.Meaning.{operand_of}
use Rattle.typing_parts.specs.Typists.{IsReady}
use Rattle.typing_calls.specs.Calls.{actuals_of}
use Rattle.typing_calls.specs.Lists.{all_meant}
use Rattle.typing_calls.proofs.arguments.actuals.Given as goal

abbrev pub invariant-loop-e : goal.invariant-loop-e
invariant-loop-e g l =
    let k = g.S.Names.context l.names in
    record {
      made : TypesTo (all_meant (operand_of k.source) l.made) (actuals_of k (take l.e-index l.es) l.fn.known.functions) l.known.functions;
      ready : IsReady l.known;
      keeps : Extends l.fn.known.functions l.known.functions;
    }
