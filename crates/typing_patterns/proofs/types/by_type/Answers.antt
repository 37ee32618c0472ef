use Rattle.std.proofs.Common.{subst}
use Rattle.expr_type.specs.Answers.{Gives}
use Rattle.expr_type.specs.Forms.{type_cast}
use Rattle.typing_steps.specs.Steps.{TypesTo}
use Rattle.typing_patterns.specs.Insides.{as_inside}
use Rattle.typing_patterns.proofs.Crossing.{by-type-fine}
use Rattle.typing_patterns.proofs.types.by_type.Goals as goal

pub returns-in_ok-of-in-Ok-clause-value : goal.returns-in_ok-of-in-Ok-clause-value
returns-in_ok-of-in-Ok-clause-value g c =
    let k = g.S.Names.context c.args.names.now in
    λ x fs h.
    by-type-fine k c.args.first x c.args.cast.now c.in-Ok.t (as_inside k.source c.in_ok-of-in-Ok.of) c.cast_to.result fs c.args.known.now.functions c.behind_tick.new.known.functions
    (subst (λ r. TypesTo r (x fs) c.args.known.now.functions) c.in-Ok.is h) c.in_ok-of-in-Ok.ensures.value
    (subst (λ s. Gives c.cast_to.result (type_cast s c.args.first c.in-Ok.t (as_inside s c.in_ok-of-in-Ok.of))) c.text.ensures c.cast_to.ensures)
