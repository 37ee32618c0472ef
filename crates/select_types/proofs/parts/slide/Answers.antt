use Rattle.std.proofs.Common.{ℤ, subst}
use Rattle.expr_type.specs.Answers.{Gives, source}
use Rattle.expr_type.specs.Selects as select
use Rattle.select_types.proofs.parts.slide.Goals as goal

pub returns-clause-value : goal.returns-clause-value
returns-clause-value c =
    subst (λ (n : ℤ). Gives c.slide_by.result (select.slide (source c.args.text) c.args.opening c.args.up c.args.v c.args.i n)) c.elements_in-elements.ensures
    c.slide_by.ensures.value
