use Rattle.std.proofs.Common.{◌∙◌, ap, sym, subst}
use Rattle.sv_types.specs.declared.statement.Outcome.TheVariants as O
use Rattle.sv_types.specs.Flows as F
use Rattle.flow_sets.specs.Ends.{ending}
use Rattle.flow_sets.specs.Flows.{IsFlow}
use Rattle.flow_sets.proofs.Plain as P
use Rattle.flow_sets.proofs.found.idle.Goals as goal

pub returns-clause-flow : goal.returns-clause-flow
returns-clause-flow c =
    subst (λ r. IsFlow r (record F.nothing { unrolls = c.args.unrolls }))
    (sym (c.with_ends.ensures ∙ ap (λ e. P.plain e c.args.unrolls) (c.ending.ensures ∙ ap (ending O.Normal) c.new.ensures))) (P.idle-is c.args.unrolls)
