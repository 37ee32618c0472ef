use Rattle.std.proofs.Common.{◌∙◌, sym, subst}
use Rattle.sv_types.specs.Flows as F
use Rattle.flow_sets.specs.Flows.{IsFlow}
use Rattle.flow_sets.proofs.Plain as P
use Rattle.flow_sets.proofs.found.reading.Goals as goal

pub returns-clause-flow : goal.returns-clause-flow
returns-clause-flow c = λ us h.
    let r = c.idle-plain.result in
    subst (λ early. IsFlow (record r { reads = c.args.uses; early = early }) (F.reading us)) (sym (c.in_ok-early.ensures ∙ c.as_slice.ensures)) (P.reading-is c.args.uses us r c.idle-plain.ensures.flow h)
