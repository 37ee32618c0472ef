use Rattle.std.proofs.Common.{true, ◌∙◌, ap, sym, subst}
use Rattle.sv_types.specs.Flows as F
use Rattle.flow_sets.specs.Ends.{ending}
use Rattle.flow_sets.specs.Flows.{IsFlow}
use Rattle.flow_sets.proofs.Plain as P
use Rattle.flow_sets.proofs.found.jumping.Goals as goal

pub returns-clause-flow : goal.returns-clause-flow
returns-clause-flow c =
    subst (λ r. IsFlow r (F.jumping c.args.o)) (sym (c.with_ends.ensures ∙ ap (λ e. P.plain e true) (c.ending.ensures ∙ ap (ending c.args.o) c.new.ensures))) (P.jumping-is c.args.o)
