use Rattle.std.proofs.Common.{List, ◌∷◌, ◌++◌, true, [], arith, ap, ◌∙◌}
use Rattle.flow_sets.specs.declared.uses.Write.{Write}
use Rattle.sv_types.specs.Flows as F
use Rattle.part_flows.proofs.Parts as A
use Rattle.part_flows.proofs.locals.setting.Goals as goal

pub returns-clause-flow : goal.returns-clause-flow
returns-clause-flow c =
    A.if-ok c.writing.result _ _
    (λ r h marks long.
    h (record { of = F.whole_local c.args.local marks; exact = true } ∷ [])
    (A.local-written c.args.local c.args.width marks c.local_span.result c.push.new.self long (omega (arith, c.ranges.width.fits)) c.local_span.ensures (c.in_ok-push.ensures.ok ∙ ap (λ (ws : List Write). ws ++ record { of = record { span = c.local_span.result; at = 0 }; exact = true } ∷ []) c.new-writes.ensures)))
    c.writing.ensures.flow
