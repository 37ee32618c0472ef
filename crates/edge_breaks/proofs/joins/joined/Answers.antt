use Rattle.std.proofs.Common.{ℕ, List, subst, ◌∙◌}
use Rattle.std.proofs.lemmas.Result.{IfOk-weaker}
use Rattle.reach_marks.specs.Reach.{IsReached}
use Rattle.edge_breaks.specs.Links.{roots_from}
use Rattle.edge_breaks.proofs.Joining.{joined-law}
use Rattle.edge_breaks.proofs.joins.joined.Goals as goal

pub returns : goal.returns
returns c =
    IfOk-weaker c.reached.result (λ r. IsReached c.as_slice.result.now c.deref.result.now r) _
    (λ r h d s p are links.
    joined-law c.args.signals.now c.args.processes.now c.args.found.now r
    (subst (λ (ns : List (List ℕ)). IsReached (roots_from 0 c.args.signals.now) ns r) (c.deref.ensures.value ∙ c.in_ok-next.ensures)
    (subst (λ (ns : List ℕ). IsReached ns c.deref.result.now r) (c.as_slice.ensures ∙ c.in_ok-roots.ensures) h))
    d s p are links)
    c.reached.ensures
