use Rattle.std.proofs.Common.{ℕ, List, subst, ◌∙◌, flat_map}
use Rattle.std.proofs.lemmas.Result.{IfOk-weaker}
use Rattle.reach_marks.specs.Reach.{IsReached}
use Rattle.call_reach.specs.Called as spec
use Rattle.call_reach.proofs.Reached.{called-law}
use Rattle.call_reach.proofs.called.Goals as goal

pub returns : goal.returns
returns c =
    IfOk-weaker c.reached.result (λ r. IsReached c.as_slice.result.now c.deref.result.now r) _
    (λ r h d p f.
    called-law c.args.processes.now c.args.functions.now r
    (subst (λ (ns : List (List ℕ)). IsReached (flat_map spec.process_calls c.args.processes.now) ns r) (c.deref.ensures.value ∙ c.in_ok-next.ensures)
    (subst (λ (ns : List ℕ). IsReached ns c.deref.result.now r) (c.as_slice.ensures ∙ c.in_ok-roots.ensures) h))
    d p f)
    c.reached.ensures
