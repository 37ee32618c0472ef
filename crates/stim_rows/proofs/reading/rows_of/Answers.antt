use Rattle.std.proofs.Common.{◌-◌, ◌++◌, ◌∷◌, [], length, ap, subst, ◌<◌, ◌∙◌}
use Rattle.stim_rows.specs.Reading as spec
use Rattle.stim_rows.proofs.Stepping.{rows-step}
use Rattle.stim_rows.proofs.reading.rows_of.Goals as goal

pub loop-rest-preserved : goal.loop-rest-preserved
loop-rest-preserved c =
    ap (λ r. r ++ spec.rows_in (c.args.count - length r) c.args.inputs.now c.args.size c.behind-rest.result.now) (c.in_ok-push.ensures.ok ∙ ap (λ row. c.loop-rest.rows ++ row ∷ []) c.in_ok-row_of.ensures)
    ∙ ap (λ b. (c.loop-rest.rows ++ spec.row_in c.args.inputs.now c.loop-rest.rest.now ∷ []) ++ spec.rows_in (c.args.count - length (c.loop-rest.rows ++ spec.row_in c.args.inputs.now c.loop-rest.rest.now ∷ [])) c.args.inputs.now c.args.size b) c.behind-rest.ensures
    ∙ rows-step c.loop-rest.rows c.args.count c.args.inputs.now c.args.size c.loop-rest.rest.now (subst (λ k. k < c.args.count) c.len.ensures c.loop-rest-test.true)
    ∙ c.loop-rest.invariant
