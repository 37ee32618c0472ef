use Rattle.std.proofs.Common.{rules, ◌≡◌, map, ap, ◌∙◌, subst}
use Rattle.v_meaning.specs.Functions.{locals_of, bound}
use Rattle.v_meaning.specs.Runs.{begun, assign_now, cleared}
use Rattle.eval_store.proofs.Storing.{on-ok}
use Rattle.v_eval.specs.Names.{local_named}
use Rattle.v_run.specs.Standing.{Stands}
use Rattle.v_exec.proofs.functions.pass.Goals as goal

pub returns : goal.returns
returns c = λ v st.
    let f = c.args.f.now in
    let entered = subst (λ x. Stands v (assign_now x begun) c.assign.new.state) (c.in_ok-own.ensures.changes ∙ ap cleared c.requires) (c.in_ok-assign.ensures v begun st) in
    let same : c.as_slice.result.now ≡ c.in_ok-inputs.inputs = search rules in
    let s = assign_now (cleared (locals_of f)) begun in
    on-ok (λ h. subst (λ x. Stands v (assign_now x s) c.assign-2.new.state) (c.in_ok-passed.ensures.changes ∙ ap (λ ns. bound ns c.args.args.now) (ap (map local_named) same ∙ c.in_ok-inputs.ensures)) h) c.assign-2.result (c.assign-2.ensures v s entered)
