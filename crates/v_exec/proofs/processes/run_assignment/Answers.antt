use Rattle.std.proofs.Common.{[], sym, ◌∙◌, subst}
use Rattle.v_meaning.specs.Values.{meaning}
use Rattle.v_eval.specs.Holding.{holding}
use Rattle.v_run.specs.Changes.{Within}
use Rattle.v_exec.specs.Modules.{scope_in}
use Rattle.v_exec.proofs.Running.{if-ok, written-alone}
use Rattle.v_exec.proofs.Staying.{assign-inside}
use Rattle.v_exec.proofs.processes.run_assignment.Goals as goal

pub returns-clause-writes : goal.returns-clause-writes
returns-clause-writes c =
    if-ok (λ ps h. h ∙ written-alone c.args.to.now c.args.value.now (scope_in c.args.first c.args.depth c.args.of.now) (holding c.args.signals.now [] [])) c.writes.result c.writes.ensures.writes

pub returns-clause-inside : goal.returns-clause-inside
returns-clause-inside c =
    let sc = scope_in c.args.first c.args.depth c.args.of.now in
    let v = holding c.args.signals.now [] [] in
    if-ok
    (λ ps h ws fit. subst (Within ws) (sym (h ∙ written-alone c.args.to.now c.args.value.now sc v)) (assign-inside ws c.args.to.now (meaning c.args.value.now) sc v fit))
    c.writes.result c.writes.ensures.writes
