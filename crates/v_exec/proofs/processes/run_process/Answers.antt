use Rattle.std.proofs.Common.{[], sym, subst}
use Rattle.v_meaning.specs.Runs.{begun}
use Rattle.v_eval.specs.Holding.{holding}
use Rattle.v_run.specs.Changes.{Within}
use Rattle.v_exec.specs.Modules.{scope_in}
use Rattle.v_exec.proofs.Staying.{process-inside}
use Rattle.v_exec.proofs.processes.run_process.Goals as goal

pub returns : goal.returns
returns c =
    let v = holding c.args.signals.now [] [] in
    let sc = scope_in c.args.first c.args.depth c.args.of.now in
    let st = c.in_ok-run_branch.ensures v begun c.in_ok-state.ensures in
    record {
      written = st.written;
      pending = st.pending;
      near_written = st.near_written;
      near_pending = st.near_pending;
      inside_written = λ ws fit. subst (Within ws) (sym st.written) (process-inside ws c.args.body.now sc v fit).written;
      inside_pending = λ ws fit. subst (Within ws) (sym st.pending) (process-inside ws c.args.body.now sc v fit).pending;
    }
