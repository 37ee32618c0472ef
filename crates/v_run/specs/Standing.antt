-- A run at some point, as the code has it.
use Rattle.std.specs.Prelude.{◌≡◌}
use Rattle.row_machine.specs.Valuation.{Valuation, put}
use Rattle.v_meaning.specs.Runs as R
use Rattle.v_eval.specs.Holding.{holding}
use Rattle.v_run.specs.Changes.{changes_of, AllNear}
use Rattle.v_run.specs.declared.state.State.{State}

-- a run over a valuation that has come to a state
pub record Stands (v : Valuation) (s : R.State) (st : State) : Type 0 where
  pub now : holding st.signals.now st.over.items st.locals.items ≡ put s.written v
  pub written : changes_of st.written ≡ s.written
  pub pending : changes_of st.pending ≡ s.pending
  pub near_written : AllNear st.written
  pub near_pending : AllNear st.pending
