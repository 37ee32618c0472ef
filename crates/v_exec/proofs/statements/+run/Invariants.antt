use Rattle.std.proofs.Common.{◌≡◌, ◌≤◌, drop, map}
use Rattle.row_machine.specs.Valuation.{Valuation}
use Rattle.v_meaning.specs.Runs.{State}
use Rattle.v_meaning.specs.Statements.{sequence, doing}
use Rattle.v_eval.specs.Scopes.{scope_of}
use Rattle.v_run.specs.Standing.{Stands}
use Rattle.v_exec.specs.Limits.{stmt_most, most_in_turn}
use Rattle.v_exec.proofs.statements.+run.Given as goal

abbrev pub invariant-run_all-loop-s : goal.invariant-run_all-loop-s
invariant-run_all-loop-s g l = record {
  narrow : most_in_turn (map stmt_most (drop l.s-index l.stmts)) (scope_of l.scope) ≤ 128;
  runs :
      (v : Valuation) (r : State)
      → Stands v r l.initial.state
      → (m : State) × (Stands v m l.state × ((sequence (map doing (drop l.s-index l.stmts))).run (scope_of l.scope) v m ≡ (sequence (map doing l.fn.stmts)).run (scope_of l.scope) v r));
}
