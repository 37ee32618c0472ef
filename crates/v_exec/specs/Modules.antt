-- Functions and processes of an instance of a module.
use Rattle.std.specs.Prelude.{◌≡◌, ◌≤◌, ℕ, List, map, Some, Result, IfOk}
use Rattle.b4_core.specs.declared.bit.Bit4.{Bit4}
use Rattle.picks.specs.Windows.{whole, written}
use Rattle.row_machine.specs.Valuation.{Valuation, Changes}
use Rattle.v_meaning.specs.Scopes as S
use Rattle.v_meaning.specs.Functions.{callees_within, callee_or_absent}
use Rattle.v_meaning.specs.Modules.{functions as functions_in}
use Rattle.v_meaning.specs.Runs as R
use Rattle.v_meaning.specs.Statements.{Doing}
use Rattle.v_eval.specs.declared.modules.Module.{Module}
use Rattle.v_eval.specs.declared.held.Held.{Held}
use Rattle.v_eval.specs.Functions.{function_at}
use Rattle.v_eval.specs.Holding.{holds}
use Rattle.v_eval.specs.Names.{signal_named}
use Rattle.v_eval.specs.Scopes.{callee_within}
use Rattle.v_run.specs.Changes.{changes_of, AllNear, Within}
use Rattle.v_exec.specs.declared.processes.Ran.{Ran}
use Rattle.v_exec.specs.Inside.{NamesFit}
use Rattle.v_exec.specs.Limits.{functions_most}

-- the signals of an instance whose signals are numbered from a number on
abbrev pub signals_in : ℕ → Module → List S.Named
signals_in first m = map (signal_named first) m.signals.entries

-- what names stand for outside functions and blocks, where calls go so deep
abbrev pub scope_in : ℕ → ℕ → Module → S.Scope
scope_in first depth m = record {
  names = signals_in first m;
  next = 0;
  callee = callees_within depth (signals_in first m) (functions_in m.items.now);
}

-- the function at an item
abbrev pub callee_in : ℕ → ℕ → Module → ℕ → S.Callee
callee_in first depth m i = callee_or_absent (callee_within depth (signals_in first m) (functions_in m.items.now)) (function_at m.items.now (Some i))

-- no function of the module does arithmetic on over 128 bits, however deep calls go
abbrev pub FunctionsNarrow : ℕ → Module → Type 0
FunctionsNarrow first m = (depth : ℕ) → functions_most m.items.now (scope_in first depth m) ≤ 128

-- what an input gets
abbrev pub bound_one : S.Named → List Bit4 → Changes
bound_one n bits = written n.number (whole (S.all_bits n)) bits

-- what a process has written, and what is pending
pub record HasRun (does : Doing) (sc : S.Scope) (v : Valuation) (r : Ran) : Type 0 where
  pub written : changes_of r.written ≡ (does.run sc v R.begun).written
  pub pending : changes_of r.pending ≡ (does.run sc v R.begun).pending
  pub near_written : AllNear r.written
  pub near_pending : AllNear r.pending
  -- of signals it writes bits that are there
  pub inside_written : (ws : List ℕ) → NamesFit ws sc.names → Within ws (changes_of r.written)
  pub inside_pending : (ws : List ℕ) → NamesFit ws sc.names → Within ws (changes_of r.pending)

-- each possible answer to a call is what the function at that item gives
abbrev pub AnswersIn : {E : Type 0} → ℕ → ℕ → Module → (Held → ℕ → List (List Bit4) → Result (List Bit4) E → Type 0) → Type 0
AnswersIn {E} first depth m post =
    (h : Held) (i : ℕ) (args : List (List Bit4)) (r : Result (List Bit4) E) → post h i args r → IfOk r (λ x. x ≡ (callee_in first depth m i).run (holds h) args)
