-- What processes write, by what is kept of them.
use Rattle.std.specs.Prelude.{◌≡◌, ◌≤◌, ℕ, true, List, slice_index_or}
use Rattle.row_machine.specs.Valuation.{Valuation}
use Rattle.v_meaning.specs.Scopes.{Named, Scope, is_signal}
use Rattle.v_meaning.specs.Runs.{State, begun}
use Rattle.v_meaning.specs.Statements.{target}
use Rattle.v_meaning.specs.Modules.{Process}
use Rattle.v_eval.specs.Limits.{limits, most_given}
use Rattle.v_run.specs.Limits.{target_most}
use Rattle.v_run.specs.Changes.{changes_of, AllNear, Within}
use Rattle.v_exec.specs.declared.processes.Ran.{Ran}
use Rattle.v_exec.specs.Inside.{NamesFit}
use Rattle.v_exec.specs.Limits.{branch_most}
use Rattle.v_processes.specs.declared.process.Port.{Port}
use Rattle.v_processes.specs.declared.process.Does.{Does}
use Rattle.v_processes.specs.declared.process.Does.TheVariants as D

-- what a process does on what signals hold
abbrev pub ran : Process → Valuation → State
ran p v = p.does.run p.scope v begun

-- a process does no arithmetic on over 128 bits
abbrev pub DoesNarrow : Does → Scope → Type 0
DoesNarrow (D.Assign to value) sc = (target_most to.now sc ≤ 128) × (most_given ((target to.now).width sc) (limits value.now) sc ≤ 128)
DoesNarrow (D.Star body) sc = branch_most body.now sc ≤ 128
DoesNarrow (D.Edges edges body) sc = branch_most body.now sc ≤ 128
DoesNarrow (D.Into port value) sc = most_given port.bits (limits value.now) sc ≤ 128
DoesNarrow (D.From to port) sc = target_most to sc ≤ 128

-- a port has as many bits as is told, or fewer
abbrev pub PortFits : Port → List ℕ → Type 0
PortFits port ws = is_signal port.number ≡ true → port.bits ≤ slice_index_or ws port.number 0

-- the signals that a process may write have as many bits as is told, or fewer
abbrev pub DoesFit : Does → List Named → List ℕ → Type 0
DoesFit (D.Assign to value) ns ws = NamesFit ws ns
DoesFit (D.Star body) ns ws = NamesFit ws ns
DoesFit (D.Edges edges body) ns ws = NamesFit ws ns
DoesFit (D.Into port value) ns ws = PortFits port ws
DoesFit (D.From to port) ns ws = NamesFit ws ns

-- What has been written, and what is pending, is what a run comes to. Of signals that fit these are bits that are there.
pub record Comes (Fits : List ℕ → Type 0) (s : State) (r : Ran) : Type 0 where
  pub written : changes_of r.written ≡ s.written
  pub pending : changes_of r.pending ≡ s.pending
  pub near_written : AllNear r.written
  pub near_pending : AllNear r.pending
  pub inside_written : (ws : List ℕ) → Fits ws → Within ws (changes_of r.written)
  pub inside_pending : (ws : List ℕ) → Fits ws → Within ws (changes_of r.pending)
