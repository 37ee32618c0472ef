-- How a run ends: what it leaves on its two sinks, and its status.
use Rattle.std.specs.Prelude.{◌≡◌, ◌⊎◌, ℕ, List}
use Rattle.sv_source.specs.Message.{write_fault_line}
use Rattle.endings.specs.Sinks.{Put_on, Took, Untouched, FailedAt}
use Rattle.endings.specs.declared.status.Status.{Status}
use Rattle.endings.specs.declared.status.Status.TheVariants.{Done, Memory, SinkFault}

-- a count of faults is as it was, unless this status is answered
abbrev pub LevelUnless : Status → Status → ℕ → ℕ → Type 0
LevelUnless failing status before now = ((status ≡ failing → ⊥) → now ≡ before)

-- a line is put on the error stream, whole or up to a fault
pub data Says (err : Put_on) (line : List ℕ) (status : Status) : Status → Type 0 where
  said : {answer : Status} → Took err line → answer ≡ status → Says err line status answer
  unsaid : {answer : Status} → FailedAt err line → answer ≡ SinkFault → Says err line status answer

-- the output is put, whole or up to a fault, which is said on the error stream
pub data Writes (out err : Put_on) (bytes : List ℕ) : Status → Type 0 where
  written : {answer : Status} → Took out bytes → Untouched err → answer ≡ Done → Writes out err bytes answer
  unwritten : {answer : Status} → FailedAt out bytes → Says err write_fault_line SinkFault SinkFault → answer ≡ SinkFault → Writes out err bytes answer

-- one of these, unless memory or a sink fails
abbrev pub Unless : Type 0 → Status → Type 0
Unless Answered status = Answered ⊎ (status ≡ Memory) ⊎ (status ≡ SinkFault)
