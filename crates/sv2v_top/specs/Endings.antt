-- How a run of the translator ends: what it leaves on its two sinks, and its status.
use Rattle.std.specs.Prelude.{◌≡◌, ℕ, List, Option, Result, Ok, Err}
use Rattle.sv_source.specs.Faults.{Rose}
use Rattle.sv_source.specs.Loading.{Contents}
use Rattle.sv_source.specs.Putting.{appended, GainsFront}
use Rattle.sv_source.specs.Message.{usage_line, memory_line, read_fault_line, refusal_line, write_fault_line}
use Rattle.sv_source.specs.declared.text.Text.{Text}
use Rattle.sv2v_top.specs.declared.run.Stop.{Stop}
use Rattle.sv2v_top.specs.declared.run.Stop.TheVariants as S
use Rattle.sv2v_top.specs.declared.status.Status.{Status}
use Rattle.sv2v_top.specs.declared.status.Status.TheVariants.{Done, Refused, Usage, Memory, FileFault, SinkFault}
use Rattle.sv2v_top.specs.Headline.{RunGives}

-- a sink before and after: the bytes written, where they are told, and the count of faults
pub record Put_on : Type 0 where
  pub before : Option (List ℕ)
  pub after : Option (List ℕ)
  pub faults_before : ℕ
  pub faults_after : ℕ

-- the sink took just these bytes
abbrev pub Took : Put_on → List ℕ → Type 0
Took sink bytes = sink.after ≡ appended sink.before bytes

-- nothing was put on the sink
abbrev pub Untouched : Put_on → Type 0
Untouched sink = sink.after ≡ sink.before

-- the sink failed: it took a front of the bytes, and its count rose
pub record FailedAt (sink : Put_on) (bytes : List ℕ) : Type 0 where
  pub front : GainsFront sink.before sink.after bytes
  pub rose : Rose sink.faults_before sink.faults_after

-- a count of faults is as it was, unless this status is answered
abbrev pub LevelUnless : Status → Status → ℕ → ℕ → Type 0
LevelUnless failing status before now = ((status ≡ failing → ⊥) → now ≡ before)

-- the line of an answer, and its status
abbrev pub line_of : Stop → List ℕ
line_of S.Usage = usage_line
line_of S.Memory = memory_line
line_of (S.FileFault path) = read_fault_line path
line_of (S.Refused path refusal) = refusal_line path refusal

abbrev pub status_of : Stop → Status
status_of S.Usage = Usage
status_of S.Memory = Memory
status_of (S.FileFault path) = FileFault
status_of (S.Refused path refusal) = Refused

-- a line is put on the error stream, whole or up to a fault
pub data Says (err : Put_on) (line : List ℕ) (status : Status) : Status → Type 0 where
  said : {answer : Status} → Took err line → answer ≡ status → Says err line status answer
  unsaid : {answer : Status} → FailedAt err line → answer ≡ SinkFault → Says err line status answer

-- the text is put on the output, whole or up to a fault, which is said on the error stream
pub data Writes (out err : Put_on) (text : List ℕ) : Status → Type 0 where
  written : {answer : Status} → Took out text → Untouched err → answer ≡ Done → Writes out err text answer
  unwritten : {answer : Status} → FailedAt out text → Says err write_fault_line SinkFault SinkFault → answer ≡ SinkFault → Writes out err text answer

-- how an answer ends
abbrev pub Ends : Put_on → Put_on → Result Text Stop → Status → Type 0
Ends out err (Ok text) status = Writes out err text status
Ends out err (Err stop) status = Untouched out × Says err (line_of stop) (status_of stop) status

-- A run has an answer for its words and files, and ends with it.
pub record Runs (words : List (List ℕ)) (told : Option Contents) (before now : ℕ) (out err : Put_on) (status : Status) : Type 0 where
  pub answer : Result Text Stop
  pub gives : RunGives words told before now answer
  pub ends : Ends out err answer status
