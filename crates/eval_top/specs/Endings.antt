-- How a run of the evaluator ends.
use Rattle.std.specs.Prelude.{ℕ, List, Option, Result, Ok, Err}
use Rattle.sv_source.specs.Loading.{Contents}
use Rattle.sv_source.specs.Message.{eval_usage_line, memory_line, read_fault_line, refusal_line, unsettled_line}
use Rattle.sv_source.specs.declared.text.Text.{Text}
use Rattle.endings.specs.Sinks.{Put_on, Untouched}
use Rattle.endings.specs.Ends.{Says, Writes}
use Rattle.endings.specs.declared.status.Status.{Status}
use Rattle.endings.specs.declared.status.Status.TheVariants.{Refused, Usage, Memory, FileFault, Unsettled}
use Rattle.eval_top.specs.declared.run.Stop.{Stop}
use Rattle.eval_top.specs.declared.run.Stop.TheVariants as S
use Rattle.eval_top.specs.Answers.{CallGives}

-- the line of an answer, and its status
abbrev pub line_of : Stop → List ℕ
line_of S.Usage = eval_usage_line
line_of S.Memory = memory_line
line_of (S.FileFault path) = read_fault_line path
line_of (S.Refused path r) = refusal_line path r
line_of (S.Unsettled row name) = unsettled_line row name

abbrev pub status_of : Stop → Status
status_of S.Usage = Usage
status_of S.Memory = Memory
status_of (S.FileFault path) = FileFault
status_of (S.Refused path r) = Refused
status_of (S.Unsettled row name) = Unsettled

-- how an answer ends
abbrev pub Ends : Put_on → Put_on → Result Text Stop → Status → Type 0
Ends out err (Ok lines) status = Writes out err lines status
Ends out err (Err stop) status = Untouched out × Says err (line_of stop) (status_of stop) status

-- A run has an answer for its words and files, and ends with it.
pub record Runs (words : List (List ℕ)) (told : Option Contents) (before now : ℕ) (out err : Put_on) (status : Status) : Type 0 where
  pub answer : Result Text Stop
  pub gives : CallGives words told before now answer
  pub ends : Ends out err answer status
