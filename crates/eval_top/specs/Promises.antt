-- What a call of the evaluator promises of each status: its cause, and what stands on the output and the error stream.
use Rattle.std.specs.Prelude.{◌≡◌, ◌⊎◌, ℕ, List, Some, None, Err}
use Rattle.sv_source.specs.Faults.{NoFault, NotRaised}
use Rattle.sv_source.specs.Loading.{Contents}
use Rattle.sv_source.specs.Message.{eval_usage_line, memory_line, read_fault_line, refusal_line, unsettled_line, write_fault_line}
use Rattle.sv_source.specs.declared.refusal.Refusal.{Refusal}
use Rattle.b4_core.specs.declared.bit.Bit4.{Bit4}
use Rattle.eval_words.specs.declared.words.EvalRun.{EvalRun}
use Rattle.eval_words.specs.Words.{asked}
use Rattle.v_tree.specs.declared.items.VDesign.{VDesign}
use Rattle.endings.specs.Sinks.{Took, Untouched, FailedAt}
use Rattle.endings.specs.Ends.{Says, Unless}
use Rattle.endings.specs.Calls.{Call, Said}
use Rattle.endings.specs.declared.status.Status.{Status}
use Rattle.endings.specs.declared.status.Status.TheVariants.{Done, Refused, Usage, Memory, FileFault, SinkFault, Unsettled}
use Rattle.eval_top.specs.declared.run.Stop.{Stop}
use Rattle.eval_top.specs.Asking.{AsksText, AsksUnbuilt, stage_refusal}
use Rattle.eval_top.specs.Loading.{HasText, HasRows}
use Rattle.eval_top.specs.Running.{HasLines, HasNoTrace, Cause, IsFaulty}
use Rattle.eval_top.specs.Answers.{CallGives}
use Rattle.eval_top.specs.Endings.{line_of}

-- `Done`: the words ask for a run of a text, the lines of its trace are on the output, all of them, and nothing is on the error
-- stream.
pub record IsDone (c : Call) : Type 0 where
  pub run : EvalRun
  pub asks : AsksText c.words run
  pub lines : List ℕ
  pub has : HasLines run c.told lines
  pub all_put : Took c.out lines
  pub nothing_said : Untouched c.err

abbrev pub OnDone : Call → Status → Type 0
OnDone c status = status ≡ Done → IsDone c

-- why a call is refused: a file of the run is, or what isn't built is asked for
pub data WhyRefused (c : Call) (path : List ℕ) (r : Refusal) : Type 0 where
  broken : (run : EvalRun) → AsksText c.words run → Cause run c.told path r → WhyRefused c path r
  unbuilt : AsksUnbuilt c.words path → r ≡ stage_refusal → WhyRefused c path r

-- `Refused`: the text or the row file has this break, or what is asked for isn't built; no load failed in the call, and the
-- refusal's line is said.
pub record IsRefusal (c : Call) : Type 0 where
  pub path : List ℕ
  pub refusal : Refusal
  pub why : WhyRefused c path refusal
  pub no_fault : NotRaised c.faults_before c.faults_after
  pub said : Said c (refusal_line path refusal)

abbrev pub OnRefused : Call → Status → Type 0
OnRefused c status = status ≡ Refused → IsRefusal c

-- `Usage`: the words aren't of the form, and the usage line is said.
pub record IsUsage (c : Call) : Type 0 where
  pub no_request : asked c.words ≡ None
  pub said : Said c eval_usage_line

abbrev pub OnUsage : Call → Status → Type 0
OnUsage c status = status ≡ Usage → IsUsage c

-- `Memory` may come at any time before the first byte of output, and is said.
abbrev pub OnMemory : Call → Status → Type 0
OnMemory c status = status ≡ Memory → Said c memory_line

-- `FileFault`: the load of the text or of the row file failed, the count of faults rose, and the path is said.
pub record IsFileFault (c : Call) : Type 0 where
  pub run : EvalRun
  pub asks : AsksText c.words run
  pub path : List ℕ
  pub faulty : IsFaulty run c.told c.faults_before c.faults_after path
  pub said : Said c (read_fault_line path)

abbrev pub OnFileFault : Call → Status → Type 0
OnFileFault c status = status ≡ FileFault → IsFileFault c

-- `Unsettled`: the rows have no trace by rounds; the first row in which a settling doesn't come to rest is said, with the first
-- signal that its last round changed.
pub record IsUnsettled (c : Call) : Type 0 where
  pub run : EvalRun
  pub asks : AsksText c.words run
  pub row : ℕ
  pub name : List ℕ
  pub no_trace : HasNoTrace run c.told row name
  pub said : Said c (unsettled_line row name)

abbrev pub OnUnsettled : Call → Status → Type 0
OnUnsettled c status = status ≡ Unsettled → IsUnsettled c

-- `SinkFault`: the output failed with a front of the lines on it, which is said on the error stream as far as that takes it; or
-- the error stream failed with a front of the line of another answer on it, and the output is as it was.
pub data IsSinkFault (c : Call) : Type 0 where
  of_output : (run : EvalRun) (lines : List ℕ) → AsksText c.words run → HasLines run c.told lines
      → FailedAt c.out lines → Says c.err write_fault_line SinkFault SinkFault → IsSinkFault c
  of_errors : (stop : Stop) → CallGives c.words c.told c.faults_before c.faults_after (Err stop)
      → FailedAt c.err (line_of stop) → Untouched c.out → IsSinkFault c

abbrev pub OnSinkFault : Call → Status → Type 0
OnSinkFault c status = status ≡ SinkFault → IsSinkFault c

-- words that aren't of the form are answered with `Usage`
abbrev pub UsageComes : Call → Status → Type 0
UsageComes c status = asked c.words ≡ None → Unless (status ≡ Usage) status

-- what isn't built is refused
abbrev pub StageComes : Call → Status → Type 0
StageComes c status = (path : List ℕ) → AsksUnbuilt c.words path → Unless ((status ≡ Refused) × Took c.err (refusal_line path stage_refusal)) status

-- files with a break are refused, with that break
abbrev pub RefusalComes : Call → Status → Type 0
RefusalComes c status = (run : EvalRun) (contents : Contents) (path : List ℕ) (r : Refusal) → AsksText c.words run → c.told ≡ Some contents
    → NoFault c.faults_before c.faults_after → Cause run (Some contents) path r → Unless ((status ≡ Refused) × Took c.err (refusal_line path r)) status

-- a text and rows without a break are run
abbrev pub RunComes : Call → Status → Type 0
RunComes c status = (run : EvalRun) (contents : Contents) (e : VDesign) (rows : List (List (List Bit4))) → AsksText c.words run → c.told ≡ Some contents
    → NoFault c.faults_before c.faults_after → HasText run (Some contents) e → HasRows run (Some contents) e rows
    → Unless ((status ≡ Done) ⊎ (status ≡ Unsettled)) status

-- the lines of the trace come where there is one
abbrev pub LinesCome : Call → Status → Type 0
LinesCome c status = (run : EvalRun) (contents : Contents) (lines : List ℕ) → AsksText c.words run → c.told ≡ Some contents
    → NoFault c.faults_before c.faults_after → HasLines run (Some contents) lines → Unless ((status ≡ Done) × Took c.out lines) status

-- and where there is none, the row and the signal
abbrev pub UnsettledComes : Call → Status → Type 0
UnsettledComes c status = (run : EvalRun) (contents : Contents) (row : ℕ) (name : List ℕ) → AsksText c.words run → c.told ≡ Some contents
    → NoFault c.faults_before c.faults_after → HasNoTrace run (Some contents) row name → Unless ((status ≡ Unsettled) × Took c.err (unsettled_line row name)) status
