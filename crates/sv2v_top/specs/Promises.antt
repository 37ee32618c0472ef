-- What a call of the translator promises of each status: its cause, and what stands on the output and the error stream.
use Rattle.std.specs.Prelude.{◌≡◌, ◌⊎◌, ℕ, List, Option, Some, None, Err}
use Rattle.sv_source.specs.Faults.{NoFault, NotRaised}
use Rattle.sv_source.specs.Loading.{Contents}
use Rattle.sv_source.specs.Message.{usage_line, memory_line, read_fault_line, refusal_line, write_fault_line}
use Rattle.sv_source.specs.declared.refusal.Refusal.{Refusal}
use Rattle.sv_source.specs.declared.token.Token.{Token}
use Rattle.command_line.specs.declared.words.Asked.{Asked}
use Rattle.command_line.specs.Words.{asked}
use Rattle.sv2v_top.specs.declared.run.Stop.{Stop}
use Rattle.sv_types.specs.declared.design.Design.{Design}
use Rattle.sv2v_top.specs.declared.status.Status.{Status}
use Rattle.sv2v_top.specs.declared.status.Status.TheVariants.{Done, Refused, Usage, Memory, FileFault, SinkFault, Unsettled}
use Rattle.sv2v_top.specs.Translation.{Accepted}
use Rattle.sv2v_top.specs.Headline.{ExpandsTo, file_of, IsTranslated, IsRefused, IsFaulty, Cause, RunGives}
use Rattle.sv2v_top.specs.Endings.{Put_on, Took, Untouched, FailedAt, Says, line_of}

-- a call: its words, what the files tell, how often they had failed before and after it, and its two sinks
pub record Call : Type 0 where
  pub words : List (List ℕ)
  pub told : Option Contents
  pub faults_before : ℕ
  pub faults_after : ℕ
  pub out : Put_on
  pub err : Put_on

-- what a sink shows of a call: its bytes and its faults, before and after it
abbrev pub sink : {S : Type 0} → (S → Option (List ℕ)) → (S → ℕ) → S → S → Put_on
sink written faults old new = record { before = written old; after = written new; faults_before = faults old; faults_after = faults new }

-- the call with these words over files, as they stand before and after it
abbrev pub call : {F : Type 0} → List (List ℕ) → (F → Option Contents) → (F → ℕ) → F → F → Put_on → Put_on → Call
call words contents faults old new out err = record { words = words; told = contents old; faults_before = faults old; faults_after = faults new; out = out; err = err }

-- the line is on the error stream, and the output is as it was
pub record Said (c : Call) (line : List ℕ) : Type 0 where
  pub line_put : Took c.err line
  pub nothing_put : Untouched c.out

-- `Done`: the words name a top and files, the text is a right translation of these files, all of it is on the output, and
-- nothing is on the error stream.
pub record IsDone (c : Call) : Type 0 where
  pub request : Asked
  pub asks : asked c.words ≡ Some request
  pub text : List ℕ
  pub translated : IsTranslated request c.told text
  pub all_put : Took c.out text
  pub nothing_said : Untouched c.err

abbrev pub OnDone : Call → Status → Type 0
OnDone c status = status ≡ Done → IsDone c

-- `Refused`: the refusal is the first break of the files, no load failed in the call, and the refusal's line is said.
pub record IsRefusal (c : Call) : Type 0 where
  pub request : Asked
  pub asks : asked c.words ≡ Some request
  pub path : List ℕ
  pub refusal : Refusal
  pub refused : IsRefused request c.told path refusal
  pub no_fault : NotRaised c.faults_before c.faults_after
  pub said : Said c (refusal_line path refusal)

abbrev pub OnRefused : Call → Status → Type 0
OnRefused c status = status ≡ Refused → IsRefusal c

-- `Usage`: the words aren't of the form, and the usage line is said.
pub record IsUsage (c : Call) : Type 0 where
  pub no_request : asked c.words ≡ None
  pub said : Said c usage_line

abbrev pub OnUsage : Call → Status → Type 0
OnUsage c status = status ≡ Usage → IsUsage c

-- `Memory` may come at any time before the first byte of output, and is said.
abbrev pub OnMemory : Call → Status → Type 0
OnMemory c status = status ≡ Memory → Said c memory_line

-- `FileFault`: the load of a file that the expansion looks for failed, the count of faults rose, and the path is said.
pub record IsFileFault (c : Call) : Type 0 where
  pub request : Asked
  pub asks : asked c.words ≡ Some request
  pub path : List ℕ
  pub faulty : IsFaulty request c.told c.faults_before c.faults_after path
  pub said : Said c (read_fault_line path)

abbrev pub OnFileFault : Call → Status → Type 0
OnFileFault c status = status ≡ FileFault → IsFileFault c

-- `SinkFault`: the output failed with a front of a right translation on it, which is said on the error stream as far as
-- that takes it; or the error stream failed with a front of the line of another answer on it, and the output is as it was.
pub data IsSinkFault (c : Call) : Type 0 where
  of_output : (request : Asked) (text : List ℕ) → asked c.words ≡ Some request → IsTranslated request c.told text
      → FailedAt c.out text → Says c.err write_fault_line SinkFault SinkFault → IsSinkFault c
  of_errors : (stop : Stop) → RunGives c.words c.told c.faults_before c.faults_after (Err stop)
      → FailedAt c.err (line_of stop) → Untouched c.out → IsSinkFault c

abbrev pub OnSinkFault : Call → Status → Type 0
OnSinkFault c status = status ≡ SinkFault → IsSinkFault c

-- the translator runs no design, so none fails to settle
abbrev pub NeverUnsettled : Status → Type 0
NeverUnsettled status = status ≡ Unsettled → ⊥

-- one of these, unless memory or a sink fails
abbrev pub Unless : Type 0 → Status → Type 0
Unless Answered status = Answered ⊎ (status ≡ Memory) ⊎ (status ≡ SinkFault)

-- words that aren't of the form are answered with `Usage`
abbrev pub UsageComes : Call → Status → Type 0
UsageComes c status = asked c.words ≡ None → Unless (status ≡ Usage) status

-- the files of a request have no break
pub record Accepts (request : Asked) (contents : Contents) : Type 0 where
  pub tokens : List Token
  pub names : List (List ℕ)
  pub expansion : ExpandsTo request (Some contents) tokens names
  pub design : Design
  pub accepted : Accepted request.top tokens design

-- files without a break are translated
abbrev pub DoneComes : Call → Status → Type 0
DoneComes c status = (request : Asked) (contents : Contents) → asked c.words ≡ Some request → c.told ≡ Some contents
    → NoFault c.faults_before c.faults_after → Accepts request contents → Unless (status ≡ Done) status

-- files with a break are refused, with that break
abbrev pub RefusalComes : Call → Status → Type 0
RefusalComes c status = (request : Asked) (contents : Contents) (names : List (List ℕ)) (r : Refusal) → asked c.words ≡ Some request → c.told ≡ Some contents
    → NoFault c.faults_before c.faults_after → Cause request (Some contents) names r
    → Unless ((status ≡ Refused) × Took c.err (refusal_line (file_of names r.place) r)) status
