-- How a run ends keeps each promise of the call.
use Rattle.std.proofs.Common.{◌≡◌, ℕ, List, Option, Some, Result, Ok, Err, ap, subst, ◌∙◌, inl, inr, arith}
use Rattle.sv_source.specs.Faults.{Rose, NoFault}
use Rattle.sv_source.specs.Loading.{Contents}
use Rattle.sv_source.specs.declared.text.Text.{Text}
use Rattle.sv_source.specs.declared.refusal.Refusal.{Refusal}
use Rattle.sv_source.specs.Message.{memory_line, refusal_line}
use Rattle.command_line.specs.declared.words.Asked.{Asked}
use Rattle.command_line.specs.Words.{asked}
use Rattle.sv2v_top.specs.declared.run.Stop.{Stop}
use Rattle.sv2v_top.specs.declared.run.Stop.TheVariants as S
use Rattle.sv2v_top.specs.declared.status.Status.{Status}
use Rattle.sv2v_top.specs.declared.status.Status.TheVariants.{Done, Refused, Usage, Memory, FileFault, SinkFault}
use Rattle.sv2v_top.specs.Headline.{ExpandsTo, file_of, IsTranslated, Cause, Answers, RunGives}
use Rattle.sv2v_top.specs.Endings.{Put_on, Took, Untouched, FailedAt, Says, said, unsaid, Writes, written, unwritten, Ends, Runs, line_of, status_of}
use Rattle.sv2v_top.specs.Promises.{Call, Said, IsDone, OnDone, IsRefusal, OnRefused, IsUsage, OnUsage, OnMemory, IsFileFault, OnFileFault, IsSinkFault, of_output, of_errors, OnSinkFault, NeverUnsettled, UsageComes, Accepts, DoneComes, RefusalComes}
use Rattle.sv2v_top.proofs.Causes.{no-cause, one-cause}

-- the run of a call
abbrev pub CallRuns : Call → Status → Type 0
CallRuns c status = Runs c.words c.told c.faults_before c.faults_after c.out c.err status

-- how a call has ended
pub data Ending (c : Call) (status : Status) : Type 0 where
  is_done : status ≡ Done → IsDone c → Ending c status
  is_refusal : status ≡ Refused → IsRefusal c → Ending c status
  is_usage : status ≡ Usage → IsUsage c → Ending c status
  is_memory : status ≡ Memory → Said c memory_line → Ending c status
  is_file_fault : status ≡ FileFault → IsFileFault c → Ending c status
  is_sink_fault : status ≡ SinkFault → IsSinkFault c → Ending c status

module _ (c : Call) (status : Status) where
  by_text : (text : Text) → Answers c.words c.told c.faults_before c.faults_after (Ok text) → Writes c.out c.err text status → Ending c status
  by_text text a (written took quiet e) =
      is_done e (record { request = a.request; asks = a.asks; text = text; translated = a.gives; all_put = took; nothing_said = quiet })
  by_text text a (unwritten failed says e) = is_sink_fault e (of_output a.request text a.asks a.gives failed says)

  -- a line that failed
  unsaid_line : (stop : Stop) → RunGives c.words c.told c.faults_before c.faults_after (Err stop) → Untouched c.out → FailedAt c.err (line_of stop) → status ≡ SinkFault → Ending c status
  unsaid_line stop g quiet failed e = is_sink_fault e (of_errors stop g failed quiet)

  by_stop : (stop : Stop) → RunGives c.words c.told c.faults_before c.faults_after (Err stop) → Untouched c.out → Says c.err (line_of stop) (status_of stop) status → Ending c status
  by_stop stop g quiet (unsaid failed e) = unsaid_line stop g quiet failed e
  by_stop S.Usage g quiet (said took e) = is_usage e (record { no_request = g; said = record { line_put = took; nothing_put = quiet } })
  by_stop S.Memory g quiet (said took e) = is_memory e (record { line_put = took; nothing_put = quiet })
  by_stop (S.FileFault path) g quiet (said took e) = is_file_fault e (record {
    request = g.request;
    asks = g.asks;
    path = path;
    faulty = g.gives;
    said = record { line_put = took; nothing_put = quiet };
  })
  by_stop (S.Refused path refusal) g quiet (said took e) = is_refusal e (record {
    request = g.request;
    asks = g.asks;
    path = path;
    refusal = refusal;
    refused = g.gives.0;
    no_fault = g.gives.1;
    said = record { line_put = took; nothing_put = quiet };
  })

  by_answer : (answer : Result Text Stop) → RunGives c.words c.told c.faults_before c.faults_after answer → Ends c.out c.err answer status → Ending c status
  by_answer (Ok text) g e = by_text text g e
  by_answer (Err S.Usage) g e = by_stop S.Usage g e.0 e.1
  by_answer (Err S.Memory) g e = by_stop S.Memory g e.0 e.1
  by_answer (Err (S.FileFault path)) g e = by_stop (S.FileFault path) g e.0 e.1
  by_answer (Err (S.Refused path refusal)) g e = by_stop (S.Refused path refusal) g e.0 e.1

  pub outcome : CallRuns c status → Ending c status
  outcome r = by_answer r.answer r.gives r.ends

  pub on-done : Ending c status → OnDone c status
  on-done (is_done e d) is = d
  on-done (is_refusal e d) is = cc
  on-done (is_usage e d) is = cc
  on-done (is_memory e d) is = cc
  on-done (is_file_fault e d) is = cc
  on-done (is_sink_fault e d) is = cc

  pub on-refused : Ending c status → OnRefused c status
  on-refused (is_done e d) is = cc
  on-refused (is_refusal e d) is = d
  on-refused (is_usage e d) is = cc
  on-refused (is_memory e d) is = cc
  on-refused (is_file_fault e d) is = cc
  on-refused (is_sink_fault e d) is = cc

  pub on-usage : Ending c status → OnUsage c status
  on-usage (is_done e d) is = cc
  on-usage (is_refusal e d) is = cc
  on-usage (is_usage e d) is = d
  on-usage (is_memory e d) is = cc
  on-usage (is_file_fault e d) is = cc
  on-usage (is_sink_fault e d) is = cc

  pub on-memory : Ending c status → OnMemory c status
  on-memory (is_done e d) is = cc
  on-memory (is_refusal e d) is = cc
  on-memory (is_usage e d) is = cc
  on-memory (is_memory e d) is = d
  on-memory (is_file_fault e d) is = cc
  on-memory (is_sink_fault e d) is = cc

  pub on-file-fault : Ending c status → OnFileFault c status
  on-file-fault (is_done e d) is = cc
  on-file-fault (is_refusal e d) is = cc
  on-file-fault (is_usage e d) is = cc
  on-file-fault (is_memory e d) is = cc
  on-file-fault (is_file_fault e d) is = d
  on-file-fault (is_sink_fault e d) is = cc

  pub on-sink-fault : Ending c status → OnSinkFault c status
  on-sink-fault (is_done e d) is = cc
  on-sink-fault (is_refusal e d) is = cc
  on-sink-fault (is_usage e d) is = cc
  on-sink-fault (is_memory e d) is = cc
  on-sink-fault (is_file_fault e d) is = cc
  on-sink-fault (is_sink_fault e d) is = d

  pub never-unsettled : Ending c status → NeverUnsettled status
  never-unsettled (is_done e d) is = cc
  never-unsettled (is_refusal e d) is = cc
  never-unsettled (is_usage e d) is = cc
  never-unsettled (is_memory e d) is = cc
  never-unsettled (is_file_fault e d) is = cc
  never-unsettled (is_sink_fault e d) is = cc

  pub usage-comes : Ending c status → UsageComes c status
  usage-comes (is_done e d) none = (let some = d.asks in cc)
  usage-comes (is_refusal e d) none = (let some = d.asks in cc)
  usage-comes (is_usage e d) none = inl e
  usage-comes (is_memory e d) none = inr (inl e)
  usage-comes (is_file_fault e d) none = (let some = d.asks in cc)
  usage-comes (is_sink_fault e d) none = inr (inr e)

-- the outcome of a run that is told by its parts
pub of-run : {words : List (List ℕ)} {told : Option Contents} {before after : ℕ} {out err : Put_on} {status : Status}
    → Runs words told before after out err status → Ending (record { words = words; told = told; faults_before = before; faults_after = after; out = out; err = err }) status
of-run {words = words} {told = told} {before = before} {after = after} {out = out} {err = err} {status = status} r =
    outcome _ status r

-- a count that rose did so in the call, or stands at its last value
pub no-rise : (before now : ℕ) → Rose before now → NoFault before now → ⊥
no-rise before now (inl rose) calm = absurd (omega (arith, calm.level))
no-rise before now (inr last) calm = absurd (omega (arith, calm.below, last))

module _ (c : Call) (status : Status) where
  -- a translation of files that are told accepts them
  pub translated-accepts : (request : Asked) (contents : Contents) (text : List ℕ) → c.told ≡ Some contents → IsTranslated request c.told text → Accepts request contents
  translated-accepts request contents text told t = record {
    tokens = t.tokens;
    names = t.names;
    expansion = subst (λ (by : Option Contents). ExpandsTo request by t.tokens t.names) told t.expansion;
    design = t.translates.source;
    accepted = t.translates.accepted;
  }

  -- the cause of a refusal, by what is told
  told-cause : (mine request : Asked) (contents : Contents) (names : List (List ℕ)) (r : Refusal) → mine ≡ request → c.told ≡ Some contents
      → Cause mine c.told names r → Cause request (Some contents) names r
  told-cause mine request contents names r same told cause =
      subst (λ (q : Asked). Cause q (Some contents) names r) same (subst (λ (by : Option Contents). Cause mine by names r) told cause)

  one-request : (mine request : Asked) → asked c.words ≡ Some mine → asked c.words ≡ Some request → mine ≡ request
  one-request mine request a b = cc

  pub done-comes : Ending c status → DoneComes c status
  done-comes (is_done e d) request contents asks told calm a = inl e
  done-comes (is_refusal e d) request contents asks told calm a =
      absurd (no-cause request contents d.refused.names d.refusal a (told-cause d.request request contents d.refused.names d.refusal (one-request d.request request d.asks asks) told d.refused.cause))
  done-comes (is_usage e d) request contents asks told calm a = (let none = d.no_request in cc)
  done-comes (is_memory e d) request contents asks told calm a = inr (inl e)
  done-comes (is_file_fault e d) request contents asks told calm a = absurd (no-rise _ _ d.faulty.rose calm)
  done-comes (is_sink_fault e d) request contents asks told calm a = inr (inr e)

  -- the line of the one refusal
  same-line : (path : List ℕ) (names others : List (List ℕ)) (r s : Refusal) → path ≡ file_of names r.place → names ≡ others → r ≡ s
      → Took c.err (refusal_line path r) → Took c.err (refusal_line (file_of others s.place) s)
  same-line path names others r s e f g took =
      let place : r.place ≡ s.place = ap (λ (x : Refusal). x.place) g in
      let at : path ≡ file_of others s.place = e ∙ (λ i. file_of (f i) (place i)) in
      subst (λ (x : Refusal). Took c.err (refusal_line (file_of others s.place) x)) g (subst (λ (p : List ℕ). Took c.err (refusal_line p r)) at took)

  pub refusal-comes : Ending c status → RefusalComes c status
  refusal-comes (is_done e d) request contents names r asks told calm cause =
      absurd (no-cause request contents names r
      (subst (λ (q : Asked). Accepts q contents) (one-request d.request request d.asks asks) (translated-accepts d.request contents d.text told d.translated)) cause)
  refusal-comes (is_refusal e d) request contents names r asks told calm cause =
      let one = one-cause request contents d.refused.names names d.refusal r
      (told-cause d.request request contents d.refused.names d.refusal (one-request d.request request d.asks asks) told d.refused.cause) cause in
      inl (e, same-line d.path d.refused.names names d.refusal r d.refused.is_path one.0 one.1 d.said.line_put)
  refusal-comes (is_usage e d) request contents names r asks told calm cause = (let none = d.no_request in cc)
  refusal-comes (is_memory e d) request contents names r asks told calm cause = inr (inl e)
  refusal-comes (is_file_fault e d) request contents names r asks told calm cause = absurd (no-rise _ _ d.faulty.rose calm)
  refusal-comes (is_sink_fault e d) request contents names r asks told calm cause = inr (inr e)
