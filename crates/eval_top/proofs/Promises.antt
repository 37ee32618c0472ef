-- How a run ends keeps each promise of the call.
use Rattle.std.proofs.Common.{◌≡◌, ◌⊎◌, ℕ, List, Option, Some, None, Result, Ok, Err, refl, ap, subst, sym, ◌∙◌, inl, inr}
use Rattle.sv_source.specs.Faults.{NoFault, NotRaised}
use Rattle.sv_source.specs.Loading.{Contents}
use Rattle.sv_source.specs.declared.text.Text.{Text}
use Rattle.sv_source.specs.declared.refusal.Refusal.{Refusal}
use Rattle.sv_source.specs.Message.{memory_line, read_fault_line, refusal_line, unsettled_line}
use Rattle.b4_core.specs.declared.bit.Bit4.{Bit4}
use Rattle.eval_words.specs.declared.words.EvalRun.{EvalRun}
use Rattle.eval_words.specs.declared.words.EvalWords.{EvalWords}
use Rattle.eval_words.specs.declared.words.EvalWords.TheVariants.{Generate, Run}
use Rattle.eval_words.specs.declared.words.Language.{Language}
use Rattle.eval_words.specs.declared.words.Language.TheVariants.{Source, Target}
use Rattle.eval_words.specs.Words.{asked}
use Rattle.v_tree.specs.declared.items.VDesign.{VDesign}
use Rattle.endings.specs.Sinks.{Put_on, Took, Untouched}
use Rattle.endings.specs.Ends.{Says, said, unsaid, Writes, written, unwritten, Unless}
use Rattle.endings.specs.Calls.{Call, Said}
use Rattle.endings.specs.declared.status.Status.{Status}
use Rattle.endings.specs.declared.status.Status.TheVariants.{Done, Refused, Usage, Memory, FileFault, SinkFault, Unsettled}
use Rattle.endings.proofs.Saying.{no-rise}
use Rattle.eval_top.specs.declared.run.Stop.{Stop}
use Rattle.eval_top.specs.declared.run.Stop.TheVariants as S
use Rattle.eval_top.specs.Asking.{AsksText, AsksUnbuilt, Unbuilt, generation, source, first_path, generation_path, stage_refusal}
use Rattle.eval_top.specs.Loading.{HasText, HasRows}
use Rattle.eval_top.specs.Running.{HasLines, HasNoTrace, Cause}
use Rattle.eval_top.specs.Answers.{TextGives, StageGives, LanguageGives, AskedGives, Answers, CallGives}
use Rattle.eval_top.specs.Endings.{Ends, Runs, line_of, status_of}
use Rattle.eval_top.specs.Promises.{IsDone, OnDone, WhyRefused, broken, unbuilt, IsRefusal, OnRefused, IsUsage, OnUsage, OnMemory, IsFileFault, OnFileFault, IsUnsettled, OnUnsettled, IsSinkFault, of_output, of_errors, OnSinkFault, UsageComes, StageComes, RefusalComes, RunComes, LinesCome, UnsettledComes}
use Rattle.eval_top.proofs.Causes.{no-cause, one-cause, one-lines, lines-or-failure, one-no-trace}

-- the run of a call
abbrev pub CallRuns : Call → Status → Type 0
CallRuns c status = Runs c.words c.told c.faults_before c.faults_after c.out c.err status

-- how a call has ended
pub data Ending (c : Call) (status : Status) : Type 0 where
  is_done : status ≡ Done → IsDone c → Ending c status
  is_refusal : status ≡ Refused → IsRefusal c → Ending c status
  is_usage : status ≡ Usage → IsUsage c → Ending c status
  is_memory : status ≡ Memory → Said c memory_line → Ending c status
  is_file_fault : status ≡ FileFault → IsFileFault c → Ending c status
  is_unsettled : status ≡ Unsettled → IsUnsettled c → Ending c status
  is_sink_fault : status ≡ SinkFault → IsSinkFault c → Ending c status

-- what words of the form ask for, and what is answered for that
pub data Given (c : Call) (result : Result Text Stop) : Type 0 where
  of_text : (run : EvalRun) → AsksText c.words run → TextGives run c.told c.faults_before c.faults_after result → Given c result
  of_stage : (head : List ℕ) → AsksUnbuilt c.words head → StageGives head result → NotRaised c.faults_before c.faults_after → Given c result

module _ (c : Call) (result : Result Text Stop) where
  by_language : (run : EvalRun) (language : Language) → run.language ≡ language → asked c.words ≡ Some (Run run)
      → LanguageGives language run c.told c.faults_before c.faults_after result → Given c result
  by_language run Target e asks g = of_text run (record { asks = asks; is_text = e }) g
  by_language run Source e asks g =
      of_stage (first_path run) (record { request = Run run; asks = asks; unbuilt = source run e refl }) g.0 g.1

  by_request : (request : EvalWords) → asked c.words ≡ Some request → AskedGives request c.told c.faults_before c.faults_after result → Given c result
  by_request (Generate n) asks g = of_stage generation_path (record { request = Generate n; asks = asks; unbuilt = generation n refl }) g.0 g.1
  by_request (Run run) asks g = by_language run run.language refl asks g

  pub given : Answers c.words c.told c.faults_before c.faults_after result → Given c result
  given a = by_request a.request a.asks a.gives

module _ (c : Call) (status : Status) where
  by_text : (lines : Text) → Given c (Ok lines) → Writes c.out c.err lines status → Ending c status
  by_text lines (of_text run asks has) (written took quiet e) =
      is_done e (record { run = run; asks = asks; lines = lines; has = has; all_put = took; nothing_said = quiet })
  by_text lines (of_text run asks has) (unwritten failed says e) = is_sink_fault e (of_output run lines asks has failed says)
  by_text lines (of_stage head asks g calm) w = absurd g

  refusal : (path : List ℕ) (r : Refusal) → Given c (Err (S.Refused path r)) → Said c (refusal_line path r) → IsRefusal c
  refusal path r (of_text run asks g) s = record { path = path; refusal = r; why = broken run asks g.0; no_fault = g.1; said = s }
  refusal path r (of_stage head asks g calm) s = record {
    path = path;
    refusal = r;
    why = unbuilt (subst (λ (p : List ℕ). AsksUnbuilt c.words p) (sym g.0) asks) g.1;
    no_fault = calm;
    said = s;
  }

  file-fault : (path : List ℕ) → Given c (Err (S.FileFault path)) → Said c (read_fault_line path) → IsFileFault c
  file-fault path (of_text run asks g) s = record { run = run; asks = asks; path = path; faulty = g; said = s }
  file-fault path (of_stage head asks g calm) s = absurd g

  no-trace : (row : ℕ) (name : List ℕ) → Given c (Err (S.Unsettled row name)) → Said c (unsettled_line row name) → IsUnsettled c
  no-trace row name (of_text run asks g) s = record { run = run; asks = asks; row = row; name = name; no_trace = g; said = s }
  no-trace row name (of_stage head asks g calm) s = absurd g

  by_stop : (stop : Stop) → CallGives c.words c.told c.faults_before c.faults_after (Err stop) → Untouched c.out → Says c.err (line_of stop) (status_of stop) status → Ending c status
  by_stop stop g quiet (unsaid failed e) = is_sink_fault e (of_errors stop g failed quiet)
  by_stop S.Usage g quiet (said took e) = is_usage e (record { no_request = g; said = record { line_put = took; nothing_put = quiet } })
  by_stop S.Memory g quiet (said took e) = is_memory e (record { line_put = took; nothing_put = quiet })
  by_stop (S.FileFault path) g quiet (said took e) =
      is_file_fault e (file-fault path (given c (Err (S.FileFault path)) g) (record { line_put = took; nothing_put = quiet }))
  by_stop (S.Refused path r) g quiet (said took e) =
      is_refusal e (refusal path r (given c (Err (S.Refused path r)) g) (record { line_put = took; nothing_put = quiet }))
  by_stop (S.Unsettled row name) g quiet (said took e) =
      is_unsettled e (no-trace row name (given c (Err (S.Unsettled row name)) g) (record { line_put = took; nothing_put = quiet }))

  by_answer : (answer : Result Text Stop) → CallGives c.words c.told c.faults_before c.faults_after answer → Ends c.out c.err answer status → Ending c status
  by_answer (Ok lines) g e = by_text lines (given c (Ok lines) g) e
  by_answer (Err S.Usage) g e = by_stop S.Usage g e.0 e.1
  by_answer (Err S.Memory) g e = by_stop S.Memory g e.0 e.1
  by_answer (Err (S.FileFault path)) g e = by_stop (S.FileFault path) g e.0 e.1
  by_answer (Err (S.Refused path r)) g e = by_stop (S.Refused path r) g e.0 e.1
  by_answer (Err (S.Unsettled row name)) g e = by_stop (S.Unsettled row name) g e.0 e.1

  pub outcome : CallRuns c status → Ending c status
  outcome r = by_answer r.answer r.gives r.ends

  pub on-done : Ending c status → OnDone c status
  on-done (is_done e d) is = d
  on-done (is_refusal e d) is = cc
  on-done (is_usage e d) is = cc
  on-done (is_memory e d) is = cc
  on-done (is_file_fault e d) is = cc
  on-done (is_unsettled e d) is = cc
  on-done (is_sink_fault e d) is = cc

  pub on-refused : Ending c status → OnRefused c status
  on-refused (is_done e d) is = cc
  on-refused (is_refusal e d) is = d
  on-refused (is_usage e d) is = cc
  on-refused (is_memory e d) is = cc
  on-refused (is_file_fault e d) is = cc
  on-refused (is_unsettled e d) is = cc
  on-refused (is_sink_fault e d) is = cc

  pub on-usage : Ending c status → OnUsage c status
  on-usage (is_done e d) is = cc
  on-usage (is_refusal e d) is = cc
  on-usage (is_usage e d) is = d
  on-usage (is_memory e d) is = cc
  on-usage (is_file_fault e d) is = cc
  on-usage (is_unsettled e d) is = cc
  on-usage (is_sink_fault e d) is = cc

  pub on-memory : Ending c status → OnMemory c status
  on-memory (is_done e d) is = cc
  on-memory (is_refusal e d) is = cc
  on-memory (is_usage e d) is = cc
  on-memory (is_memory e d) is = d
  on-memory (is_file_fault e d) is = cc
  on-memory (is_unsettled e d) is = cc
  on-memory (is_sink_fault e d) is = cc

  pub on-file-fault : Ending c status → OnFileFault c status
  on-file-fault (is_done e d) is = cc
  on-file-fault (is_refusal e d) is = cc
  on-file-fault (is_usage e d) is = cc
  on-file-fault (is_memory e d) is = cc
  on-file-fault (is_file_fault e d) is = d
  on-file-fault (is_unsettled e d) is = cc
  on-file-fault (is_sink_fault e d) is = cc

  pub on-unsettled : Ending c status → OnUnsettled c status
  on-unsettled (is_done e d) is = cc
  on-unsettled (is_refusal e d) is = cc
  on-unsettled (is_usage e d) is = cc
  on-unsettled (is_memory e d) is = cc
  on-unsettled (is_file_fault e d) is = cc
  on-unsettled (is_unsettled e d) is = d
  on-unsettled (is_sink_fault e d) is = cc

  pub on-sink-fault : Ending c status → OnSinkFault c status
  on-sink-fault (is_done e d) is = cc
  on-sink-fault (is_refusal e d) is = cc
  on-sink-fault (is_usage e d) is = cc
  on-sink-fault (is_memory e d) is = cc
  on-sink-fault (is_file_fault e d) is = cc
  on-sink-fault (is_unsettled e d) is = cc
  on-sink-fault (is_sink_fault e d) is = d

  -- words ask for one thing
  one-run : (run other : EvalRun) → AsksText c.words run → AsksText c.words other → run ≡ other
  one-run run other a b = (let x = a.asks in let y = b.asks in cc)

  no-usage : (run : EvalRun) → AsksText c.words run → asked c.words ≡ None → ⊥
  no-usage run a none = (let x = a.asks in cc)

  stage-asks : (head : List ℕ) → AsksUnbuilt c.words head → asked c.words ≡ None → ⊥
  stage-asks head a none = (let x = a.asks in cc)

  text-or-source : (run other : EvalRun) → asked c.words ≡ Some (Run other) → other.language ≡ Source → AsksText c.words run → ⊥
  text-or-source run other asks is a =
      let x = a.asks in
      let same : run ≡ other = cc in
      let both : Source ≡ Target = sym is ∙ ap (λ (r : EvalRun). r.language) (sym same) ∙ a.is_text in
      cc

  text-or-stage : (run : EvalRun) (head : List ℕ) → AsksText c.words run → AsksUnbuilt c.words head → ⊥
  text-or-stage run head a b = by b.request b.asks b.unbuilt
    where
      by : (request : EvalWords) → asked c.words ≡ Some request → Unbuilt head request → ⊥
      by (Generate n) asks u = (let x = a.asks in cc)
      by (Run other) asks (source r is e) = text-or-source run other asks is a

  one-head : (head other : List ℕ) → AsksUnbuilt c.words head → AsksUnbuilt c.words other → head ≡ other
  one-head head other a b = by a.request b.request a.asks b.asks a.unbuilt b.unbuilt
    where
      by : (request again : EvalWords) → asked c.words ≡ Some request → asked c.words ≡ Some again → Unbuilt head request → Unbuilt other again → head ≡ other
      by (Generate n) (Generate m) x y (generation i e) (generation j f) = e ∙ sym f
      by (Generate n) (Run run) x y u v = cc
      by (Run run) (Generate n) x y u v = cc
      by (Run run) (Run again) x y (source i is e) (source j is' f) =
          let same : run ≡ again = cc in
          e ∙ ap first_path same ∙ sym f

  why-asks : (path : List ℕ) (r : Refusal) → WhyRefused c path r → asked c.words ≡ None → ⊥
  why-asks path r (broken run asks cause) none = no-usage run asks none
  why-asks path r (unbuilt asks is) none = stage-asks path asks none

  pub usage-comes : Ending c status → UsageComes c status
  usage-comes (is_done e d) none = absurd (no-usage d.run d.asks none)
  usage-comes (is_refusal e d) none = absurd (why-asks d.path d.refusal d.why none)
  usage-comes (is_usage e d) none = inl e
  usage-comes (is_memory e d) none = inr (inl e)
  usage-comes (is_file_fault e d) none = absurd (no-usage d.run d.asks none)
  usage-comes (is_unsettled e d) none = absurd (no-usage d.run d.asks none)
  usage-comes (is_sink_fault e d) none = inr (inr e)

  -- the line of a refusal, by equal parts
  same-line : (path other : List ℕ) (r s : Refusal) → path ≡ other → r ≡ s → Took c.err (refusal_line path r) → Took c.err (refusal_line other s)
  same-line path other r s e f took =
      subst (λ (x : Refusal). Took c.err (refusal_line other x)) f (subst (λ (p : List ℕ). Took c.err (refusal_line p r)) e took)

  stage-line : (head path : List ℕ) (r : Refusal) → AsksUnbuilt c.words head → WhyRefused c path r → Took c.err (refusal_line path r) → Took c.err (refusal_line head stage_refusal)
  stage-line head path r asks (broken run a cause) took = absurd (text-or-stage run head a asks)
  stage-line head path r asks (unbuilt a is) took = same-line path head r stage_refusal (one-head path head a asks) is took

  pub stage-comes : Ending c status → StageComes c status
  stage-comes (is_done e d) head asks = absurd (text-or-stage d.run head d.asks asks)
  stage-comes (is_refusal e d) head asks = inl (e, stage-line head d.path d.refusal asks d.why d.said.line_put)
  stage-comes (is_usage e d) head asks = absurd (stage-asks head asks d.no_request)
  stage-comes (is_memory e d) head asks = inr (inl e)
  stage-comes (is_file_fault e d) head asks = absurd (text-or-stage d.run head d.asks asks)
  stage-comes (is_unsettled e d) head asks = absurd (text-or-stage d.run head d.asks asks)
  stage-comes (is_sink_fault e d) head asks = inr (inr e)

  module _ (run : EvalRun) (contents : Contents) (asks : AsksText c.words run) (told : c.told ≡ Some contents) (calm : NoFault c.faults_before c.faults_after) where
    -- what is known of another run of the words, by what is told
    moved : (P : EvalRun → Option Contents → Type 0) (other : EvalRun) → AsksText c.words other → P other c.told → P run (Some contents)
    moved P other a p =
        subst (λ (r : EvalRun). P r (Some contents)) (one-run other run a asks) (subst (λ (t : Option Contents). P other t) told p)

    pub data Told : Type 0 where
      told_lines : (lines : List ℕ) → status ≡ Done → HasLines run (Some contents) lines → Took c.out lines → Told
      told_refusal : (path : List ℕ) (r : Refusal) → status ≡ Refused → Cause run (Some contents) path r → Took c.err (refusal_line path r) → Told
      told_failure : (row : ℕ) (name : List ℕ) → status ≡ Unsettled → HasNoTrace run (Some contents) row name → Took c.err (unsettled_line row name) → Told
      told_memory : status ≡ Memory → Told
      told_fault : status ≡ SinkFault → Told

    refusal-told : (path : List ℕ) (r : Refusal) → status ≡ Refused → WhyRefused c path r → Took c.err (refusal_line path r) → Told
    refusal-told path r e (broken other a cause) took = told_refusal path r e (moved (λ run t. Cause run t path r) other a cause) took
    refusal-told path r e (unbuilt a is) took = absurd (text-or-stage run path asks a)

    pub ending-told : Ending c status → Told
    ending-told (is_done e d) = told_lines d.lines e (moved (λ run t. HasLines run t d.lines) d.run d.asks d.has) d.all_put
    ending-told (is_refusal e d) = refusal-told d.path d.refusal e d.why d.said.line_put
    ending-told (is_usage e d) = absurd (no-usage run asks d.no_request)
    ending-told (is_memory e d) = told_memory e
    ending-told (is_file_fault e d) = absurd (no-rise _ _ d.faulty.rose calm)
    ending-told (is_unsettled e d) = told_failure d.row d.name e (moved (λ run t. HasNoTrace run t d.row d.name) d.run d.asks d.no_trace) d.said.line_put
    ending-told (is_sink_fault e d) = told_fault e

    refusal-by : (path : List ℕ) (r : Refusal) → Cause run (Some contents) path r → Told → Unless ((status ≡ Refused) × Took c.err (refusal_line path r)) status
    refusal-by path r cause (told_lines lines e has took) = absurd (no-cause contents run has.design has.rows path r has.text has.row_file cause)
    refusal-by path r cause (told_refusal other s e cause' took) =
        let one = one-cause contents run other path s r cause' cause in
        inl (e, same-line other path s r one.0 one.1 took)
    refusal-by path r cause (told_failure row name e has took) = absurd (no-cause contents run has.design has.rows path r has.text has.row_file cause)
    refusal-by path r cause (told_memory e) = inr (inl e)
    refusal-by path r cause (told_fault e) = inr (inr e)

    run-by : (e : VDesign) (rows : List (List (List Bit4))) → HasText run (Some contents) e → HasRows run (Some contents) e rows → Told → Unless ((status ≡ Done) ⊎ (status ≡ Unsettled)) status
    run-by d rows text has (told_lines lines e l took) = inl (inl e)
    run-by d rows text has (told_refusal path r e cause took) = absurd (no-cause contents run d rows path r text has cause)
    run-by d rows text has (told_failure row name e f took) = inl (inr e)
    run-by d rows text has (told_memory e) = inr (inl e)
    run-by d rows text has (told_fault e) = inr (inr e)

    lines-by : (lines : List ℕ) → HasLines run (Some contents) lines → Told → Unless ((status ≡ Done) × Took c.out lines) status
    lines-by lines has (told_lines others e l took) =
        inl (e, subst (λ (ls : List ℕ). Took c.out ls) (one-lines contents run others lines l has) took)
    lines-by lines has (told_refusal path r e cause took) = absurd (no-cause contents run has.design has.rows path r has.text has.row_file cause)
    lines-by lines has (told_failure row name e f took) = absurd (lines-or-failure contents run lines row name has f)
    lines-by lines has (told_memory e) = inr (inl e)
    lines-by lines has (told_fault e) = inr (inr e)

    failure-by : (row : ℕ) (name : List ℕ) → HasNoTrace run (Some contents) row name → Told → Unless ((status ≡ Unsettled) × Took c.err (unsettled_line row name)) status
    failure-by row name has (told_lines lines e l took) = absurd (lines-or-failure contents run lines row name l has)
    failure-by row name has (told_refusal path r e cause took) = absurd (no-cause contents run has.design has.rows path r has.text has.row_file cause)
    failure-by row name has (told_failure other other-name e f took) =
        let one = one-no-trace contents run other row other-name name f has in
        inl (e, subst (λ (n : List ℕ). Took c.err (unsettled_line row n)) one.1 (subst (λ (k : ℕ). Took c.err (unsettled_line k other-name)) one.0 took))
    failure-by row name has (told_memory e) = inr (inl e)
    failure-by row name has (told_fault e) = inr (inr e)

  pub refusal-comes : Ending c status → RefusalComes c status
  refusal-comes e run contents path r asks told calm cause = refusal-by run contents asks told calm path r cause (ending-told run contents asks told calm e)

  pub run-comes : Ending c status → RunComes c status
  run-comes e run contents d rows asks told calm text has = run-by run contents asks told calm d rows text has (ending-told run contents asks told calm e)

  pub lines-come : Ending c status → LinesCome c status
  lines-come e run contents lines asks told calm has = lines-by run contents asks told calm lines has (ending-told run contents asks told calm e)

  pub unsettled-comes : Ending c status → UnsettledComes c status
  unsettled-comes e run contents row name asks told calm has = failure-by run contents asks told calm row name has (ending-told run contents asks told calm e)

-- the outcome of a run that is told by its parts
pub of-run : {words : List (List ℕ)} {told : Option Contents} {before after : ℕ} {out err : Put_on} {status : Status}
    → Runs words told before after out err status → Ending (record { words = words; told = told; faults_before = before; faults_after = after; out = out; err = err }) status
of-run {words = words} {told = told} {before = before} {after = after} {out = out} {err = err} {status = status} r =
    outcome _ status r
