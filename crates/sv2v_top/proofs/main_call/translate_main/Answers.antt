use Rattle.sv2v_top.proofs.Promises.{of-run, on-done, on-refused, on-usage, on-memory, on-file-fault, on-sink-fault, usage-comes, done-comes, refusal-comes, never-unsettled}
use Rattle.sv2v_top.proofs.main_call.translate_main.Goals as goal

pub returns-clause-done : goal.returns-clause-done
returns-clause-done g c = on-done _ _ (of-run c.answer.ensures.runs)

pub returns-clause-refused : goal.returns-clause-refused
returns-clause-refused g c = on-refused _ _ (of-run c.answer.ensures.runs)

pub returns-clause-usage : goal.returns-clause-usage
returns-clause-usage g c = on-usage _ _ (of-run c.answer.ensures.runs)

pub returns-clause-memory : goal.returns-clause-memory
returns-clause-memory g c = on-memory _ _ (of-run c.answer.ensures.runs)

pub returns-clause-file_fault : goal.returns-clause-file_fault
returns-clause-file_fault g c = on-file-fault _ _ (of-run c.answer.ensures.runs)

pub returns-clause-sink_fault : goal.returns-clause-sink_fault
returns-clause-sink_fault g c = on-sink-fault _ _ (of-run c.answer.ensures.runs)

pub returns-clause-usage_comes : goal.returns-clause-usage_comes
returns-clause-usage_comes g c = usage-comes _ _ (of-run c.answer.ensures.runs)

pub returns-clause-done_comes : goal.returns-clause-done_comes
returns-clause-done_comes g c = done-comes _ _ (of-run c.answer.ensures.runs)

pub returns-clause-refusal_comes : goal.returns-clause-refusal_comes
returns-clause-refusal_comes g c = refusal-comes _ _ (of-run c.answer.ensures.runs)

pub returns-clause-never_unsettled : goal.returns-clause-never_unsettled
returns-clause-never_unsettled g c = never-unsettled _ _ (of-run c.answer.ensures.runs)
