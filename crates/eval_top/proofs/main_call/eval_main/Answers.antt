use Rattle.eval_top.proofs.Promises.{of-run, on-done, on-refused, on-usage, on-memory, on-file-fault, on-sink-fault, on-unsettled, usage-comes, stage-comes, refusal-comes, run-comes, lines-come, unsettled-comes}
use Rattle.eval_top.proofs.main_call.eval_main.Goals as goal

pub returns-clause-done : goal.returns-clause-done
returns-clause-done g c = on-done _ _ (of-run c.answer.ensures.runs)

pub returns-clause-refused : goal.returns-clause-refused
returns-clause-refused g c = on-refused _ _ (of-run c.answer.ensures.runs)

pub returns-clause-usage : goal.returns-clause-usage
returns-clause-usage g c = on-usage _ _ (of-run c.answer.ensures.runs)

pub returns-clause-memory : goal.returns-clause-memory
returns-clause-memory g c = on-memory _ _ (of-run c.answer.ensures.runs)

pub returns-clause-file_fault : goal.returns-clause-file_fault
returns-clause-file_fault g c = on-file-fault _ _ (of-run c.answer.ensures.runs)

pub returns-clause-sink_fault : goal.returns-clause-sink_fault
returns-clause-sink_fault g c = on-sink-fault _ _ (of-run c.answer.ensures.runs)

pub returns-clause-unsettled : goal.returns-clause-unsettled
returns-clause-unsettled g c = on-unsettled _ _ (of-run c.answer.ensures.runs)

pub returns-clause-usage_comes : goal.returns-clause-usage_comes
returns-clause-usage_comes g c = usage-comes _ _ (of-run c.answer.ensures.runs)

pub returns-clause-stage_comes : goal.returns-clause-stage_comes
returns-clause-stage_comes g c = stage-comes _ _ (of-run c.answer.ensures.runs)

pub returns-clause-refusal_comes : goal.returns-clause-refusal_comes
returns-clause-refusal_comes g c = refusal-comes _ _ (of-run c.answer.ensures.runs)

pub returns-clause-run_comes : goal.returns-clause-run_comes
returns-clause-run_comes g c = run-comes _ _ (of-run c.answer.ensures.runs)

pub returns-clause-lines_come : goal.returns-clause-lines_come
returns-clause-lines_come g c = lines-come _ _ (of-run c.answer.ensures.runs)

pub returns-clause-unsettled_comes : goal.returns-clause-unsettled_comes
returns-clause-unsettled_comes g c = unsettled-comes _ _ (of-run c.answer.ensures.runs)
