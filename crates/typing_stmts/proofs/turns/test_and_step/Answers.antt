use Rattle.typing_parts.proofs.Keeping.{extends-then}
use Rattle.typing_stmts.proofs.Controls.{same-written}
use Rattle.typing_stmts.proofs.turns.test_and_step.Goals as goal

pub loop_step-step-requires-clause-written : goal.loop_step-step-requires-clause-written
loop_step-step-requires-clause-written g c = same-written c.args.step.now c.requires.step

pub returns-in_err-test-clause-keeps : goal.returns-in_err-test-clause-keeps
returns-in_err-test-clause-keeps g c = extends-then _ _ _ c.condition-test.ensures.keeps c.loop_step-step.ensures.keeps

pub returns-clause-keeps : goal.returns-clause-keeps
returns-clause-keeps g c = extends-then _ _ _ c.condition-test.ensures.keeps c.loop_step-step.ensures.keeps
