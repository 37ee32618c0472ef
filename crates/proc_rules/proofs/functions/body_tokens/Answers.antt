use Rattle.sv_types.specs.declared.statement.Outcome.TheVariants.{Normal, Return}
use Rattle.proc_rules.proofs.functions.body_tokens.Goals as goal

pub result_left_out-requires-clause-normal : goal.result_left_out-requires-clause-normal
result_left_out-requires-clause-normal c = c.requires.flow.sets Normal

pub result_left_out-requires-clause-returns : goal.result_left_out-requires-clause-returns
result_left_out-requires-clause-returns c = c.requires.flow.sets Return
