use Rattle.proc_rules.proofs.processes.process_break.Goals as goal

pub least_of_tokens-requires-clause-wrong : goal.least_of_tokens-requires-clause-wrong
least_of_tokens-requires-clause-wrong c = c.process_wrong-wrong.ensures c.args.design.now c.as_slice.ensures
