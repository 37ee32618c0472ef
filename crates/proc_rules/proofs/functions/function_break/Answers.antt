use Rattle.proc_rules.proofs.functions.function_break.Goals as goal

pub least_of_tokens-requires-clause-deferred : goal.least_of_tokens-requires-clause-deferred
least_of_tokens-requires-clause-deferred c = c.function_deferred-deferred.ensures c.args.design.now c.as_slice.ensures
