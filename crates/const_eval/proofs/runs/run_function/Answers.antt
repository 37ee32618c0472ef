use Rattle.const_eval.proofs.Valuing.{function-long}
use Rattle.const_eval.proofs.runs.run_function.Goals as goal

pub of_bits-requires-clause-same : goal.of_bits-requires-clause-same
of_bits-requires-clause-same c = function-long c.in-Ok.v c.args.f.now c.as_slice-3.result.now c.in_ok-passed.passed c.args.env.now.budget c.in-Ok.ensures
