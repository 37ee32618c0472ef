use Rattle.eval_forms.specs.Callees.{formals_in}
use Rattle.eval_runs.proofs.Knots.{all-fit}
use Rattle.const_eval.proofs.runs.result_bits.Goals as goal

pub run_body-requires-clause-calls : goal.run_body-requires-clause-calls
run_body-requires-clause-calls c = record { always = record { at = λ a. c.requires.functions }; functions = all-fit c.args.functions.now (formals_in c.args.functions.now) c.requires.functions; gives = λ q r p. p.1 }
