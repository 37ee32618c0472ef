use Rattle.std.proofs.Common.{length, refl}
use Rattle.eval_forms.specs.Callees.{formals_in}
use Rattle.eval_runs.proofs.Knots.{all-fit}
use Rattle.const_eval.proofs.Valuing.{stmt-gives}
use Rattle.const_eval.proofs.runs.run_in.Goals as goal

pub run-requires-clause-calls : goal.run-requires-clause-calls
run-requires-clause-calls c = record { always = record { at = λ a. c.requires.functions }; functions = all-fit c.args.functions.now (formals_in c.args.functions.now) c.requires.functions; gives = λ q r p. p.1 }

pub returns : goal.returns
returns c = stmt-gives c.run.result (record { functions = c.args.functions; depth = length c.args.functions.now }) c.args.s.now c.args.env.now c.run.new.env refl c.run.ensures
