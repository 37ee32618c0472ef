use Rattle.eval_forms.specs.Callees.{formals_in}
use Rattle.eval_runs.proofs.Knots.{all-fit}
use Rattle.expr_flows.proofs.Values as V
use Rattle.expr_flows.proofs.known.value_at.Goals as goal

pub bits-requires-clause-calls : goal.bits-requires-clause-calls
bits-requires-clause-calls c = record { always = record { at = λ a. c.requires.functions }; functions = all-fit c.args.known.functions.now (formals_in c.args.known.functions.now) c.requires.functions; gives = λ q r p. p.1 }

pub returns-in-Err : goal.returns-in-Err
returns-in-Err c = V.value-fails c.in-Err.halt c.args.e.now c.args.known c.args.width c.args.signed c.bits.new.budget c.fail_of.result c.in-Err.ensures c.fail_of.ensures
