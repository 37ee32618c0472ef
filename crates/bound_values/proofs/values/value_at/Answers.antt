use Rattle.eval_forms.specs.Callees.{formals_in}
use Rattle.eval_runs.proofs.Knots.{all-fit}
use Rattle.std.proofs.Common.{sym, subst}
use Rattle.bound_values.specs.Values.{ValuedGives}
use Rattle.bound_values.proofs.Looking as L
use Rattle.bound_values.proofs.values.value_at.Goals as goal

pub bits-requires-clause-calls : goal.bits-requires-clause-calls
bits-requires-clause-calls c = record { always = record { at = λ a. c.requires.functions }; functions = all-fit c.args.known.functions.now (formals_in c.args.known.functions.now) c.requires.functions; gives = λ q r p. p.1 }

pub returns : goal.returns
returns c =
    let k = c.args.known in
    let e = c.args.e.now in
    subst (λ r. ValuedGives r k e c.args.width c.args.signed) (sym c.ended.ensures) (L.ended-gives c.bits.result e k c.args.width c.args.signed c.bits.new.budget c.bits.ensures)
