use Rattle.eval_forms.specs.Callees.{formals_in}
use Rattle.eval_runs.proofs.Knots.{all-fit}
use Rattle.const_eval.proofs.Valuing.{alone-gives, same-slots}
use Rattle.enum_values.proofs.bits.alone.Goals as goal

pub bits-requires-clause-calls : goal.bits-requires-clause-calls
bits-requires-clause-calls c = record { always = record { at = λ a. c.requires.functions }; functions = all-fit c.args.functions.now (formals_in c.args.functions.now) c.requires.functions; gives = λ q r p. p.1 }

pub returns : goal.returns
returns c =
    alone-gives c.bits.result c.args.e.now c.args.functions.now c.args.env.now c.own_width.result c.own_sign.result _ c.bits.new.budget c.own_width.ensures c.own_sign.ensures
    (same-slots c.args.functions.now c.as_slice.result.now c.args.env.now.signals.items c.as_slice-2.result.now c.args.env.now.locals.items c.as_slice.ensures.value c.as_slice-2.ensures.value) c.bits.ensures
