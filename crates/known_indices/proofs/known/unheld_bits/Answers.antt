use Rattle.eval_forms.specs.Callees.{formals_in}
use Rattle.eval_runs.proofs.Knots.{all-fit}
use Rattle.known_indices.proofs.Numbers.{bits-give}
use Rattle.known_indices.proofs.known.unheld_bits.Goals as goal

pub bits-requires-clause-calls : goal.bits-requires-clause-calls
bits-requires-clause-calls c = record { always = record { at = λ a. c.requires.functions }; functions = all-fit c.args.functions.now (formals_in c.args.functions.now) c.requires.functions; gives = λ q r p. p.1 }

pub returns : goal.returns
returns c = bits-give c.bits.result c.args.functions.now c.args.e.now c.own_width.result c.own_sign.result c.bits.new.budget c.own_width.ensures c.own_sign.ensures c.bits.ensures
