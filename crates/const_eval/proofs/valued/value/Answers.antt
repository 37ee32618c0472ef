use Rattle.sv_types.specs.Meanings.{wide}
use Rattle.sv_types.specs.Expressions.{meaning}
use Rattle.eval_parts.proofs.Lists.{own-narrow}
use Rattle.eval_forms.specs.Callees.{formals_in}
use Rattle.const_eval.proofs.Valuing.{alone-long}
use Rattle.const_eval.proofs.valued.value.Goals as goal

pub of_bits-requires-clause-narrow : goal.of_bits-requires-clause-narrow
of_bits-requires-clause-narrow c = own-narrow c.args.e.now (formals_in c.args.functions.now) (wide (meaning c.args.e.now)) c.requires.fits

pub of_bits-requires-clause-same : goal.of_bits-requires-clause-same
of_bits-requires-clause-same c = alone-long c.args.e.now c.as_slice.result.now c.args.env.now c.in-Ok.v c.in-Ok.ensures
