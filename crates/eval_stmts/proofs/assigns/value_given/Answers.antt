use Rattle.std.proofs.Common.{length, max, arith, ap}
use Rattle.sv_types.specs.Meanings.{wide}
use Rattle.sv_types.specs.Expressions.{meaning}
use Rattle.sv_types.proofs.ValueLengths.{length-value}
use Rattle.eval_exprs.specs.Held.{formals}
use Rattle.eval_stmts.specs.Environments.{standing}
use Rattle.eval_stmts.proofs.Given.{fits-alone}
use Rattle.eval_stmts.proofs.assigns.value_given.Goals as goal

pub alone_in-requires-clause-fits : goal.alone_in-requires-clause-fits
alone_in-requires-clause-fits g c = let e = c.args.value.now in fits-alone e (formals c.args.scope) (max c.args.width (wide (meaning e))) (omega arith) c.requires.fits

pub given_bits-requires : goal.given_bits-requires
given_bits-requires g c =
    let e = c.args.value.now in
    record {
      narrow = c.requires.fits.narrow;
      typed = c.requires.fits.typed;
      length = omega (arith, ap length c.in_ok-bits-2.ensures.gives.0, length-value e c.max.result c.own_sign.result (standing c.args.scope c.args.env.now), c.own_width-own.ensures, c.max.ensures);
    }
