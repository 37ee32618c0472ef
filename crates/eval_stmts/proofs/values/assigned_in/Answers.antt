use Rattle.std.proofs.Common.{length, arith, ap}
use Rattle.sv_types.proofs.ValueLengths.{length-value}
use Rattle.eval_stmts.specs.Environments.{standing}
use Rattle.eval_stmts.proofs.values.assigned_in.Goals as goal

pub given_bits-requires : goal.given_bits-requires
given_bits-requires g c =
    let e = c.args.e.now in
    record {
      narrow = c.requires.fits.narrow;
      typed = c.requires.fits.typed;
      length = omega (arith, ap length c.in_ok-value.ensures.gives.0, length-value e c.max.result c.own_sign.result (standing c.args.scope c.args.env.now), c.own_width.ensures, c.max.ensures);
    }
