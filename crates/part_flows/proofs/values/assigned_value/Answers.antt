use Rattle.std.proofs.Common.{length, arith, ap}
use Rattle.sv_types.specs.Layouts.{layout}
use Rattle.sv_types.proofs.ValueLengths.{length-value}
use Rattle.expr_flows.specs.Known.{unheld}
use Rattle.part_flows.proofs.Constants as C
use Rattle.part_flows.proofs.values.assigned_value.Goals as goal

pub given_bits-requires : goal.given_bits-requires
given_bits-requires c =
    let e = c.args.e.now in
    record {
      narrow = c.requires.fits.narrow;
      typed = c.requires.fits.typed;
      length = omega (arith, ap length c.in_ok-value.ensures, length-value e c.max.result c.own_sign.result (unheld c.args.known), c.own_width.ensures, c.max.ensures);
    }

pub returns : goal.returns
returns c =
    C.assigned-is c.args.known c.args.e.now (layout c.args.of.now).two_state c.width-width.result c.max.result c.own_sign.result c.in_ok-value.value c.in_ok-given.given c.in_ok-store.field-0 c.requires.constant c.width-width.ensures.bits
    (omega (arith, c.max.ensures, c.own_width.ensures)) c.own_sign.ensures c.in_ok-value.ensures c.in_ok-given.ensures c.in_ok-store.ensures
