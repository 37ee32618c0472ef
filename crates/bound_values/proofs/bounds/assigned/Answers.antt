use Rattle.std.proofs.Common.{◌≡◌, length, arith, ap, subst}
use Rattle.sv_types.specs.Layouts.{layout}
use Rattle.sv_types.specs.Operators.{assigned_width}
use Rattle.sv_types.specs.Expressions.{meaning}
use Rattle.sv_types.proofs.ValueLengths.{length-value}
use Rattle.eval_forms.specs.Callees.{formals_in}
use Rattle.eval_stmts.proofs.Given.{fits-alone}
use Rattle.expr_flows.specs.Known.{sight}
use Rattle.design_breaks.specs.Indices.{unheld}
use Rattle.bound_values.specs.declared.bounds.Bound.{Bound}
use Rattle.bound_values.specs.Bounds.{BoundIs}
use Rattle.bound_values.proofs.bounds.assigned.Goals as goal

pub bound_value-requires-clause-alone : goal.bound_value-requires-clause-alone
bound_value-requires-clause-alone c =
    fits-alone c.args.e.now (formals_in c.args.known.functions.now) (assigned_width (layout c.args.of.now).two_state (meaning c.args.e.now)) (omega arith) c.requires.fits

pub given_bits-requires : goal.given_bits-requires
given_bits-requires c =
    let e = c.args.e.now in
    let a = unheld (sight c.args.known).around in
    let b = subst (λ (x : Bound). BoundIs x c.args.known e (λ v. v ≡ (meaning e).value c.max.result c.own_sign.result a)) c.in-Bits.is c.in_ok-at.ensures in
    record {
      narrow = c.requires.fits.narrow;
      typed = c.requires.fits.typed;
      length = omega (arith, ap length b.1, length-value e c.max.result c.own_sign.result a, c.own_width.ensures, c.max.ensures);
    }
