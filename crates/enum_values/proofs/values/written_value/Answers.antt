use Rattle.std.proofs.Common.{◌≡◌, ◌<◌, ◌≤◌, arith}
use Rattle.sv_types.specs.Expressions.{meaning}
use Rattle.sv_types.specs.Layouts.{width_of}
use Rattle.sv_types.specs.Meanings.{wide}
use Rattle.eval_forms.specs.Callees.{formals_in}
use Rattle.eval_parts.proofs.Lists.{own-narrow}
use Rattle.eval_parts.proofs.TypeKinds.{wide-is}
use Rattle.expr_type.specs.Answers.{source}
use Rattle.enum_values.proofs.Written.{long-stops, short-named}
use Rattle.enum_values.proofs.values.written_value.Goals as goal

pub holds-requires-clause-some : goal.holds-requires-clause-some
holds-requires-clause-some c =
    let is : wide (meaning c.args.v.now.expr) ≡ width_of c.args.v.now.expr.of = wide-is c.args.v.now.expr in
    let some : 0 < wide (meaning c.args.v.now.expr) = c.requires.fits.some in
    omega (arith, c.in_ok-given.ensures.long)

pub holds-requires-clause-short : goal.holds-requires-clause-short
holds-requires-clause-short c =
    let narrow : width_of c.args.v.now.expr.of ≤ 4194304 = own-narrow c.args.v.now.expr (formals_in c.args.functions.now) (wide (meaning c.args.v.now.expr)) c.requires.fits in
    omega (arith, c.in_ok-given.ensures.long)

pub in_base-requires-clause-some : goal.in_base-requires-clause-some
in_base-requires-clause-some c =
    let is : wide (meaning c.args.v.now.expr) ≡ width_of c.args.v.now.expr.of = wide-is c.args.v.now.expr in
    let some : 0 < wide (meaning c.args.v.now.expr) = c.requires.fits.some in
    omega (arith, c.in_ok-given.ensures.long)

pub in_base-requires-clause-short : goal.in_base-requires-clause-short
in_base-requires-clause-short c =
    let narrow : width_of c.args.v.now.expr.of ≤ 4194304 = own-narrow c.args.v.now.expr (formals_in c.args.functions.now) (wide (meaning c.args.v.now.expr)) c.requires.fits in
    omega (arith, c.in_ok-given.ensures.long)

pub returns-then-is_long : goal.returns-then-is_long
returns-then-is_long c before held none =
    long-stops (source c.args.text) c.args.base.now c.args.at before c.args.v.now c.args.functions.now c.in_ok-given.given c.own_sign.result c.in_ok-held.held c.is_long.result c.long_halt.result
    c.in_ok-given.ensures.value c.own_sign.ensures c.in_ok-held.ensures c.is_long.ensures c.if-is_long.true c.long_halt.ensures none

pub returns : goal.returns
returns c before held none =
    short-named (source c.args.text) c.args.base.now c.args.at c.args.taken.now before c.args.v.now c.args.functions.now c.in_ok-given.given c.own_sign-2.result c.is_long.result c.in_ok-bits.bits c.named_value.result
    c.in_ok-given.ensures.value c.own_sign-2.ensures c.is_long.ensures c.if-is_long.false c.in_ok-bits.ensures c.named_value.ensures held
