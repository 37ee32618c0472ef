use Rattle.std.proofs.Common.{arith, subst}
use Rattle.b4_core.specs.declared.operators.EqOp.TheVariants.{Wild}
use Rattle.sv_types.proofs.Widths.{has-bits}
use Rattle.eval_parts.proofs.Lists.{own-narrow}
use Rattle.eval_parts.proofs.Steps.{cast-fits-x, clog2-fits-x, equal-fits-x, equal-fits-y}
use Rattle.eval_parts.proofs.TypeKinds.{wide-is}
use Rattle.eval_forms.specs.Callees.{formals_in}
use Rattle.eval_forms.proofs.Narrowness.{narrow-Inside}
use Rattle.expr_lower.specs.Specials.{IsSpecial}
use Rattle.expr_lower.proofs.Standing.{pattern-of, call-of}
use Rattle.expr_lower.proofs.formed.formed.Goals as goal

pub wild_form-requires-clause-left : goal.wild_form-requires-clause-left
wild_form-requires-clause-left c =
    let is = subst (λ st. IsSpecial st c.args.e.now) c.in-Some-Wild.field-0-is c.in-Some-Wild.ensures in
    (equal-fits-x c.args.e.now c.in-Some-Wild.left.now c.in-Some-Wild.right.now Wild c.in-Some-Wild.negated (formals_in c.args.functions.now) c.args.width is c.requires.fits).narrow

pub wild_form-requires-clause-right : goal.wild_form-requires-clause-right
wild_form-requires-clause-right c =
    let is = subst (λ st. IsSpecial st c.args.e.now) c.in-Some-Wild.field-0-is c.in-Some-Wild.ensures in
    (equal-fits-y c.args.e.now c.in-Some-Wild.left.now c.in-Some-Wild.right.now Wild c.in-Some-Wild.negated (formals_in c.args.functions.now) c.args.width is c.requires.fits).narrow

pub inside-requires-clause-value : goal.inside-requires-clause-value
inside-requires-clause-value c =
    let is = subst (λ st. IsSpecial st c.args.e.now) c.in-Some-Inside.field-0-is c.in-Some-Inside.ensures in
    (narrow-Inside c.args.e.now c.in-Some-Inside.x.now c.in-Some-Inside.choices.now is c.requires.fits.narrow).0

pub inside-requires-clause-narrow : goal.inside-requires-clause-narrow
inside-requires-clause-narrow c =
    let is = subst (λ st. IsSpecial st c.args.e.now) c.in-Some-Inside.field-0-is c.in-Some-Inside.ensures in
    (narrow-Inside c.args.e.now c.in-Some-Inside.x.now c.in-Some-Inside.choices.now is c.requires.fits.narrow).1

pub cast_form-requires-clause-operand : goal.cast_form-requires-clause-operand
cast_form-requires-clause-operand c =
    let is = subst (λ st. IsSpecial st c.args.e.now) c.in-Some-Cast.field-0-is c.in-Some-Cast.ensures in
    (cast-fits-x c.args.e.now c.in-Some-Cast.x.now (formals_in c.args.functions.now) c.args.width is c.requires.fits).narrow

pub cast_form-requires-clause-narrow : goal.cast_form-requires-clause-narrow
cast_form-requires-clause-narrow c = own-narrow c.args.e.now (formals_in c.args.functions.now) c.args.width c.requires.fits

pub pattern_form-requires-clause-form : goal.pattern_form-requires-clause-form
pattern_form-requires-clause-form c = subst (λ st. IsSpecial st c.args.e.now) c.in-Some-Pattern.field-0-is c.in-Some-Pattern.ensures

pub pattern_form-requires-clause-items : goal.pattern_form-requires-clause-items
pattern_form-requires-clause-items c =
    let is = subst (λ st. IsSpecial st c.args.e.now) c.in-Some-Pattern.field-0-is c.in-Some-Pattern.ensures in
    pattern-of c.args.e.now c.in-Some-Pattern.items.now (formals_in c.args.functions.now) c.args.width c.args.signed _ is c.requires.count c.requires.fits.narrow

pub pattern_form-requires-clause-some : goal.pattern_form-requires-clause-some
pattern_form-requires-clause-some c = (let h = has-bits c.args.e.now c.requires.fits.typed in omega (arith, h, wide-is c.args.e.now))

pub pattern_form-requires-clause-narrow : goal.pattern_form-requires-clause-narrow
pattern_form-requires-clause-narrow c = own-narrow c.args.e.now (formals_in c.args.functions.now) c.args.width c.requires.fits

pub call_form-requires-clause-form : goal.call_form-requires-clause-form
call_form-requires-clause-form c = subst (λ st. IsSpecial st c.args.e.now) c.in-Some-Call.field-0-is c.in-Some-Call.ensures

pub call_form-requires-clause-items : goal.call_form-requires-clause-items
call_form-requires-clause-items c =
    let is = subst (λ st. IsSpecial st c.args.e.now) c.in-Some-Call.field-0-is c.in-Some-Call.ensures in
    call-of c.args.e.now c.in-Some-Call.f c.in-Some-Call.actuals.now (formals_in c.args.functions.now) c.args.width c.args.signed _ is c.requires.count c.requires.fits.narrow

pub clog2-requires-clause-fits : goal.clog2-requires-clause-fits
clog2-requires-clause-fits c =
    let is = subst (λ st. IsSpecial st c.args.e.now) c.in-Some-Clog2.field-0-is c.in-Some-Clog2.ensures in
    clog2-fits-x c.args.e.now c.in-Some-Clog2.x.now (formals_in c.args.functions.now) c.args.width is c.requires.fits

pub returns-in_ok-equal-in-Some-Wild-clause-combines : goal.returns-in_ok-equal-in-Some-Wild-clause-combines
returns-in_ok-equal-in-Some-Wild-clause-combines c = c.in_ok-equal-in-Some-Wild.ensures.combines c.args.names.now c.args.functions.now c.args.width c.args.signed

pub returns-in_ok-member-in-Some-Inside-clause-combines : goal.returns-in_ok-member-in-Some-Inside-clause-combines
returns-in_ok-member-in-Some-Inside-clause-combines c = c.in_ok-member-in-Some-Inside.ensures.combines c.args.names.now c.args.functions.now c.args.width c.args.signed

pub returns-in_ok-converted-in-Some-Cast-clause-combines : goal.returns-in_ok-converted-in-Some-Cast-clause-combines
returns-in_ok-converted-in-Some-Cast-clause-combines c = c.in_ok-converted-in-Some-Cast.ensures.combines c.args.names.now c.args.functions.now c.args.width c.args.signed

pub returns-in_ok-logarithm-in-Some-Clog2-clause-combines : goal.returns-in_ok-logarithm-in-Some-Clog2-clause-combines
returns-in_ok-logarithm-in-Some-Clog2-clause-combines c = c.in_ok-logarithm-in-Some-Clog2.ensures c.args.helpers.now c.args.names.now c.args.functions.now c.args.width c.args.signed

pub returns-in_ok-whole-in-Some-Pattern-clause-combines : goal.returns-in_ok-whole-in-Some-Pattern-clause-combines
returns-in_ok-whole-in-Some-Pattern-clause-combines c = c.in_ok-whole-in-Some-Pattern.ensures.combines c.args.names.now c.args.functions.now

pub returns-in_ok-called-in-Some-Call-clause-combines : goal.returns-in_ok-called-in-Some-Call-clause-combines
returns-in_ok-called-in-Some-Call-clause-combines c = c.in_ok-called-in-Some-Call.ensures.combines c.args.width c.args.signed
