use Rattle.std.proofs.Common.{◌≡◌, ◌≤◌, length, IfSome, arith, ap, subst}
use Rattle.sv_types.specs.Meanings.{wide}
use Rattle.sv_types.specs.Expressions.{meaning}
use Rattle.sv_types.proofs.Widths.{wide-widest}
use Rattle.v_meaning.specs.Values as T
use Rattle.v_build.specs.Trees.{meanings}
use Rattle.path_steps.specs.Known.{HasFixedBits}
use Rattle.expr_lower.specs.Logarithms.{IsLogarithm}
use Rattle.expr_lower.proofs.Comparisons.{combines-Clog2, combines-fixed, only-part}
use Rattle.expr_lower.proofs.logarithms.clog2.Goals as goal

pub fixed_logarithm-requires : goal.fixed_logarithm-requires
fixed_logarithm-requires c =
    let fixed : HasFixedBits c.args.x.now c.in-Some.fixed = subst (λ o. IfSome o (HasFixedBits c.args.x.now)) c.in-Some.is c.in_ok-fixed.ensures in
    let long = fixed.long in
    let most = wide-widest c.args.x.now in
    let narrow = c.requires.fits.narrow in
    omega arith

pub returns-in_ok-constant-in-Some : goal.returns-in_ok-constant-in-Some
returns-in_ok-constant-in-Some c =
    let fixed : HasFixedBits c.args.x.now c.in-Some.fixed = subst (λ o. IfSome o (HasFixedBits c.args.x.now)) c.in-Some.is c.in_ok-fixed.ensures in
    combines-fixed c.args.e.now c.args.x.now (meanings c.args.parts) c.in-Some.fixed c.own_sign.result (T.meaning c.in_ok-number-in-Some.number) (T.meaning c.in_ok-constant-in-Some.constant) c.requires.form
    fixed c.in_ok-number-in-Some.ensures c.own_sign.ensures c.in_ok-constant-in-Some.ensures

pub returns-in_ok-made-in-None : goal.returns-in_ok-made-in-None
returns-in_ok-made-in-None c =
    let x = meaning c.args.x.now in
    let one = only-part c.args.parts c.requires.count in
    let log = subst (λ w. IsLogarithm (T.concatenation (meanings c.args.parts)) w (T.meaning c.in_ok-bits-in-None.bits)) c.own_width.ensures
    (subst (λ y. IsLogarithm y c.own_width.result (T.meaning c.in_ok-bits-in-None.bits)) c.concatenation.ensures c.in_ok-bits-in-None.ensures) in
    combines-Clog2 c.args.e.now c.args.x.now (meanings c.args.parts) (T.meaning one.0) c.own_sign-in-None.result (T.meaning c.in_ok-bits-in-None.bits) (T.meaning c.in_ok-made-in-None.made) c.requires.form (ap meanings one.1) log
    c.own_sign-in-None.ensures c.in_ok-made-in-None.ensures
