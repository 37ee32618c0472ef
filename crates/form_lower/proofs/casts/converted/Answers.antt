use Rattle.std.proofs.Common.{◌≡◌, ◌≤◌, ◌+◌, ◌-◌, arith, sym, ◌∙◌}
use Rattle.sv_types.specs.Layouts.{width_of}
use Rattle.sv_types.specs.Expressions.{meaning}
use Rattle.sv_types.specs.Meanings.{wide}
use Rattle.v_meaning.specs.Values as T
use Rattle.form_lower.proofs.Casting.{converts-kept, converts-cut, converts-signed, converts-widened}
use Rattle.form_lower.proofs.casts.converted.Goals as goal

pub returns-in_ok-kept-clause-converts : goal.returns-in_ok-kept-clause-converts
returns-in_ok-kept-clause-converts c =
    let some : 1 ≤ width_of c.args.to.now = omega arith in
    let same : wide (meaning c.args.x.now) ≡ width_of c.args.to.now = omega arith in
    converts-kept (meaning c.args.x.now) c.args.to.now (T.meaning c.args.part) c.whole.new.helpers (T.meaning c.in_ok-kept.kept) some same c.in_ok-kept.ensures.keeps

pub returns-in_ok-cut-clause-converts : goal.returns-in_ok-cut-clause-converts
returns-in_ok-cut-clause-converts c =
    let few : width_of c.args.to.now ≤ wide (meaning c.args.x.now) = omega arith in
    converts-cut (meaning c.args.x.now) c.args.to.now (T.meaning c.args.part) c.assigned.new.helpers (T.meaning c.in_ok-cut.cut) few c.in_ok-cut.ensures.assigns

pub returns-in_ok-by_sign-clause-converts : goal.returns-in_ok-by_sign-clause-converts
returns-in_ok-by_sign-clause-converts c =
    converts-signed (meaning c.args.x.now) c.args.to.now (T.meaning c.args.part) c.assigned-then-own_sign.new.helpers (T.meaning c.in_ok-alone.alone) (T.meaning c.in_ok-by_sign.by_sign)
    (sym c.own_sign.ensures ∙ c.if-own_sign.true) c.in_ok-alone.ensures c.in_ok-by_sign.ensures.assigns

pub returns-in_ok-wide-clause-converts : goal.returns-in_ok-wide-clause-converts
returns-in_ok-wide-clause-converts c =
    let more = c.width-n.result - c.own_width-own.result in
    let some : 1 ≤ width_of c.args.to.now = omega arith in
    let long : wide (meaning c.args.x.now) + more ≡ width_of c.args.to.now = omega arith in
    converts-widened (meaning c.args.x.now) c.args.to.now (T.meaning c.args.part) c.widened.new.helpers more (T.meaning c.in_ok-wide.wide) some (sym c.own_sign.ensures ∙ c.if-own_sign.false) long c.in_ok-wide.ensures.widens
