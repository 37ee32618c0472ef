use Rattle.std.proofs.Common.{◌≡◌, IfOk, subst}
use Rattle.sv_types.specs.Expressions.{meaning}
use Rattle.v_tree.specs.declared.expressions.VExpr.{VExpr}
use Rattle.v_meaning.specs.Values as T
use Rattle.form_lower.specs.Wilds.{at_sign}
use Rattle.form_lower.proofs.Comparing.{match-of}
use Rattle.form_lower.proofs.wilds.matching.Goals as goal

pub returns-clause-matches : goal.returns-clause-matches
returns-clause-matches c =
    let s = c.are_signed-of_both.result in
    let left = subst (λ r. IfOk r (λ (e : VExpr). T.meaning e ≡ at_sign c.own_sign.result s (T.meaning c.args.left))) c.in_ok-left.ensures.0 c.at_sign-left.ensures in
    let right = subst (λ r. IfOk r (λ (e : VExpr). T.meaning e ≡ at_sign c.own_sign-2.result s (T.meaning c.args.right))) c.in_ok-left.ensures.1 c.at_sign.ensures in
    match-of (meaning c.args.x.now) (meaning c.args.y.now) (T.meaning c.args.left) (T.meaning c.args.right) c.own_sign.result c.own_sign-2.result s c.wider.result (T.meaning c.in_ok-left.left) (T.meaning c.in_ok-left.right)
    c.call_two.new.helpers (T.meaning c.in_ok-made.made) c.wider.ensures c.own_sign.ensures c.own_sign-2.ensures c.are_signed-of_both.ensures left right c.in_ok-made.ensures.calls
