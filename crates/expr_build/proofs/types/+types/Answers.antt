use Rattle.std.proofs.Common.{◌≡◌, ◌+◌, ◌-◌, IfOk, sym, subst, ◌∙◌, arith}
use Rattle.expr_build.specs.Types as means
use Rattle.expr_build.proofs.Depths.{type-zero, type-deeper}
use Rattle.expr_build.proofs.types.+types.Goals as goal

pub type_inside-returns-then-depth-eq0 : goal.type_inside-returns-then-depth-eq0
type_inside-returns-then-depth-eq0 t c = c.no_type.ensures ∙ sym (type-zero c.args.depth c.args.tree.now c.if-depth-eq0.true)

pub type_inside-returns : goal.type_inside-returns
type_inside-returns t c =
    let some = c.if-depth-eq0.false in
    let one : c.args.depth ≡ (c.args.depth - 1) + 1 = omega (arith, some) in
    subst (λ o. IfOk c.type_around.result (λ e. e ≡ o)) (sym (type-deeper c.args.depth (c.args.depth - 1) c.args.tree.now one)) c.type_around.ensures
