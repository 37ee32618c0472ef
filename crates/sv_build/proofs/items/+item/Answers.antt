use Rattle.std.proofs.Common.{◌≡◌, ◌+◌, ◌-◌, IfOk, sym, subst, ◌∙◌, arith}
use Rattle.sv_build.specs.Items as means
use Rattle.sv_build.proofs.Depths.{item-zero, item-deeper}
use Rattle.sv_build.proofs.items.+item.Goals as goal

pub item-returns-then-depth-eq0 : goal.item-returns-then-depth-eq0
item-returns-then-depth-eq0 t c = sym (item-zero c.args.depth c.args.tree.now c.if-depth-eq0.true)

pub item-returns : goal.item-returns
item-returns t c =
    let some = c.if-depth-eq0.false in
    let one : c.args.depth ≡ (c.args.depth - 1) + 1 = omega (arith, some) in
    subst (λ o. IfOk c.item_around.result (λ e. e ≡ o)) (sym (item-deeper c.args.depth (c.args.depth - 1) c.args.tree.now one)) c.item_around.ensures
