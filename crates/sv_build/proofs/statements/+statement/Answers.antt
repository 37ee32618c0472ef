use Rattle.std.proofs.Common.{◌≡◌, ◌+◌, ◌-◌, IfOk, sym, subst, ◌∙◌, arith}
use Rattle.sv_build.specs.Statements as means
use Rattle.sv_build.proofs.Depths.{stmt-zero, stmt-deeper, block-item-zero, block-item-deeper}
use Rattle.sv_build.proofs.statements.+statement.Goals as goal

pub stmt-returns-then-depth-eq0 : goal.stmt-returns-then-depth-eq0
stmt-returns-then-depth-eq0 t c = sym (stmt-zero c.args.depth c.args.tree.now c.if-depth-eq0.true)

pub stmt-returns : goal.stmt-returns
stmt-returns t c =
    let some = c.if-depth-eq0.false in
    let one : c.args.depth ≡ (c.args.depth - 1) + 1 = omega (arith, some) in
    subst (λ o. IfOk c.stmt_around.result (λ e. e ≡ o)) (sym (stmt-deeper c.args.depth (c.args.depth - 1) c.args.tree.now one)) c.stmt_around.ensures

pub block_item-returns-then-depth-eq0 : goal.block_item-returns-then-depth-eq0
block_item-returns-then-depth-eq0 t c = sym (block-item-zero c.args.depth c.args.tree.now c.if-depth-eq0.true)

pub block_item-returns : goal.block_item-returns
block_item-returns t c =
    let some = c.if-depth-eq0.false in
    let one : c.args.depth ≡ (c.args.depth - 1) + 1 = omega (arith, some) in
    subst (λ o. IfOk c.block_item_around.result (λ e. e ≡ o)) (sym (block-item-deeper c.args.depth (c.args.depth - 1) c.args.tree.now one)) c.block_item_around.ensures
