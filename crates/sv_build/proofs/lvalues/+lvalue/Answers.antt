use Rattle.std.proofs.Common.{◌≡◌, ◌+◌, ◌-◌, ℕ, IfOk, ap, sym, subst, ◌∙◌, arith}
use Rattle.ll_engine.specs.declared.tree.Tree.{Tree}
use Rattle.sv_tree.specs.declared.statements.Lvalue.{Lvalue}
use Rattle.sv_tree.specs.declared.statements.Lvalue.TheVariants as L
use Rattle.expr_build.specs.Nodes.{kid, token}
use Rattle.sv_build.specs.Statements as means
use Rattle.sv_build.proofs.Depths.{concatenated-zero, concatenated-deeper}
use Rattle.sv_build.proofs.lvalues.+lvalue.Goals as goal

pub concatenated-returns-then-depth-eq0 : goal.concatenated-returns-then-depth-eq0
concatenated-returns-then-depth-eq0 t c = ap (λ s. L.Name 0 s) c.new.ensures ∙ sym (concatenated-zero c.args.depth c.args.tree.now c.if-depth-eq0.true)

pub concatenated-returns : goal.concatenated-returns
concatenated-returns t c =
    let some = c.if-depth-eq0.false in
    let n : ℕ = c.args.depth - 1 in
    let inner : Tree → Lvalue = means.concatenated_within n in
    let one : c.args.depth ≡ n + 1 = omega (arith, some) in
    let is : means.concatenated_from inner c.token.result c.kid.result.now ≡ means.concatenated_within c.args.depth c.args.tree.now =
    ap (λ k. means.concatenated_from inner k c.kid.result.now) c.token.ensures
    ∙ ap (λ k. means.concatenated_from inner (token 0 c.args.tree.now) k) c.kid.ensures
    ∙ sym (concatenated-deeper c.args.depth n c.args.tree.now one) in
    subst (λ o. IfOk c.concatenated_from.result (λ e. e ≡ o)) is c.concatenated_from.ensures
