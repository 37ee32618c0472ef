use Rattle.std.proofs.Common.{◌≡◌, ◌+◌, ◌-◌, ℕ, List, drop, IfOk, ap, sym, subst, ◌∙◌, arith}
use Rattle.ll_engine.specs.declared.tree.Tree.{Tree}
use Rattle.sv_tree.specs.declared.expressions.Expr.{Expr}
use Rattle.expr_build.specs.declared.rows.TheConstants as R
use Rattle.expr_build.specs.Nodes.{kid, kids_of, row_of}
use Rattle.expr_build.specs.Expressions as means
use Rattle.expr_build.proofs.Depths.{expr-zero, expr-deeper, level-zero, level-more, unary-zero, unary-other, unary-more}
use Rattle.expr_build.proofs.expressions.+expression.Goals as goal
use Rattle.expr_build.proofs.expressions.+expression.Goals.{unary-else-operators-gt0-via-then-operators-gt0+else-row-eq-UNARY_OPERATION, unary-else-operators-gt0-via-else-operators-gt0}

pub expr-returns-then-depth-eq0 : goal.expr-returns-then-depth-eq0
expr-returns-then-depth-eq0 t c = sym (expr-zero c.args.depth c.args.tree.now c.if-depth-eq0.true)

pub expr-returns : goal.expr-returns
expr-returns t c =
    let some = c.if-depth-eq0.false in
    let one : c.args.depth ≡ (c.args.depth - 1) + 1 = omega (arith, some) in
    subst (λ o. IfOk c.expr_around.result (λ e. e ≡ o)) (sym (expr-deeper c.args.depth (c.args.depth - 1) c.args.tree.now one)) c.expr_around.ensures

pub operation-returns-then-levels-eq0 : goal.operation-returns-then-levels-eq0
operation-returns-then-levels-eq0 t c =
    subst (λ o. IfOk c.unary.result (λ e. e ≡ o)) (sym (level-zero (means.expr_within c.args.depth) c.args.levels c.args.tree.now c.if-levels-eq0.true)) c.unary.ensures

pub operation-returns : goal.operation-returns
operation-returns t c =
    let some = c.if-levels-eq0.false in
    let inner : Tree → Expr = means.expr_within c.args.depth in
    let l : ℕ = c.args.levels - 1 in
    let one : c.args.levels ≡ l + 1 = omega (arith, some) in
    let first : c.in_ok-first.first ≡ means.level_of inner l (kid 0 c.args.tree.now) = c.in_ok-first.ensures ∙ ap (λ k. means.level_of inner l k) c.kid.ensures in
    let is : means.chain_of inner (means.level_of inner l) c.in_ok-first.first c.kids_from.result.now ≡ means.level_of inner c.args.levels c.args.tree.now =
    ap (λ (ks : List Tree). means.chain_of inner (means.level_of inner l) c.in_ok-first.first ks) c.kids_from.ensures
    ∙ ap (λ x. means.chain_of inner (means.level_of inner l) x (drop 1 (kids_of c.args.tree.now))) first
    ∙ sym (level-more inner c.args.levels l c.args.tree.now one) in
    subst (λ o. IfOk c.chain.result (λ e. e ≡ o)) is c.chain.ensures

pub unary-returns-then-row-eq-UNARY_OPERATION : goal.unary-returns-then-row-eq-UNARY_OPERATION
unary-returns-then-row-eq-UNARY_OPERATION t c =
    let some = c.if-operators-gt0.true in
    let inner : Tree → Expr = means.expr_within c.args.depth in
    let n : ℕ = c.args.operators - 1 in
    let one : c.args.operators ≡ n + 1 = omega (arith, some) in
    let row : row_of c.args.tree.now ≡ R.UNARY_OPERATION = sym c.row.ensures ∙ c.if-row-eq-UNARY_OPERATION.true in
    subst (λ o. IfOk c.operated.result (λ e. e ≡ o)) (sym (unary-more inner c.args.operators n c.args.tree.now one row)) c.operated.ensures

pub unary-returns : goal.unary-returns
unary-returns t c =
    let inner : Tree → Expr = means.expr_within c.args.depth in
    let is : means.unary_within inner c.args.operators c.args.tree.now ≡ means.primary_of inner (kid 0 c.args.tree.now) =
    elim c.else-operators-gt0.branch [
      | unary-else-operators-gt0-via-then-operators-gt0+else-row-eq-UNARY_OPERATION w ↦
          unary-other inner c.args.operators c.args.tree.now (λ e. w.if-row-eq-UNARY_OPERATION.false (w.row.ensures ∙ e))
      | unary-else-operators-gt0-via-else-operators-gt0 w ↦
          let none = w.if-operators-gt0.false in unary-zero inner c.args.operators c.args.tree.now (omega (arith, none))
    ] in
    subst (λ o. IfOk c.primary.result (λ e. e ≡ o)) (ap (λ k. means.primary_of inner k) c.kid.ensures ∙ sym is) c.primary.ensures
