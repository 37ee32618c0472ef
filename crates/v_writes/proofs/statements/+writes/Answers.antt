use Rattle.std.proofs.Common.{rules, ◌≡◌, ◌≤◌, ◌+◌, true, false, List, [], ◌∷◌, ◌++◌, map, drop, Option, arith, sym, ap, ◌∙◌, subst, append_assoc, not}
use Rattle.std.specs.Prelude.{cond}
use Rattle.v_tree.specs.declared.items.VLocal.{VLocal}
use Rattle.v_tree.specs.declared.statements.VCaseItem.{VCaseItem}
use Rattle.v_tree.specs.declared.statements.VLabel.{VLabel}
use Rattle.v_tree.specs.declared.statements.VStmt.{VStmt}
use Rattle.v_tree.specs.declared.statements.VStmt.TheVariants as T
use Rattle.v_meaning.specs.Statements.{Doing, doing, doing_of, sequence, inside, locals_of, otherwise}
use Rattle.eval_store.proofs.Storing.{on-ok}
use Rattle.v_eval.specs.Scopes.{scope_of}
use Rattle.v_eval.proofs.Loops.{at-front}
use Rattle.v_exec.specs.Choices.{item_of}
use Rattle.v_exec.specs.Limits.{limits_of_item, bodies_in, most_in_turn}
use Rattle.v_writes.specs.Writes.{use_in, made, items_made}
use Rattle.v_writes.proofs.Made as P
use Rattle.v_writes.proofs.statements.+writes.Goals as goal

pub other_writes-returns-in-Default : goal.other_writes-returns-in-Default
other_writes-returns-in-Default g t c =
    let sc = scope_of c.args.scope in
    let l = c.args.later in
    let items = c.args.items.now in
    let i = c.loop-item.item-index in
    let x = c.item-item.result in
    let rest = drop (i + 1) items in
    let front = at-front items i x (omega arith) c.item-item.is in
    on-ok
    (λ h. h ∙ ap (λ ws. map use_in ws ++ made l (doing_of c.in-Default.body) sc) c.loop-item.invariant.same
    ∙ ap (λ u. map use_in c.args.to.now ++ u)
    (ap (λ (d : Doing). made l d sc) (sym (P.otherwise-here c.in-Default.body rest)) ∙ ap (λ (y : VCaseItem). made l (otherwise (map item_of (y ∷ rest))) sc) (sym c.in-Default.is)
    ∙ ap (λ (xs : List VCaseItem). made l (otherwise (map item_of xs)) sc) (sym front) ∙ c.loop-item.invariant.writes))
    c.branch_writes.result c.branch_writes.ensures

pub other_writes-loop-item-preserved : goal.other_writes-loop-item-preserved
other_writes-loop-item-preserved g t c =
    let sc = scope_of c.args.scope in
    let l = c.args.later in
    let items = c.args.items.now in
    let i = c.loop-item.item-index in
    let x = c.item-item.result in
    let rest = drop (i + 1) items in
    let front = at-front items i x (omega arith) c.item-item.is in
    let narrow = subst (λ (xs : List VCaseItem). most_in_turn (bodies_in (map limits_of_item xs)) sc ≤ 128) front c.loop-item.invariant.narrow in
    record {
      same = c.loop-item.invariant.same;
      writes =
          ap (λ (d : Doing). made l d sc) (sym (P.otherwise-later c.in-Item.values c.in-Item.body rest)) ∙ ap (λ (y : VCaseItem). made l (otherwise (map item_of (y ∷ rest))) sc) (sym c.in-Item.is)
          ∙ ap (λ (xs : List VCaseItem). made l (otherwise (map item_of xs)) sc) (sym front) ∙ c.loop-item.invariant.writes;
      narrow = omega (arith, narrow);
    }

pub stmt_writes-returns-in-None : goal.stmt_writes-returns-in-None
stmt_writes-returns-in-None g t c =
    let sc = scope_of c.args.scope in
    let l = c.args.later in
    let ss = c.in-Block.stmts in
    on-ok
    (λ h. h ∙ ap (λ u. map use_in c.args.to.now ++ u)
    (ap (λ (xs : List VStmt). made l (sequence (map doing xs)) (inside [] sc)) c.as_slice.ensures
    ∙ sym (ap (λ (s : VStmt). made l (doing s) sc) c.in-Block.is ∙ P.block-made l c.in-Block.label ss sc ∙ ap (λ (o : Option VLabel). made l (sequence (map doing ss)) (inside (locals_of o) sc)) c.in-None.is)))
    c.block_writes.result c.block_writes.ensures

pub stmt_writes-returns-in-Some : goal.stmt_writes-returns-in-Some
stmt_writes-returns-in-Some g t c =
    let sc = scope_of c.args.scope in
    let l = c.args.later in
    let ss = c.in-Block.stmts in
    on-ok
    (λ h. h ∙ ap (λ u. map use_in c.args.to.now ++ u)
    (ap (λ (ls : List VLocal). made l (sequence (map doing c.as_slice-in-Some.result.now)) (inside ls sc)) c.as_slice-locals.ensures
    ∙ ap (λ (xs : List VStmt). made l (sequence (map doing xs)) (inside c.in-Some.label.locals sc)) c.as_slice-in-Some.ensures
    ∙ sym (ap (λ (s : VStmt). made l (doing s) sc) c.in-Block.is ∙ P.block-made l c.in-Block.label ss sc ∙ ap (λ (o : Option VLabel). made l (sequence (map doing ss)) (inside (locals_of o) sc)) c.in-Some.is)))
    c.block_writes-in-Some.result c.block_writes-in-Some.ensures

pub stmt_writes-returns-in-None-other : goal.stmt_writes-returns-in-None-other
stmt_writes-returns-in-None-other g t c =
    let sc = scope_of c.args.scope in
    c.in_ok-branch_writes-in-If.ensures
    ∙ ap (λ u. map use_in c.args.to.now ++ u)
    (P.none-made c.args.later c.in-If.on c.in-If.then sc ∙ sym (ap (λ (s : VStmt). made c.args.later (doing s) sc) (c.in-If.is ∙ ap (T.If c.in-If.on c.in-If.then) c.in-None-other.is)))

pub stmt_writes-returns-in-Some-other : goal.stmt_writes-returns-in-Some-other
stmt_writes-returns-in-Some-other g t c =
    let sc = scope_of c.args.scope in
    let l = c.args.later in
    let x = c.in-Some-other.other in
    on-ok
    (λ h. h ∙ ap (λ u. u ++ made l (doing_of x) sc) c.in_ok-branch_writes-in-If.ensures ∙ append_assoc (map use_in c.args.to.now) (made l (doing_of c.in-If.then) sc) (made l (doing_of x) sc)
    ∙ ap (λ u. map use_in c.args.to.now ++ u)
    (sym (ap (λ (s : VStmt). made l (doing s) sc) (c.in-If.is ∙ ap (T.If c.in-If.on c.in-If.then) c.in-Some-other.is) ∙ P.else-made l c.in-If.on c.in-If.then x sc)))
    c.branch_writes-in-Some-other.result c.branch_writes-in-Some-other.ensures

pub stmt_writes-returns-in_ok-items_writes-in-Case : goal.stmt_writes-returns-in_ok-items_writes-in-Case
stmt_writes-returns-in_ok-items_writes-in-Case g t c =
    let sc = scope_of c.args.scope in
    let l = c.args.later in
    let cs = c.in-Case.items in
    on-ok
    (λ h. h ∙ ap (λ u. u ++ made l (otherwise (map item_of c.as_slice-in-Case-2.result.now)) sc) c.in_ok-items_writes-in-Case.ensures
    ∙ append_assoc (map use_in c.args.to.now) (items_made l (map item_of c.as_slice-in-Case.result.now) sc) (made l (otherwise (map item_of c.as_slice-in-Case-2.result.now)) sc)
    ∙ ap (λ u. map use_in c.args.to.now ++ u)
    (ap (λ (xs : List VCaseItem). items_made l (map item_of xs) sc ++ made l (otherwise (map item_of c.as_slice-in-Case-2.result.now)) sc) c.as_slice-in-Case.ensures
    ∙ ap (λ (xs : List VCaseItem). items_made l (map item_of cs) sc ++ made l (otherwise (map item_of xs)) sc) c.as_slice-in-Case-2.ensures
    ∙ sym (ap (λ (s : VStmt). made l (doing s) sc) c.in-Case.is ∙ P.case-made l c.in-Case.kind c.in-Case.on cs sc)))
    c.other_writes.result c.other_writes.ensures

pub stmt_writes-returns-then-is_same : goal.stmt_writes-returns-then-is_same
stmt_writes-returns-then-is_same g t c =
    let sc = scope_of c.args.scope in
    let same : cond c.in-Assign.is_later c.args.later (not c.args.later) ≡ true = search rules in
    on-ok
    (λ h. h ∙ ap (λ u. map use_in c.args.to.now ++ u)
    (P.assign-made c.args.later c.in-Assign.is_later c.in-Assign.target c.in-Assign.value sc same ∙ sym (ap (λ (s : VStmt). made c.args.later (doing s) sc) c.in-Assign.is)))
    c.lval_writes.result c.lval_writes.ensures

pub stmt_writes-returns-else-is_same : goal.stmt_writes-returns-else-is_same
stmt_writes-returns-else-is_same g t c =
    let sc = scope_of c.args.scope in
    let other : cond c.in-Assign.is_later c.args.later (not c.args.later) ≡ false = search rules in
    P.other-made c.args.later c.in-Assign.is_later c.in-Assign.target c.in-Assign.value sc (map use_in c.args.to.now) other
    ∙ ap (λ u. map use_in c.args.to.now ++ u) (sym (ap (λ (s : VStmt). made c.args.later (doing s) sc) c.in-Assign.is))
