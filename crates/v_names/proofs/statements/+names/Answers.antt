use Rattle.std.proofs.Common.{List, [], ◌++◌, map, Option, sym, ap, ◌∙◌}
use Rattle.v_tree.specs.declared.items.VLocal.{VLocal}
use Rattle.v_tree.specs.declared.statements.VCaseItem.{VCaseItem}
use Rattle.v_tree.specs.declared.statements.VLabel.{VLabel}
use Rattle.v_tree.specs.declared.statements.VStmt.{VStmt}
use Rattle.v_meaning.specs.Values.{meaning}
use Rattle.v_meaning.specs.Statements.{doing, doing_of, sequence, inside, locals_of, otherwise, target}
use Rattle.v_eval.specs.Scopes.{scope_of}
use Rattle.v_names.specs.Names.{is_among, item_of, items_named, else_doing}
use Rattle.v_names.proofs.Sets.{adds-equal, adds-same, adds-then, adds-list, block-names, if-names, case-names, assign-names}
use Rattle.v_names.proofs.statements.+names.Goals as goal

pub stmt_names-returns-in_ok-block_names-in-None : goal.stmt_names-returns-in_ok-block_names-in-None
stmt_names-returns-in_ok-block_names-in-None t c =
    let sc = scope_of c.args.scope in
    let ss = c.in-Block.stmts in
    adds-equal c.args.to.now c.block_names.new.to _ _ c.in_ok-block_names-in-None.ensures
    (ap (λ (l : List VStmt). (sequence (map doing l)).names (inside [] sc)) c.as_slice.ensures
    ∙ sym (ap (λ (s : VStmt). (doing s).names sc) c.in-Block.is ∙ block-names c.in-Block.label ss sc ∙ ap (λ (l : Option VLabel). (sequence (map doing ss)).names (inside (locals_of l) sc)) c.in-None.is))

pub stmt_names-returns-in_ok-block_names-in-Some : goal.stmt_names-returns-in_ok-block_names-in-Some
stmt_names-returns-in_ok-block_names-in-Some t c =
    let sc = scope_of c.args.scope in
    let ss = c.in-Block.stmts in
    adds-equal c.args.to.now c.block_names-in-Some.new.to _ _ c.in_ok-block_names-in-Some.ensures
    (ap (λ (ls : List VLocal). (sequence (map doing c.as_slice-in-Some.result.now)).names (inside ls sc)) c.as_slice-locals.ensures
    ∙ ap (λ (l : List VStmt). (sequence (map doing l)).names (inside c.in-Some.label.locals sc)) c.as_slice-in-Some.ensures
    ∙ sym (ap (λ (s : VStmt). (doing s).names sc) c.in-Block.is ∙ block-names c.in-Block.label ss sc ∙ ap (λ (l : Option VLabel). (sequence (map doing ss)).names (inside (locals_of l) sc)) c.in-Some.is))

pub stmt_names-returns-in_ok-else_names-in-If : goal.stmt_names-returns-in_ok-else_names-in-If
stmt_names-returns-in_ok-else_names-in-If t c =
    let sc = scope_of c.args.scope in
    let on = (meaning c.in-If.on).names sc in
    let taken = (doing_of c.in-If.then).names sc in
    let other = (else_doing c.in-If.other).names sc in
    adds-same c.args.to.now c.else_names.new.to (on ++ (taken ++ other)) _
    (adds-then c.args.to.now c.expr_names.new.to c.else_names.new.to on (taken ++ other) (adds-list c.args.to.now c.expr_names.new.to on c.in_ok-expr_names-in-If.ensures)
    (adds-then c.expr_names.new.to c.branch_names.new.to c.else_names.new.to taken other c.in_ok-branch_names-in-If.ensures c.in_ok-else_names-in-If.ensures))
    (λ n. if-names c.in-If.on c.in-If.then c.in-If.other sc n ∙ sym (ap (λ (s : VStmt). is_among ((doing s).names sc) n) c.in-If.is))

pub stmt_names-returns-in_ok-other_names-in-Case : goal.stmt_names-returns-in_ok-other_names-in-Case
stmt_names-returns-in_ok-other_names-in-Case t c =
    let sc = scope_of c.args.scope in
    let cs = c.in-Case.items in
    let on = (meaning c.in-Case.on).names sc in
    let items = items_named (map item_of cs) sc in
    let other = (otherwise (map item_of cs)).names sc in
    adds-same c.args.to.now c.other_names.new.to (on ++ (items ++ other)) _
    (adds-then c.args.to.now c.expr_names-in-Case.new.to c.other_names.new.to on (items ++ other) (adds-list c.args.to.now c.expr_names-in-Case.new.to on c.in_ok-expr_names-in-Case.ensures)
    (adds-then c.expr_names-in-Case.new.to c.items_names.new.to c.other_names.new.to items other
    (adds-equal c.expr_names-in-Case.new.to c.items_names.new.to _ items c.in_ok-items_names-in-Case.ensures (ap (λ (l : List VCaseItem). items_named (map item_of l) sc) c.as_slice-in-Case.ensures))
    (adds-equal c.items_names.new.to c.other_names.new.to _ other c.in_ok-other_names-in-Case.ensures (ap (λ (l : List VCaseItem). (otherwise (map item_of l)).names sc) c.as_slice-in-Case-2.ensures))))
    (λ n. case-names c.in-Case.kind c.in-Case.on cs sc n ∙ sym (ap (λ (s : VStmt). is_among ((doing s).names sc) n) c.in-Case.is))

pub stmt_names-returns-in_ok-lval_names-in-Assign : goal.stmt_names-returns-in_ok-lval_names-in-Assign
stmt_names-returns-in_ok-lval_names-in-Assign t c =
    let sc = scope_of c.args.scope in
    let value = (meaning c.in-Assign.value).names sc in
    let to = (target c.in-Assign.target).names sc in
    adds-equal c.args.to.now c.lval_names.new.to (value ++ to) _
    (adds-then c.args.to.now c.expr_names-in-Assign.new.to c.lval_names.new.to value to (adds-list c.args.to.now c.expr_names-in-Assign.new.to value c.in_ok-expr_names-in-Assign.ensures)
    (adds-list c.expr_names-in-Assign.new.to c.lval_names.new.to to c.in_ok-lval_names-in-Assign.ensures))
    (assign-names c.in-Assign.target c.in-Assign.value c.in-Assign.later sc ∙ sym (ap (λ (s : VStmt). (doing s).names sc) c.in-Assign.is))
