use Rattle.std.proofs.Common.{List, [], ◌++◌, map, Option, sym, ap, ◌∙◌}
use Rattle.v_tree.specs.declared.items.VLocal.{VLocal}
use Rattle.v_tree.specs.declared.statements.VCaseItem.{VCaseItem}
use Rattle.v_tree.specs.declared.statements.VLabel.{VLabel}
use Rattle.v_tree.specs.declared.statements.VStmt.{VStmt}
use Rattle.v_footprints.specs.Footprints.{uses}
use Rattle.v_meaning.specs.Values.{meaning}
use Rattle.v_meaning.specs.Statements.{doing, doing_of, sequence, inside, locals_of, otherwise, target}
use Rattle.v_eval.specs.Scopes.{scope_of}
use Rattle.v_reads.specs.Reads.{item_of, items_read, else_doing}
use Rattle.v_reads.proofs.Sets.{adds-equal, adds-same, adds-then}
use Rattle.v_reads.proofs.Forms.{block-reads, if-reads, case-reads, assign-reads}
use Rattle.v_reads.proofs.statements.+reads.Goals as goal

pub stmt_reads-returns-in_ok-block_reads-in-None : goal.stmt_reads-returns-in_ok-block_reads-in-None
stmt_reads-returns-in_ok-block_reads-in-None t c =
    let sc = scope_of c.args.scope in
    let ss = c.in-Block.stmts in
    adds-equal c.args.to.now c.block_reads.new.to _ _ c.in_ok-block_reads-in-None.ensures
    (ap (λ (l : List VStmt). (sequence (map doing l)).reads (inside [] sc)) c.as_slice.ensures
    ∙ sym (ap (λ (s : VStmt). (doing s).reads sc) c.in-Block.is ∙ block-reads c.in-Block.label ss sc ∙ ap (λ (l : Option VLabel). (sequence (map doing ss)).reads (inside (locals_of l) sc)) c.in-None.is))

pub stmt_reads-returns-in_ok-block_reads-in-Some : goal.stmt_reads-returns-in_ok-block_reads-in-Some
stmt_reads-returns-in_ok-block_reads-in-Some t c =
    let sc = scope_of c.args.scope in
    let ss = c.in-Block.stmts in
    adds-equal c.args.to.now c.block_reads-in-Some.new.to _ _ c.in_ok-block_reads-in-Some.ensures
    (ap (λ (ls : List VLocal). (sequence (map doing c.as_slice-in-Some.result.now)).reads (inside ls sc)) c.as_slice-locals.ensures
    ∙ ap (λ (l : List VStmt). (sequence (map doing l)).reads (inside c.in-Some.label.locals sc)) c.as_slice-in-Some.ensures
    ∙ sym (ap (λ (s : VStmt). (doing s).reads sc) c.in-Block.is ∙ block-reads c.in-Block.label ss sc ∙ ap (λ (l : Option VLabel). (sequence (map doing ss)).reads (inside (locals_of l) sc)) c.in-Some.is))

pub stmt_reads-returns-in_ok-else_reads-in-If : goal.stmt_reads-returns-in_ok-else_reads-in-If
stmt_reads-returns-in_ok-else_reads-in-If t c =
    let sc = scope_of c.args.scope in
    let on = (meaning c.in-If.on).reads sc in
    let taken = (doing_of c.in-If.then).reads sc in
    let other = (else_doing c.in-If.other).reads sc in
    adds-same c.args.to.now c.else_reads.new.to (on ++ (taken ++ other)) _
    (adds-then c.args.to.now c.expr_reads.new.to c.else_reads.new.to on (taken ++ other) c.in_ok-expr_reads-in-If.ensures
    (adds-then c.expr_reads.new.to c.branch_reads.new.to c.else_reads.new.to taken other c.in_ok-branch_reads-in-If.ensures c.in_ok-else_reads-in-If.ensures))
    (λ n. if-reads c.in-If.on c.in-If.then c.in-If.other sc n ∙ sym (ap (λ (s : VStmt). uses ((doing s).reads sc) n) c.in-If.is))

pub stmt_reads-returns-in_ok-other_reads-in-Case : goal.stmt_reads-returns-in_ok-other_reads-in-Case
stmt_reads-returns-in_ok-other_reads-in-Case t c =
    let sc = scope_of c.args.scope in
    let cs = c.in-Case.items in
    let on = (meaning c.in-Case.on).reads sc in
    let items = items_read (map item_of cs) sc in
    let other = (otherwise (map item_of cs)).reads sc in
    adds-same c.args.to.now c.other_reads.new.to (on ++ (items ++ other)) _
    (adds-then c.args.to.now c.expr_reads-in-Case.new.to c.other_reads.new.to on (items ++ other) c.in_ok-expr_reads-in-Case.ensures
    (adds-then c.expr_reads-in-Case.new.to c.items_reads.new.to c.other_reads.new.to items other
    (adds-equal c.expr_reads-in-Case.new.to c.items_reads.new.to _ items c.in_ok-items_reads-in-Case.ensures (ap (λ (l : List VCaseItem). items_read (map item_of l) sc) c.as_slice-in-Case.ensures))
    (adds-equal c.items_reads.new.to c.other_reads.new.to _ other c.in_ok-other_reads-in-Case.ensures (ap (λ (l : List VCaseItem). (otherwise (map item_of l)).reads sc) c.as_slice-in-Case-2.ensures))))
    (λ n. case-reads c.in-Case.kind c.in-Case.on cs sc n ∙ sym (ap (λ (s : VStmt). uses ((doing s).reads sc) n) c.in-Case.is))

pub stmt_reads-returns-in_ok-lval_reads-in-Assign : goal.stmt_reads-returns-in_ok-lval_reads-in-Assign
stmt_reads-returns-in_ok-lval_reads-in-Assign t c =
    let sc = scope_of c.args.scope in
    let value = (meaning c.in-Assign.value).reads sc in
    let to = (target c.in-Assign.target).reads sc in
    adds-equal c.args.to.now c.lval_reads.new.to (value ++ to) _
    (adds-then c.args.to.now c.expr_reads-in-Assign.new.to c.lval_reads.new.to value to c.in_ok-expr_reads-in-Assign.ensures c.in_ok-lval_reads-in-Assign.ensures)
    (assign-reads c.in-Assign.target c.in-Assign.value c.in-Assign.later sc ∙ sym (ap (λ (s : VStmt). (doing s).reads sc) c.in-Assign.is))
