use Rattle.std.proofs.Common.{List, ◌++◌, map, ap, ◌∙◌}
use Rattle.v_tree.specs.declared.expressions.VExpr.{VExpr}
use Rattle.v_tree.specs.declared.expressions.VSel.{VSel}
use Rattle.v_meaning.specs.Values.{meaning, sel_meaning, all_names, sel_names}
use Rattle.v_eval.specs.Scopes.{scope_of}
use Rattle.v_names.proofs.Exprs.{name-added, call-added, repeat-added, concat-added, sign-added, unary-added, binary-added, choose-added}
use Rattle.v_names.proofs.expressions.+names.Goals as goal

pub expr_names-returns-in_ok-prim_names-in-Unary : goal.expr_names-returns-in_ok-prim_names-in-Unary
expr_names-returns-in_ok-prim_names-in-Unary t c =
    unary-added c.args.e.now c.in-Unary.op c.in-Unary.of c.args.to.now c.prim_names-in-Unary.new.to (scope_of c.args.scope) c.in-Unary.is c.in_ok-prim_names-in-Unary.ensures

pub expr_names-returns-in_ok-prim_names-in-Binary-2 : goal.expr_names-returns-in_ok-prim_names-in-Binary-2
expr_names-returns-in_ok-prim_names-in-Binary-2 t c =
    binary-added c.args.e.now c.in-Binary.op c.in-Binary.left c.in-Binary.right c.args.to.now c.prim_names-in-Binary.new.to c.prim_names-in-Binary-2.new.to (scope_of c.args.scope) c.in-Binary.is
    c.in_ok-prim_names-in-Binary.ensures c.in_ok-prim_names-in-Binary-2.ensures

pub expr_names-returns-in_ok-prim_names-in-Choose-3 : goal.expr_names-returns-in_ok-prim_names-in-Choose-3
expr_names-returns-in_ok-prim_names-in-Choose-3 t c =
    choose-added c.args.e.now c.in-Choose.on c.in-Choose.then c.in-Choose.other c.args.to.now c.prim_names-in-Choose.new.to c.prim_names-in-Choose-2.new.to c.prim_names-in-Choose-3.new.to (scope_of c.args.scope)
    c.in-Choose.is c.in_ok-prim_names-in-Choose.ensures c.in_ok-prim_names-in-Choose-2.ensures c.in_ok-prim_names-in-Choose-3.ensures

pub prim_names-returns-in_ok-sels_names-in-Name : goal.prim_names-returns-in_ok-sels_names-in-Name
prim_names-returns-in_ok-sels_names-in-Name t c =
    name-added c.args.prim.now c.in-Name.name c.in-Name.sels c.args.to.now c.push.new.self c.sels_names.new.to c.number_of.result c.find.result c.args.scope c.in-Name.is c.in_ok-push-in-Name.ensures.ok c.number_of.ensures
    c.find.ensures (c.in_ok-sels_names-in-Name.ensures ∙ ap (λ (ss : List VSel). c.push.new.self ++ sel_names (map sel_meaning ss) (scope_of c.args.scope)) c.as_slice.ensures)

pub prim_names-returns-in_ok-all_names-in-Call : goal.prim_names-returns-in_ok-all_names-in-Call
prim_names-returns-in_ok-all_names-in-Call t c =
    call-added c.args.prim.now c.in-Call.function c.in-Call.args c.args.to.now c.all_names.new.to (scope_of c.args.scope) c.in-Call.is
    (c.in_ok-all_names-in-Call.ensures ∙ ap (λ (xs : List VExpr). c.args.to.now ++ all_names (map meaning xs) (scope_of c.args.scope)) c.as_slice-in-Call.ensures)

pub prim_names-returns-in_ok-all_names-in-Repeat : goal.prim_names-returns-in_ok-all_names-in-Repeat
prim_names-returns-in_ok-all_names-in-Repeat t c =
    repeat-added c.args.prim.now c.in-Repeat.count c.in-Repeat.items c.args.to.now c.all_names-in-Repeat.new.to (scope_of c.args.scope) c.in-Repeat.is
    (c.in_ok-all_names-in-Repeat.ensures ∙ ap (λ (xs : List VExpr). c.args.to.now ++ all_names (map meaning xs) (scope_of c.args.scope)) c.as_slice-in-Repeat.ensures)

pub prim_names-returns-in_ok-all_names-in-Concat : goal.prim_names-returns-in_ok-all_names-in-Concat
prim_names-returns-in_ok-all_names-in-Concat t c =
    concat-added c.args.prim.now c.in-Concat.items c.args.to.now c.all_names-in-Concat.new.to (scope_of c.args.scope) c.in-Concat.is
    (c.in_ok-all_names-in-Concat.ensures ∙ ap (λ (xs : List VExpr). c.args.to.now ++ all_names (map meaning xs) (scope_of c.args.scope)) c.as_slice-in-Concat.ensures)

pub prim_names-returns-in_ok-expr_names-in-Sign : goal.prim_names-returns-in_ok-expr_names-in-Sign
prim_names-returns-in_ok-expr_names-in-Sign t c =
    sign-added c.args.prim.now c.in-Sign.signed c.in-Sign.of c.args.to.now c.expr_names-in-Sign.new.to (scope_of c.args.scope) c.in-Sign.is
    (c.in_ok-expr_names-in-Sign.ensures ∙ ap (λ (x : VExpr). c.args.to.now ++ (meaning x).names (scope_of c.args.scope)) c.get-in-Sign.ensures)
