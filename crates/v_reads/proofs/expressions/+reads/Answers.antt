use Rattle.std.proofs.Common.{List, map, ap}
use Rattle.v_tree.specs.declared.expressions.VExpr.{VExpr}
use Rattle.v_tree.specs.declared.expressions.VSel.{VSel}
use Rattle.v_meaning.specs.Values.{meaning, sel_meaning, all_reads, sel_reads}
use Rattle.v_eval.specs.Scopes.{scope_of}
use Rattle.v_reads.proofs.Sets.{adds-equal}
use Rattle.v_reads.proofs.Exprs.{number-added, name-added, call-added, repeat-added, concat-added, sign-added, unary-added, binary-added, choose-added}
use Rattle.v_reads.proofs.expressions.+reads.Goals as goal

pub expr_reads-returns-in_ok-prim_reads-in-Unary : goal.expr_reads-returns-in_ok-prim_reads-in-Unary
expr_reads-returns-in_ok-prim_reads-in-Unary t c =
    unary-added c.args.e.now c.in-Unary.op c.in-Unary.of c.args.to.now c.prim_reads-in-Unary.new.to (scope_of c.args.scope) c.in-Unary.is c.in_ok-prim_reads-in-Unary.ensures

pub expr_reads-returns-in_ok-prim_reads-in-Binary-2 : goal.expr_reads-returns-in_ok-prim_reads-in-Binary-2
expr_reads-returns-in_ok-prim_reads-in-Binary-2 t c =
    binary-added c.args.e.now c.in-Binary.op c.in-Binary.left c.in-Binary.right c.args.to.now c.prim_reads-in-Binary.new.to c.prim_reads-in-Binary-2.new.to (scope_of c.args.scope) c.in-Binary.is
    c.in_ok-prim_reads-in-Binary.ensures c.in_ok-prim_reads-in-Binary-2.ensures

pub expr_reads-returns-in_ok-prim_reads-in-Choose-3 : goal.expr_reads-returns-in_ok-prim_reads-in-Choose-3
expr_reads-returns-in_ok-prim_reads-in-Choose-3 t c =
    choose-added c.args.e.now c.in-Choose.on c.in-Choose.then c.in-Choose.other c.args.to.now c.prim_reads-in-Choose.new.to c.prim_reads-in-Choose-2.new.to c.prim_reads-in-Choose-3.new.to (scope_of c.args.scope)
    c.in-Choose.is c.in_ok-prim_reads-in-Choose.ensures c.in_ok-prim_reads-in-Choose-2.ensures c.in_ok-prim_reads-in-Choose-3.ensures

pub prim_reads-returns-in_ok-sels_reads-in-Name : goal.prim_reads-returns-in_ok-sels_reads-in-Name
prim_reads-returns-in_ok-sels_reads-in-Name t c =
    name-added c.args.prim.now c.in-Name.name c.in-Name.sels c.args.to.now c.push.new.self c.sels_reads.new.to c.number_of.result c.find.result c.args.scope c.in-Name.is c.in_ok-push-in-Name.ensures.ok c.number_of.ensures
    c.find.ensures (adds-equal c.push.new.self c.sels_reads.new.to _ _ c.in_ok-sels_reads-in-Name.ensures (ap (λ (ss : List VSel). sel_reads (map sel_meaning ss) (scope_of c.args.scope)) c.as_slice.ensures))

pub prim_reads-returns-in_ok-callee_reads-in-Call : goal.prim_reads-returns-in_ok-callee_reads-in-Call
prim_reads-returns-in_ok-callee_reads-in-Call t c =
    call-added c.args.prim.now c.in-Call.function c.in-Call.args c.args.to.now c.all_reads.new.to c.callee_reads.new.to c.function.result c.args.scope c.in-Call.is
    (adds-equal c.args.to.now c.all_reads.new.to _ _ c.in_ok-all_reads-in-Call.ensures (ap (λ (xs : List VExpr). all_reads (map meaning xs) (scope_of c.args.scope)) c.as_slice-in-Call.ensures))
    c.in_ok-callee_reads-in-Call.ensures c.function.ensures

pub prim_reads-returns-in_ok-all_reads-in-Repeat : goal.prim_reads-returns-in_ok-all_reads-in-Repeat
prim_reads-returns-in_ok-all_reads-in-Repeat t c =
    repeat-added c.args.prim.now c.in-Repeat.count c.in-Repeat.items c.args.to.now c.all_reads-in-Repeat.new.to (scope_of c.args.scope) c.in-Repeat.is
    (adds-equal c.args.to.now c.all_reads-in-Repeat.new.to _ _ c.in_ok-all_reads-in-Repeat.ensures (ap (λ (xs : List VExpr). all_reads (map meaning xs) (scope_of c.args.scope)) c.as_slice-in-Repeat.ensures))

pub prim_reads-returns-in_ok-all_reads-in-Concat : goal.prim_reads-returns-in_ok-all_reads-in-Concat
prim_reads-returns-in_ok-all_reads-in-Concat t c =
    concat-added c.args.prim.now c.in-Concat.items c.args.to.now c.all_reads-in-Concat.new.to (scope_of c.args.scope) c.in-Concat.is
    (adds-equal c.args.to.now c.all_reads-in-Concat.new.to _ _ c.in_ok-all_reads-in-Concat.ensures (ap (λ (xs : List VExpr). all_reads (map meaning xs) (scope_of c.args.scope)) c.as_slice-in-Concat.ensures))

pub prim_reads-returns-in_ok-expr_reads-in-Sign : goal.prim_reads-returns-in_ok-expr_reads-in-Sign
prim_reads-returns-in_ok-expr_reads-in-Sign t c =
    sign-added c.args.prim.now c.in-Sign.signed c.in-Sign.of c.args.to.now c.expr_reads-in-Sign.new.to (scope_of c.args.scope) c.in-Sign.is
    (adds-equal c.args.to.now c.expr_reads-in-Sign.new.to _ _ c.in_ok-expr_reads-in-Sign.ensures (ap (λ (x : VExpr). (meaning x).reads (scope_of c.args.scope)) c.get-in-Sign.ensures))

pub prim_reads-returns-in-Number : goal.prim_reads-returns-in-Number
prim_reads-returns-in-Number t c = number-added c.args.prim.now c.in-Number.field-0 c.args.to.now (scope_of c.args.scope) c.in-Number.is
