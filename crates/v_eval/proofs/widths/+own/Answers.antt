use Rattle.v_eval.specs.Scopes.{scope_of}
use Rattle.v_eval.proofs.Levels.{own-unary, own-binary, own-choose, own-call, limits-call}
use Rattle.v_eval.proofs.widths.+own.Goals as goal

pub own-returns-in_ok-prim_own-in-Unary-clause-meaning : goal.own-returns-in_ok-prim_own-in-Unary-clause-meaning
own-returns-in_ok-prim_own-in-Unary-clause-meaning t c =
    own-unary c.prefix_own.result c.in_ok-prim_own-in-Unary.field-0 c.prefix_of.result c.args.e.now c.in-Unary.op c.in-Unary.of (scope_of c.args.scope) c.in-Unary.is c.prefix_own.ensures c.prefix_of.ensures c.in_ok-prim_own-in-Unary.ensures.meaning

pub own-returns-in_ok-r-in-Binary-clause-meaning : goal.own-returns-in_ok-r-in-Binary-clause-meaning
own-returns-in_ok-r-in-Binary-clause-meaning t c =
    own-binary c.infix_own.result c.in_ok-l-in-Binary.l c.in_ok-r-in-Binary.r c.infix_of.result c.args.e.now c.in-Binary.op c.in-Binary.left c.in-Binary.right (scope_of c.args.scope) c.in-Binary.is c.infix_own.ensures c.infix_of.ensures
    c.in_ok-l-in-Binary.ensures.meaning c.in_ok-r-in-Binary.ensures.meaning

pub own-returns-in_ok-b-in-Choose-clause-meaning : goal.own-returns-in_ok-b-in-Choose-clause-meaning
own-returns-in_ok-b-in-Choose-clause-meaning t c =
    own-choose c.larger.result c.in_ok-a-in-Choose.a c.in_ok-b-in-Choose.b c.args.e.now c.in-Choose.on c.in-Choose.then c.in-Choose.other (scope_of c.args.scope) c.in-Choose.is c.larger.ensures c.in_ok-a-in-Choose.ensures.meaning
    c.in_ok-b-in-Choose.ensures.meaning

pub prim_own-returns-in-Call-clause-meaning : goal.prim_own-returns-in-Call-clause-meaning
prim_own-returns-in-Call-clause-meaning t c =
    own-call c.unsigned-in-Call.result c.args.prim.now c.in-Call.function c.in-Call.args c.call_wide.result c.function.result c.args.scope c.in-Call.is c.unsigned-in-Call.ensures c.call_wide.ensures c.function.ensures

pub prim_own-returns-in-Call-clause-limits : goal.prim_own-returns-in-Call-clause-limits
prim_own-returns-in-Call-clause-limits t c =
    limits-call c.unsigned-in-Call.result c.args.prim.now c.in-Call.function c.in-Call.args c.call_wide.result c.function.result c.args.scope c.in-Call.is c.unsigned-in-Call.ensures c.call_wide.ensures c.function.ensures
