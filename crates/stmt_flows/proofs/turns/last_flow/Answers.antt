use Rattle.std.proofs.Common.{◌∷◌, [], sym, subst}
use Rattle.std.proofs.lemmas.Bool.{and_parts}
use Rattle.std.proofs.lemmas.Result.{err_from_is_err_and}
use Rattle.eval_forms.specs.Callees.{formals_in}
use Rattle.flow_sets.specs.Flows.{IsFlow}
use Rattle.expr_flows.specs.Full.{is_full, all_full}
use Rattle.expr_flows.specs.Known.{sight}
use Rattle.part_flows.specs.Values.{TestIs}
use Rattle.stmt_flows.specs.Turns.{loop_of}
use Rattle.stmt_flows.proofs.Turning as T
use Rattle.stmt_flows.proofs.turns.last_flow.Goals as goal

pub tested-requires-clause-full : goal.tested-requires-clause-full
tested-requires-clause-full c =
    let fs = formals_in c.args.known.functions.now in
    let a = c.args.control in
    let rest = (and_parts (is_full fs a.first.now) (all_full fs (a.test.now ∷ a.step.now ∷ [])) c.requires.full).1 in
    (and_parts (is_full fs a.test.now) (all_full fs (a.step.now ∷ [])) rest).0

pub returns-in_err-tested-clause-gives : goal.returns-in_err-tested-clause-gives
returns-in_err-tested-clause-gives c = λ b.
    let p = err_from_is_err_and c.from_residual.result c.from_residual.ensures.1 in
    T.last-fails c.from_residual.result c.in_err-tested.field-0.0 p.0 c.args.known (loop_of c.args.control b) p.1 p.2 c.in_err-tested.ensures

pub returns-in-None-clause-gives : goal.returns-in-None-clause-gives
returns-in-None-clause-gives c = λ b.
    let h = sight c.args.known in
    let l = loop_of c.args.control b in
    let none = subst (λ o. TestIs o c.args.known c.args.control.test.now) c.in-None.is c.in_ok-tested.ensures in
    (c.idle.ensures.known, subst (IsFlow c.idle.result) (sym (T.last-unknown l h none)) c.idle.ensures.flow)

pub returns-in-Some-clause-gives : goal.returns-in-Some-clause-gives
returns-in-Some-clause-gives c = λ b.
    let h = sight c.args.known in
    let l = loop_of c.args.control b in
    let some = subst (λ o. TestIs o c.args.known c.args.control.test.now) c.in-Some.is c.in_ok-tested.ensures in
    (c.idle-in-Some.ensures.known, T.last-known c.idle-in-Some.result l h c.in-Some.goes_on some.0 some.1 c.idle-in-Some.ensures.flow)
