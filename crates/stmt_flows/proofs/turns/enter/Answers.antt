use Rattle.std.proofs.Common.{◌≡◌, ◌∷◌, [], ap, sym, ◌∙◌, subst}
use Rattle.std.proofs.lemmas.Bool.{and_parts}
use Rattle.std.proofs.lemmas.Result.{err_from_is_err_and}
use Rattle.sv_types.specs.Layouts.{layout}
use Rattle.sv_types.specs.Operators.{assigned_to}
use Rattle.sv_types.specs.Expressions.{meaning}
use Rattle.eval_forms.specs.Callees.{formals_in}
use Rattle.expr_flows.specs.Full.{is_full, all_full}
use Rattle.expr_flows.specs.Known.{sight_in}
use Rattle.part_flows.specs.Values.{NextIs}
use Rattle.stmt_flows.specs.Long.{entered}
use Rattle.stmt_flows.specs.Turns.{loop_of, variable_of}
use Rattle.stmt_flows.proofs.Turning as T
use Rattle.stmt_flows.proofs.turns.enter.Goals as goal

pub next_value-requires-clause-full : goal.next_value-requires-clause-full
next_value-requires-clause-full c =
    let fs = formals_in c.args.known.functions.now in
    let a = c.args.control in
    (and_parts (is_full fs a.first.now) (all_full fs (a.test.now ∷ a.step.now ∷ [])) c.requires.full).0

pub returns-in_err-next_value : goal.returns-in_err-next_value
returns-in_err-next_value c =
    let p = err_from_is_err_and c.from_residual.result c.from_residual.ensures.1 in
    T.enter-fails c.from_residual.result c.in_err-next_value.field-0.0 p.0 c.args.known c.args.control p.1 p.2 c.in_err-next_value.ensures

pub returns-in-None : goal.returns-in-None
returns-in-None c = subst (λ o. NextIs o c.args.known c.args.control.first.now.of c.args.control.first.now) c.in-None.is c.in_ok-next_value.ensures

pub returns-in_ok-hold-in-Some : goal.returns-in_ok-hold-in-Some
returns-in_ok-hold-in-Some c =
    let k = c.args.known in
    let a = c.args.control in
    let fs = k.functions.now in
    let ws = k.variables.now in
    let v = c.variable_in-v.result in
    let vs = c.in_ok-variables-in-Some.variables.items in
    let bits = c.in-Some.first in
    let old = c.in_ok-locals-in-Some.locals.items in
    let new = c.hold.new.locals.items in
    let same : old ≡ k.locals.now = c.in_ok-locals-in-Some.ensures in
    let n = subst (λ o. NextIs o k a.first.now.of a.first.now) c.in-Some.is c.in_ok-next_value.ensures in
    let list : vs ≡ v ∷ ws = c.in_ok-variables-in-Some.ensures in
    let value = subst (λ xs. bits ≡ assigned_to (layout a.first.now.of).two_state (meaning a.first.now) (sight_in fs xs ws).around) (sym same) n.1 in
    record {
      constant = n.0;
      sees = λ b. subst (λ xs. sight_in fs new vs ≡ entered (loop_of a b) (sight_in fs xs ws)) same (T.entered-is fs a b v vs ws bits old new c.variable_in-v.ensures list c.in_ok-hold-in-Some.ensures value);
      inside = T.inside-first (variable_of a) vs ws (list ∙ ap (λ x. x ∷ ws) c.variable_in-v.ensures);
    }
