use Rattle.std.proofs.Common.{◌≡◌, ◌∷◌, [], length, ap, sym, ◌∙◌, subst}
use Rattle.std.proofs.lemmas.Bool.{and_parts}
use Rattle.std.proofs.lemmas.Result.{err_from_is_err_and}
use Rattle.sv_types.specs.Flows as F
use Rattle.sv_types.specs.Layouts.{layout}
use Rattle.sv_types.specs.Operators.{assigned_to}
use Rattle.sv_types.specs.Expressions.{meaning}
use Rattle.eval_forms.specs.Callees.{formals_in}
use Rattle.flow_sets.specs.Flows.{IsFlow}
use Rattle.expr_flows.specs.declared.known.Variable.{Variable}
use Rattle.expr_flows.specs.Full.{is_full, all_full}
use Rattle.expr_flows.specs.Known.{sight_in}
use Rattle.part_flows.specs.Values.{NextIs}
use Rattle.stmt_flows.specs.Turns.{loop_of, marks_of_control}
use Rattle.stmt_flows.proofs.Turning as T
use Rattle.stmt_flows.proofs.turns.after_body.Goals as goal

pub next_value-requires-clause-full : goal.next_value-requires-clause-full
next_value-requires-clause-full c =
    let fs = formals_in c.args.known.functions.now in
    let a = c.args.control in
    let rest = (and_parts (is_full fs a.first.now) (all_full fs (a.test.now ∷ a.step.now ∷ [])) c.requires.full).1 in
    let last = (and_parts (is_full fs a.test.now) (all_full fs (a.step.now ∷ [])) rest).1 in
    (and_parts (is_full fs a.step.now) (all_full fs []) last).0

pub returns-in_err-next_value : goal.returns-in_err-next_value
returns-in_err-next_value c = λ b g is.
    let p = err_from_is_err_and c.from_residual.result c.from_residual.ensures.1 in
    let k = c.args.known in
    T.after-fails c.from_residual.result c.in_err-next_value.field-0.0 p.0 (record { functions = k.functions; locals = c.as_slice.result; variables = k.variables }) (loop_of c.args.control b) g _ _ p.1 p.2
    (ap (λ xs. sight_in k.functions.now xs k.variables.now) c.as_slice.ensures.value) c.in_err-next_value.ensures

pub returns-in_ok-found-in-None : goal.returns-in_ok-found-in-None
returns-in_ok-found-in-None c = λ b g is.
    let k = c.args.known in
    let a = c.args.control in
    let none = subst (λ o. NextIs o (record { functions = k.functions; locals = c.as_slice.result; variables = k.variables }) a.first.now.of a.step.now) c.in-None.is c.in_ok-next_value.ensures in (
      c.in_ok-found-in-None.ensures.known,
      (ap (λ xs. (meaning a.step.now).constant (sight_in k.functions.now xs k.variables.now)) (sym c.as_slice.ensures.value) ∙ none, c.in_ok-found-in-None.ensures.flow _ _ is c.idle.ensures.flow),
    )

pub returns-in_ok-found-in-Some : goal.returns-in_ok-found-in-Some
returns-in_ok-found-in-Some c = λ b g is.
    let k = c.args.known in
    let a = c.args.control in
    let fs = k.functions.now in
    let vs = k.variables.now in
    let old = c.args.locals.now.items in
    let v = c.variable_in-v.result in
    let bits = c.in-Some.next in
    let some = subst (λ o. NextIs o (record { functions = k.functions; locals = c.as_slice.result; variables = k.variables }) a.first.now.of a.step.now) c.in-Some.is c.in_ok-next_value.ensures in
    let value = subst (λ xs. bits ≡ assigned_to (layout a.first.now.of).two_state (meaning a.step.now) (sight_in fs xs vs).around) c.as_slice.ensures.value some.1 in
    let isv = c.variable_in-v.ensures in
    let long : length (marks_of_control a) ≡ v.width = T.control-long a ∙ ap (λ (x : Variable). x.width) (sym isv) in
    let set = c.in_ok-found-in-Some.ensures.flow _ _ is (c.in_ok-set-in-Some.ensures.flow (marks_of_control a) long) in (
      c.in_ok-found-in-Some.ensures.known,
      (
        ap (λ xs. (meaning a.step.now).constant (sight_in fs xs vs)) (sym c.as_slice.ensures.value) ∙ some.0,
        subst (λ (x : Variable). IsFlow c.in_ok-found-in-Some.found (F.and_then g (F.setting x.local (marks_of_control a)))) isv set,
        T.stepped-is fs a b v vs bits old c.hold.new.locals.items isv c.requires.inside c.in_ok-hold-in-Some.ensures value,
      ),
    )
