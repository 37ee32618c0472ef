use Rattle.std.proofs.Common.{◌≡◌, ◌∷◌, [], Some, None, ap, sym, ◌∙◌, subst}
use Rattle.std.proofs.lemmas.Bool.{and_parts}
use Rattle.sv_types.specs.Layouts.{layout}
use Rattle.sv_types.specs.Operators.{assigned_to}
use Rattle.sv_types.specs.Expressions.{meaning}
use Rattle.eval_forms.specs.Callees.{formals_in}
use Rattle.expr_flows.specs.declared.known.Known.{Known}
use Rattle.expr_flows.specs.Full.{is_full, all_full}
use Rattle.expr_flows.specs.Known.{sight, sight_in}
use Rattle.design_breaks.specs.Indices.{unheld}
use Rattle.design_breaks.specs.Unrolling.{too_long_at}
use Rattle.bound_values.specs.declared.bounds.Bound.{Bound}
use Rattle.bound_values.specs.Bounds.{BoundIs}
use Rattle.loop_rules.proofs.Stepping as K
use Rattle.loop_rules.proofs.turns.advance.Goals as goal

pub assigned-requires-clause-full : goal.assigned-requires-clause-full
assigned-requires-clause-full c =
    let fs = formals_in c.args.known.functions.now in
    let a = c.args.control in
    let rest = (and_parts (is_full fs a.first.now) (all_full fs (a.test.now ∷ a.step.now ∷ [])) c.requires.full).1 in
    let last = (and_parts (is_full fs a.test.now) (all_full fs (a.step.now ∷ [])) rest).1 in
    (and_parts (is_full fs a.step.now) (all_full fs []) last).0

pub returns-in-Long : goal.returns-in-Long
returns-in-Long c =
    let k = c.args.known in
    let a = c.args.control in
    let here : Known = record { functions = k.functions; locals = c.as_slice.result; variables = k.variables } in
    let b = subst (λ (x : Bound). BoundIs x here a.step.now (λ v. v ≡ assigned_to (layout a.first.now.of).two_state (meaning a.step.now) (unheld (sight here).around))) c.in-Long.is c.in_ok-at.ensures in
    subst (λ xs. too_long_at a.step.now (sight_in k.functions.now xs k.variables.now) ≡ Some c.in-Long.at) c.as_slice.ensures.value b

pub returns-in_ok-hold-in-Bits : goal.returns-in_ok-hold-in-Bits
returns-in_ok-hold-in-Bits c =
    let k = c.args.known in
    let a = c.args.control in
    let fs = k.functions.now in
    let vs = k.variables.now in
    let old = c.args.locals.now.items in
    let v = c.variable_in-v.result in
    let here : Known = record { functions = k.functions; locals = c.as_slice.result; variables = k.variables } in
    let b = subst (λ (x : Bound). BoundIs x here a.step.now (λ v. v ≡ assigned_to (layout a.first.now.of).two_state (meaning a.step.now) (unheld (sight here).around))) c.in-Bits.is c.in_ok-at.ensures in
    let value = subst (λ xs. c.in-Bits.next ≡ assigned_to (layout a.first.now.of).two_state (meaning a.step.now) (unheld (sight_in fs xs vs).around)) c.as_slice.ensures.value b.1 in (
      subst (λ xs. too_long_at a.step.now (sight_in fs xs vs) ≡ None) c.as_slice.ensures.value b.0,
      λ at. K.stepped-at at fs a v vs c.in-Bits.next old c.hold.new.locals.items c.variable_in-v.ensures c.requires.inside c.in_ok-hold-in-Bits.ensures value,
    )
