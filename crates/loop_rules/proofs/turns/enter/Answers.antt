use Rattle.std.proofs.Common.{◌≡◌, ◌∷◌, ap, sym, ◌∙◌, subst}
use Rattle.sv_types.specs.Layouts.{layout}
use Rattle.sv_types.specs.Operators.{assigned_to}
use Rattle.sv_types.specs.Expressions.{meaning}
use Rattle.expr_flows.specs.Known.{sight_in}
use Rattle.stmt_flows.specs.Turns.{variable_of}
use Rattle.stmt_flows.proofs.Turning.{inside-first}
use Rattle.design_breaks.specs.Indices.{unheld}
use Rattle.design_breaks.specs.Unrolling as U
use Rattle.loop_rules.specs.Counted.{control_at}
use Rattle.loop_rules.proofs.Stepping as K
use Rattle.loop_rules.proofs.turns.enter.Goals as goal

pub returns : goal.returns
returns c =
    let k = c.args.known in
    let a = c.args.control in
    let fs = k.functions.now in
    let ws = k.variables.now in
    let v = c.variable_in-v.result in
    let vs = c.in_ok-variables.variables.items in
    let bits = c.args.first.now in
    let old = c.in_ok-locals.locals.items in
    let new = c.hold.new.locals.items in
    let same : old ≡ k.locals.now = c.in_ok-locals.ensures in
    let list : vs ≡ v ∷ ws = c.in_ok-variables.ensures in
    let value = subst (λ xs. bits ≡ assigned_to (layout a.first.now.of).two_state (meaning a.first.now) (unheld (sight_in fs xs ws).around)) (sym same) c.requires.first in
    record {
      sees = λ at. subst (λ xs. sight_in fs new vs ≡ U.given (control_at at a) a.first.now (sight_in fs xs ws)) same (K.entered-at at fs a v vs ws bits old new c.variable_in-v.ensures list c.in_ok-hold.ensures value);
      inside = inside-first (variable_of a) vs ws (list ∙ ap (λ x. x ∷ ws) c.variable_in-v.ensures);
    }
