use Rattle.std.proofs.Common.{rules, ◌≡◌, List, map, length, ap, ◌∙◌}
use Rattle.b4_core.specs.declared.bit.Bit4.{Bit4}
use Rattle.row_machine.specs.Places.{vector_at}
use Rattle.row_machine.specs.Valuation.{put}
use Rattle.v_meaning.specs.Functions as M
use Rattle.v_meaning.specs.Runs.{State, begun, assign_now, cleared}
use Rattle.v_meaning.specs.Scopes.{Scope, local_number, bits_of_range}
use Rattle.v_meaning.specs.Statements.{doing}
use Rattle.v_eval.specs.Holding.{holds}
use Rattle.v_eval.specs.Names.{local_named}
use Rattle.v_exec.specs.Modules.{signals_in, scope_in}
use Rattle.v_exec.proofs.Calling.{function-scope}
use Rattle.v_exec.proofs.Running.{if-ok}
use Rattle.v_exec.proofs.functions.run_function.Goals as goal

pub returns : goal.returns
returns g c =
    let f = c.args.f.now in
    let v = holds c.args.held in
    let out = scope_in c.args.first c.args.depth c.args.of.now in
    let same : c.as_slice-3.result.now ≡ c.in_ok-all.all = search rules in
    let args : c.as_slice-2.result.now ≡ c.args.args = search rules in
    let long : c.in_ok-number_behind.field-0 ≡ length c.as_slice-3.result.now = search rules in
    let names = ap (map local_named) same ∙ c.in_ok-all.ensures in
    let sc = function-scope c.as_slice-3.result.now f c.in_ok-number_behind.field-0 (signals_in c.args.first c.args.of.now) out.callee names long in
    let bound : List (List Bit4) → State = λ xs. assign_now (M.bound (M.inputs_of f) xs) (assign_now (cleared (M.locals_of f)) begun) in
    let st = c.in_ok-run_stmt.ensures v (bound c.as_slice-2.result.now) (c.in_ok-pass.ensures v c.in_ok-state.ensures) in
    let result : State → List Bit4 = λ s. vector_at (put s.written v) (local_number 0) (bits_of_range f.range) in
    if-ok
    (λ x h. h ∙ ap (λ u. vector_at u (local_number 0) (bits_of_range f.range)) st.now ∙ ap (λ (n : Scope). result ((doing f.body).run n v (bound c.as_slice-2.result.now))) sc
    ∙ ap (λ xs. result ((doing f.body).run (M.scope_in f out) v (bound xs))) args)
    c.result_in.result c.result_in.ensures
