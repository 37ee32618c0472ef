use Rattle.std.proofs.Common.{◌≡◌, IfOk, length, refl, ap, sym, ◌∙◌, subst, map}
use Rattle.v_meaning.specs.Values as T
use Rattle.v_build.specs.Trees.{meanings}
use Rattle.sv_types.specs.Expressions.{meaning}
use Rattle.sv_types.specs.Functions.{parameter}
use Rattle.v_tree.specs.Names.{Name}
use Rattle.eval_parts.specs.Targets.{marks_of_formals}
use Rattle.eval_forms.specs.Callees.{formals_in}
use Rattle.form_lower.specs.Places.{AreItems}
use Rattle.name_maps.specs.Named.{function_name, OneFunction}
use Rattle.expr_lower.proofs.Standing.{combines-Call, called-as, same-ok}
use Rattle.expr_lower.proofs.formed.call_form.Goals as goal

pub call_named-requires-clause-items : goal.call_named-requires-clause-items
call_named-requires-clause-items c =
    let parts = same-ok c.args.parts c.in_ok-name.parts _ refl c.in_ok-name.ensures.1 in
    subst (λ l. AreItems (marks_of_formals l) c.args.actuals.now (length c.in_ok-name.parts)) (sym c.formals_of-formals.ensures.value)
    (subst (λ ps. AreItems (marks_of_formals (formals_in c.args.functions.now c.args.f)) c.args.actuals.now (length ps)) parts c.requires.items)

pub returns-clause-combines : goal.returns-clause-combines
returns-clause-combines c = λ w s.
    let f = c.args.f in
    let names = c.args.names.now in
    let name : OneFunction names.functions f → c.in_ok-name.name ≡ function_name names.functions f =
    subst (λ fs. OneFunction fs f → c.in_ok-name.name ≡ function_name fs f) c.as_slice.ensures
    (subst (λ r. IfOk r (λ (t : Name). OneFunction c.as_slice.result.now f → t ≡ function_name c.as_slice.result.now f)) c.in_ok-name.ensures.0 c.function_text-name.ensures) in
    let parts = same-ok c.args.parts c.in_ok-name.parts _ refl c.in_ok-name.ensures.1 in
    combines-Call c.args.e.now f c.args.actuals.now w s names c.args.functions.now c.call_named.new.helpers (meanings c.args.parts) (T.meaning c.in_ok-made.made) c.requires.form
    (λ one. called-as c.args.e.now.of c.in_ok-name.name (function_name names.functions f) (map parameter c.formals_of-formals.result.now) (formals_in c.args.functions.now f) (map meaning c.args.actuals.now) (meanings c.in_ok-name.parts) (meanings c.args.parts)
    c.call_named.new.helpers (T.meaning c.in_ok-made.made) (name one) c.formals_of-formals.ensures.value (ap meanings (sym parts)) c.in_ok-made.ensures.calls)
