use Rattle.std.proofs.Common.{◌≡◌, List, ◌++◌, Err, sym, ap, ◌∙◌, subst}
use Rattle.std.specs.Prelude.{Result}
use Rattle.std.proofs.lemmas.List.{append-nil}
use Rattle.std.proofs.lemmas.Result.{err_from_is_err_and}
use Rattle.sv_types.specs.declared.frame.ParamValue.{ParamValue}
use Rattle.expr_type.specs.declared.halt.Halt.{Halt}
use Rattle.expr_type.specs.Names.{Context, with_values}
use Rattle.expr_type.specs.Types.{Fields, TypeFound}
use Rattle.routine_fits.specs.Sound.{AllSoundFunctions}
use Rattle.typing_fits.specs.Operands.{AllValuesSound}
use Rattle.typing_scopes.specs.Scopes.{context_of}
use Rattle.typing_steps.specs.Steps.{TypesTo}
use Rattle.typing_declarations.specs.Texts.{member_by}
use Rattle.typing_declarations.proofs.FieldJoining.{scope-stops, scope-whole}
use Rattle.typing_declarations.proofs.Under.{values-surrounded}
use Rattle.typing_declarations.proofs.members.members_behind.Goals as goal

pub named_fields-requires-clause-names : goal.named_fields-requires-clause-names
named_fields-requires-clause-names g c =
    let of = g.B.Names.context in
    let vs = c.found.inside.names in
    values-surrounded AllSoundFunctions (context_of of c.add_values.new.self) (context_of of c.args.names.now) vs
    (c.in_ok-add_values.ensures.context ∙ ap (λ (k : Context). with_values vs k) c.inside-inner.ensures.context) c.requires.names
    (subst (λ (f : TypeFound). AllValuesSound f.names) (sym c.found.view_is) c.requires.sound)

pub returns-in_err-fields-clause-value : goal.returns-in_err-fields-clause-value
returns-in_err-fields-clause-value g c = λ x fs is.
    let of = g.B.Names.context in
    let k = context_of of c.args.names.now in
    let vs = c.found.inside.names in
    let there = c.in_ok-add_values.ensures.context ∙ ap (λ (k : Context). with_values vs k) c.inside-inner.ensures.context in
    let gs = c.args.known.now.functions in
    let hs = c.named_fields.new.known.functions in
    let e = err_from_is_err_and c.from_residual-in_err-fields.result c.from_residual-in_err-fields.ensures.1 in
    subst (λ (r : Result Fields Halt). TypesTo r (member_by k c.args.inside_packed x c.args.list.now fs) hs) (sym (e.1 ∙ ap Err e.2))
    (scope-stops k c.args.inside_packed x c.args.list.now fs gs hs c.found.inside.of vs c.args.found (context_of of c.add_values.new.self) there c.found.view_is is c.in_err-fields.field-0.0 c.in_err-fields.ensures.value)

pub returns-clause-value : goal.returns-clause-value
returns-clause-value g c = λ x fs is.
    let of = g.B.Names.context in
    let k = context_of of c.args.names.now in
    let vs = c.found.inside.names in
    let there = c.in_ok-add_values.ensures.context ∙ ap (λ (k : Context). with_values vs k) c.inside-inner.ensures.context in
    let gs = c.args.known.now.functions in
    let hs = c.named_fields.new.known.functions in
    let own : c.into_values.result ≡ vs = c.into_values.ensures ∙ c.in_ok-add_values.ensures.own ∙ ap (λ (us : List ParamValue). vs ++ us) c.inside-inner.ensures.own ∙ append-nil vs in
    scope-whole k c.args.inside_packed x c.args.list.now fs gs hs c.found.inside.of vs c.args.found (context_of of c.add_values.new.self) there c.found.view_is is c.in_ok-fields.fields c.into_values.result own c.in_ok-fields.ensures.value
