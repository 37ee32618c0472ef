use Rattle.std.proofs.Common.{◌≡◌, ◌++◌, List, Err, ap, sym, ◌∙◌, subst}
use Rattle.std.specs.Prelude.{Result}
use Rattle.std.proofs.lemmas.Result.{err_from_is_err_and}
use Rattle.sv_types.specs.declared.frame.ParamValue.{ParamValue}
use Rattle.sv_types.specs.declared.types.SvType.{SvType}
use Rattle.expr_type.specs.declared.halt.Halt.{Halt}
use Rattle.expr_type.specs.Names.{Context, with_values}
use Rattle.expr_type.specs.Types.{TypeFound}
use Rattle.typing_scopes.specs.Scopes.{context_of}
use Rattle.typing_scopes.proofs.Behind.{needs-alike}
use Rattle.typing_steps.specs.Steps.{TypesTo}
use Rattle.typing_declarations.specs.Giving.{whole_dims}
use Rattle.typing_declarations.proofs.FormalUnder.{dims-made, dims-stopped, found-sound, nil-behind, sound-inside}
use Rattle.typing_declarations.proofs.formal_dims.dims_behind.Goals as goal

pub declared_type-requires-clause-needs : goal.declared_type-requires-clause-needs
declared_type-requires-clause-needs g c =
    let of = g.B.Names.context in
    let vs = c.found.inside.names in
    needs-alike _ _ _ _ (context_of of c.add_values.new.self) (context_of of c.args.names.now)
    (ap (λ (x : Context). x.routine) c.in_ok-add_values.ensures.context ∙ ap (λ (x : Context). x.routine) c.inside-inner.ensures.context) c.requires.needs

pub declared_type-requires-clause-names : goal.declared_type-requires-clause-names
declared_type-requires-clause-names g c =
    let of = g.B.Names.context in
    let vs = c.found.inside.names in
    sound-inside (context_of of c.args.names.now) (context_of of c.add_values.new.self) vs (c.in_ok-add_values.ensures.context ∙ ap (λ (x : Context). with_values vs x) c.inside-inner.ensures.context) c.requires.names
    (found-sound c.found.inside.of vs c.args.found c.found.view_is c.requires.sound)

pub returns-in_err-t-clause-value : goal.returns-in_err-t-clause-value
returns-in_err-t-clause-value g c =
    let of = g.B.Names.context in
    let k = context_of of c.args.names.now in
    let vs = c.found.inside.names in
    let fs = c.args.known.now.functions in
    let gs = c.declared_type.new.known.functions in
    let e = err_from_is_err_and c.from_residual-in_err-t.result c.from_residual-in_err-t.ensures.1 in
    subst (λ (r : Result (TypeFound × SvType) Halt). TypesTo r (whole_dims k c.args.found c.args.ds.now fs) gs) (sym (e.1 ∙ ap Err e.2))
    (dims-stopped (context_of of c.add_values.new.self) k c.args.found c.found.inside.of vs c.args.ds.now c.in_err-t.field-0.0 fs gs c.found.view_is
    (c.in_ok-add_values.ensures.context ∙ ap (λ (x : Context). with_values vs x) c.inside-inner.ensures.context) c.in_err-t.ensures.value)

pub returns-clause-value : goal.returns-clause-value
returns-clause-value g c =
    let of = g.B.Names.context in
    let vs = c.found.inside.names in
    dims-made (context_of of c.add_values.new.self) (context_of of c.args.names.now) c.args.found c.found.inside.of vs c.into_values.result c.args.ds.now c.in_ok-t.t c.args.known.now.functions c.declared_type.new.known.functions
    c.found.view_is (c.into_values.ensures ∙ c.in_ok-add_values.ensures.own ∙ ap (λ (ws : List ParamValue). vs ++ ws) c.inside-inner.ensures.own ∙ nil-behind vs)
    (c.in_ok-add_values.ensures.context ∙ ap (λ (x : Context). with_values vs x) c.inside-inner.ensures.context) c.in_ok-t.ensures.value
