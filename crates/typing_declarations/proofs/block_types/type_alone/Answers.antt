use Rattle.std.proofs.Common.{None, Ok, Err, ap, sym, ◌∙◌, subst}
use Rattle.std.specs.Prelude.{Result}
use Rattle.std.proofs.lemmas.Result.{err_from_is_err_and}
use Rattle.expr_type.specs.declared.halt.Halt.{Halt}
use Rattle.expr_type.specs.Statements as S
use Rattle.expr_type.specs.Types.{TypeFound}
use Rattle.typing_calls.specs.Lists.{as_meant}
use Rattle.typing_scopes.specs.Scopes.{context_of}
use Rattle.typing_steps.specs.Steps.{TypesTo}
use Rattle.typing_declarations.specs.declared.block_types.WrittenType.{WrittenType}
use Rattle.typing_declarations.specs.Kinds.{written_of}
use Rattle.typing_declarations.proofs.Making.{text-types}
use Rattle.typing_declarations.proofs.block_types.type_alone.Goals as goal

pub returns-in_err-found-clause-value : goal.returns-in_err-found-clause-value
returns-in_err-found-clause-value g c =
    let k = context_of g.B.Names.context c.args.names.now in
    let of = c.args.of.now in
    let fs = c.args.known.now.functions in
    let gs = c.typed_text.new.known.functions in
    let e = err_from_is_err_and c.from_residual.result c.from_residual.ensures.1 in
    subst (λ (r : Result WrittenType Halt). TypesTo (as_meant written_of r) (S.sign_or_type k of None fs) gs) (sym (e.1 ∙ ap Err e.2)) (text-types k of (Err c.in_err-found.field-0.0) fs gs c.in_err-found.ensures.value)

pub returns-clause-value : goal.returns-clause-value
returns-clause-value g c =
    let k = context_of g.B.Names.context c.args.names.now in
    let of = c.args.of.now in
    let fs = c.args.known.now.functions in
    let gs = c.typed_text.new.known.functions in
    subst (λ (f : TypeFound). TypesTo (Ok (S.OfType f.of)) (S.sign_or_type k of None fs) gs) (sym c.found.view_is) (text-types k of (Ok c.in_ok-found.found) fs gs c.in_ok-found.ensures.value)
