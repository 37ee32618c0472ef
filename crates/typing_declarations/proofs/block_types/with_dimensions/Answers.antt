use Rattle.std.proofs.Common.{Err, ap, sym, ◌∙◌, subst}
use Rattle.std.specs.Prelude.{Result}
use Rattle.std.proofs.lemmas.Result.{err_from_is_err_and}
use Rattle.expr_type.specs.declared.halt.Halt.{Halt}
use Rattle.expr_type.specs.Statements.{with_dimensions}
use Rattle.typing_calls.specs.Lists.{as_meant}
use Rattle.typing_steps.specs.Steps.{TypesTo}
use Rattle.typing_declarations.specs.declared.block_types.WrittenType.{WrittenType}
use Rattle.typing_declarations.specs.Kinds.{written_of}
use Rattle.typing_declarations.proofs.Making.{dims-types}
use Rattle.typing_declarations.proofs.block_types.with_dimensions.Goals as goal

pub returns-in_err-dims-clause-value : goal.returns-in_err-dims-clause-value
returns-in_err-dims-clause-value g c =
    let k = g.S.Names.context c.args.names.now in
    let t = written_of c.args.t.now in
    let fs = c.args.known.now.functions in
    let gs = c.dims.new.known.functions in
    let e = err_from_is_err_and c.from_residual-in_err-dims.result c.from_residual-in_err-dims.ensures.1 in
    subst (λ (r : Result WrittenType Halt). TypesTo (as_meant written_of r) (with_dimensions k t c.args.ds.now fs) gs) (sym (e.1 ∙ ap Err e.2))
    (dims-types k t c.args.ds.now (Err c.in_err-dims.field-0.0) fs gs (sym c.is_empty.ensures ∙ c.if-is_empty.false) c.in_err-dims.ensures.value)
