use Rattle.std.proofs.Common.{Ok, Err, ap, sym, ◌∙◌, subst}
use Rattle.std.proofs.lemmas.Result.{err_from_is_err_and}
use Rattle.inside_types.specs.Alternatives.{alternative}
use Rattle.typing_steps.specs.Steps.{TypesTo}
use Rattle.typing_rows.specs.Rows.{mapped}
use Rattle.typing_operators.specs.Ranges.{range_of}
use Rattle.typing_operators.proofs.Ranges.{range-types}
use Rattle.typing_operators.proofs.insides.alternative.Goals as goal

pub returns-in_err-left-in-Range-clause-value : goal.returns-in_err-left-in-Range-clause-value
returns-in_err-left-in-Range-clause-value g c =
    let k = g.S.Names.context c.args.names.now in
    let e = err_from_is_err_and c.from_residual-in_err-left-in-Range.result c.from_residual-in_err-left-in-Range.ensures.1 in
    subst (λ r. TypesTo (mapped alternative r) (range_of k c.args.range.now c.args.known.now.functions) c.two.new.known.functions) (sym (e.1 ∙ ap Err e.2))
    (range-types k c.args.range.now c.in-Range.opening c.in-Range.colon c.in-Range.closing c.in-Range.low c.in-Range.high c.args.known.now.functions c.two.new.known.functions
    (Err c.in_err-left-in-Range.field-0.0) c.in-Range.is c.in_err-left-in-Range.ensures.value)

pub returns-in_ok-left-in-Range-clause-value : goal.returns-in_ok-left-in-Range-clause-value
returns-in_ok-left-in-Range-clause-value g c =
    let k = g.S.Names.context c.args.names.now in
    range-types k c.args.range.now c.in-Range.opening c.in-Range.colon c.in-Range.closing c.in-Range.low c.in-Range.high c.args.known.now.functions c.two.new.known.functions
    (Ok c.in_ok-left-in-Range.field-0) c.in-Range.is c.in_ok-left-in-Range.ensures.value
