use Rattle.std.proofs.Common.{◌≡◌, Ok, Err, ap, sym, ◌∙◌, subst}
use Rattle.std.proofs.lemmas.Result.{err_from_is_err_and}
use Rattle.sv_tree.specs.declared.expressions.Cast.TheVariants as C
use Rattle.pattern_types.specs.Meaning.{operand_of}
use Rattle.typing_steps.specs.Steps.{TypesTo}
use Rattle.typing_rows.specs.Rows.{mapped}
use Rattle.typing_patterns.specs.Insides.{as_inside, inside_of}
use Rattle.typing_patterns.proofs.CastAmong.{can-pattern, can-value}
use Rattle.typing_patterns.proofs.Crossing.{pattern-inside, value-inside}
use Rattle.typing_patterns.proofs.cast_insides.behind_tick.Goals as goal

pub operand-requires-clause-can : goal.operand-requires-clause-can
operand-requires-clause-can g c =
    let form : c.args.cast.now ≡ C.Value c.in-Value.tick c.in-Value.opening c.get.result.now c.in-Value.closing = cc (c.in-Value.is, c.get.ensures) in
    can-value _ _ _ _ _ _ _ c.args.cast.now c.in-Value.tick c.in-Value.opening c.in-Value.closing c.get.result.now form c.requires.can

pub returns-in_err-of-in-Value-clause-value : goal.returns-in_err-of-in-Value-clause-value
returns-in_err-of-in-Value-clause-value g c =
    let k = g.S.Names.context c.args.names.now in
    let form : c.args.cast.now ≡ C.Value c.in-Value.tick c.in-Value.opening c.get.result.now c.in-Value.closing = cc (c.in-Value.is, c.get.ensures) in
    let e = err_from_is_err_and c.from_residual.result c.from_residual.ensures.1 in
    subst (λ r. TypesTo (mapped (as_inside k.source) r) (inside_of k c.args.cast.now c.args.known.now.functions) c.operand.new.known.functions) (sym (e.1 ∙ ap Err e.2))
    (value-inside k c.args.cast.now c.in-Value.tick c.in-Value.opening c.in-Value.closing c.get.result.now (Err c.in_err-of-in-Value.field-0.0) c.args.known.now.functions c.operand.new.known.functions form
    c.in_err-of-in-Value.ensures.value)

pub returns-in_ok-of-in-Value-clause-value : goal.returns-in_ok-of-in-Value-clause-value
returns-in_ok-of-in-Value-clause-value g c =
    let k = g.S.Names.context c.args.names.now in
    let form : c.args.cast.now ≡ C.Value c.in-Value.tick c.in-Value.opening c.get.result.now c.in-Value.closing = cc (c.in-Value.is, c.get.ensures) in
    value-inside k c.args.cast.now c.in-Value.tick c.in-Value.opening c.in-Value.closing c.get.result.now (Ok (operand_of k.source c.in_ok-of-in-Value.of)) c.args.known.now.functions
    c.operand.new.known.functions form c.in_ok-of-in-Value.ensures.value

pub returns-in_err-of-in-Pattern-clause-value : goal.returns-in_err-of-in-Pattern-clause-value
returns-in_err-of-in-Pattern-clause-value g c =
    let k = g.S.Names.context c.args.names.now in
    let e = err_from_is_err_and c.from_residual-in_err-of-in-Pattern.result c.from_residual-in_err-of-in-Pattern.ensures.1 in
    subst (λ r. TypesTo (mapped (as_inside k.source) r) (inside_of k c.args.cast.now c.args.known.now.functions) c.pattern.new.known.functions) (sym (e.1 ∙ ap Err e.2))
    (pattern-inside k c.args.cast.now c.in-Pattern.tick c.in-Pattern.opening c.in-Pattern.closing c.in-Pattern.p (Err c.in_err-of-in-Pattern.field-0.0) c.args.known.now.functions c.pattern.new.known.functions
    c.in-Pattern.is c.in_err-of-in-Pattern.ensures.value)

pub returns-in_ok-of-in-Pattern-clause-value : goal.returns-in_ok-of-in-Pattern-clause-value
returns-in_ok-of-in-Pattern-clause-value g c =
    let k = g.S.Names.context c.args.names.now in
    pattern-inside k c.args.cast.now c.in-Pattern.tick c.in-Pattern.opening c.in-Pattern.closing c.in-Pattern.p (Ok (operand_of k.source c.in_ok-of-in-Pattern.of)) c.args.known.now.functions
    c.pattern.new.known.functions c.in-Pattern.is c.in_ok-of-in-Pattern.ensures.value

pub pattern-requires-clause-can : goal.pattern-requires-clause-can
pattern-requires-clause-can g c = can-pattern _ _ _ _ _ _ _ c.args.cast.now c.in-Pattern.tick c.in-Pattern.opening c.in-Pattern.closing c.in-Pattern.p c.in-Pattern.is c.requires.can
