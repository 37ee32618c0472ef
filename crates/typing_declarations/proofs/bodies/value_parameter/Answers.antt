use Rattle.std.proofs.Common.{◌≡◌, true, Ok, Err, ap, sym, ◌∙◌, subst}
use Rattle.std.specs.Prelude.{Result}
use Rattle.std.proofs.lemmas.Result.{err_from_is_err_and}
use Rattle.expr_type.specs.declared.halt.Halt.{Halt}
use Rattle.expr_type.specs.Statements.{value_parameter, written_type}
use Rattle.routine_fits.specs.Sound.{AllSoundFunctions}
use Rattle.stmt_laws.proofs.Declared.{written-keeps}
use Rattle.typing_calls.specs.Lists.{as_meant}
use Rattle.typing_scopes.specs.Scopes.{context_of}
use Rattle.typing_steps.specs.Steps.{TypesTo}
use Rattle.typing_declarations.specs.declared.bodies.Parameter.{Parameter}
use Rattle.typing_declarations.specs.Declaring.{as_value}
use Rattle.typing_declarations.specs.Kinds.{parameter_of, written_of}
use Rattle.typing_declarations.proofs.FoundTypes.{full-then}
use Rattle.typing_declarations.proofs.Making.{value-stops, value-whole}
use Rattle.typing_declarations.proofs.bodies.value_parameter.Goals as goal

pub constant_under-requires-clause-full : goal.constant_under-requires-clause-full
constant_under-requires-clause-full g c =
    let k = context_of g.B.Names.context c.args.names.now in
    let fs = c.args.known.now.functions in
    let gs = c.type_or_before.new.known.functions in
    full-then (written_type k (written_of c.args.before) c.args.of.now fs) fs gs (written_of c.in_ok-t.t)
    (written-keeps AllSoundFunctions k (written_of c.args.before) c.args.of.now c.requires.names c.requires.type_written c.requires.full fs c.requires.ready.sound) c.in_ok-t.ensures.value

pub returns-in_err-t-clause-value : goal.returns-in_err-t-clause-value
returns-in_err-t-clause-value g c =
    let k = context_of g.B.Names.context c.args.names.now in
    let fs = c.args.known.now.functions in
    let gs = c.type_or_before.new.known.functions in
    let e = err_from_is_err_and c.from_residual.result c.from_residual.ensures.1 in
    subst (λ (r : Result Parameter Halt). TypesTo (as_meant parameter_of r) (value_parameter k (written_of c.args.before) c.args.of.now c.args.d.now fs) gs) (sym (e.1 ∙ ap Err e.2))
    (value-stops k (written_of c.args.before) c.args.of.now c.args.d.now c.in_err-t.field-0.0 fs gs c.in_err-t.ensures.value)

pub returns-in_err-value-clause-value : goal.returns-in_err-value-clause-value
returns-in_err-value-clause-value g c =
    let k = context_of g.B.Names.context c.args.names.now in
    let fs = c.args.known.now.functions in
    let gs = c.type_or_before.new.known.functions in
    let hs = c.constant_under.new.known.functions in
    let e = err_from_is_err_and c.from_residual-in_err-value.result c.from_residual-in_err-value.ensures.1 in
    subst (λ (r : Result Parameter Halt). TypesTo (as_meant parameter_of r) (value_parameter k (written_of c.args.before) c.args.of.now c.args.d.now fs) hs) (sym (e.1 ∙ ap Err e.2))
    (value-whole k (written_of c.args.before) c.args.of.now c.args.d.now fs gs hs (written_of c.in_ok-t.t) (Err c.in_err-value.field-0.0) c.in_ok-t.ensures.value c.in_err-value.ensures.value)

pub returns-clause-value : goal.returns-clause-value
returns-clause-value g c =
    let k = context_of g.B.Names.context c.args.names.now in
    let fs = c.args.known.now.functions in
    let gs = c.type_or_before.new.known.functions in
    let hs = c.constant_under.new.known.functions in
    value-whole k (written_of c.args.before) c.args.of.now c.args.d.now fs gs hs (written_of c.in_ok-t.t) (Ok (as_value c.in_ok-value.value)) c.in_ok-t.ensures.value c.in_ok-value.ensures.value
