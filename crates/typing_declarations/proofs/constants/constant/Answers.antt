use Rattle.std.proofs.Common.{◌≡◌, true, Option, Some, Ok, Err, ap, sym, ◌∙◌, subst}
use Rattle.std.specs.Prelude.{Result}
use Rattle.std.proofs.lemmas.Result.{err_from_is_err_and}
use Rattle.sv_tree.specs.declared.declarations.Initializer.{Initializer}
use Rattle.sv_types.specs.declared.frame.ParamValue.{ParamValue}
use Rattle.expr_type.specs.declared.halt.Halt.{Halt}
use Rattle.expr_type.specs.Answers.{Gives}
use Rattle.expr_type.specs.Expressions.{operand}
use Rattle.expr_type.specs.Names.{Source}
use Rattle.expr_type.specs.Operands.{Operand}
use Rattle.expr_type.specs.Statements.{constant}
use Rattle.pattern_types.specs.Meaning.{operand_of}
use Rattle.routine_fits.specs.Sound.{AllSoundFunctions}
use Rattle.stmt_laws.proofs.Declared.{operand-keeps}
use Rattle.typing_calls.specs.Lists.{as_meant}
use Rattle.typing_fits.specs.Operands.{SoundOperand}
use Rattle.typing_scopes.specs.Scopes.{context_of}
use Rattle.typing_steps.specs.Steps.{TypesTo}
use Rattle.typing_walks.specs.WrittenTypes.{initial_written}
use Rattle.constant_values.specs.declared.parameters.Place.{Place}
use Rattle.typing_declarations.specs.Declaring.{as_value, written_param}
use Rattle.typing_declarations.specs.Kinds.{written_of}
use Rattle.typing_declarations.proofs.FoundTypes.{sound-then}
use Rattle.typing_declarations.proofs.Making.{constant-stops, constant-types}
use Rattle.typing_declarations.proofs.constants.constant.Goals as goal

pub written_value-requires-clause-sound : goal.written_value-requires-clause-sound
written_value-requires-clause-sound g c =
    let k = context_of g.B.Names.context c.args.names.now in
    let fs = c.args.known.now.functions in
    let gs = c.operand.new.known.functions in
    let i = c.in-Some.i in
    let sound : SoundOperand (operand_of k.source c.in_ok-o.o) gs = sound-then Operand AllSoundFunctions SoundOperand (operand k i.value fs) fs gs (operand_of k.source c.in_ok-o.o) c.in_ok-o.ensures.value
    (operand-keeps AllSoundFunctions k i c.requires.names (subst (λ (x : Option Initializer). initial_written x ≡ true) c.in-Some.is c.requires.written) fs c.requires.ready.sound) in
    subst (λ (s : Source). SoundOperand (operand_of s c.in_ok-o.o) gs) (sym c.text.ensures) sound

pub returns-in_err-o-clause-value : goal.returns-in_err-o-clause-value
returns-in_err-o-clause-value g c =
    let k = context_of g.B.Names.context c.args.names.now in
    let t = written_of c.args.t.now in
    let fs = c.args.known.now.functions in
    let gs = c.operand.new.known.functions in
    let e = err_from_is_err_and c.from_residual.result c.from_residual.ensures.1 in
    subst (λ (i : Option Initializer). TypesTo (as_meant as_value c.from_residual.result) (constant k c.args.at t i fs) gs) (sym c.in-Some.is)
    (subst (λ (r : Result ParamValue Halt). TypesTo (as_meant as_value r) (constant k c.args.at t (Some c.in-Some.i) fs) gs) (sym (e.1 ∙ ap Err e.2))
    (constant-stops k c.args.at t c.in-Some.i c.in_err-o.field-0.0 fs gs c.in_err-o.ensures.value))

pub returns-clause-value : goal.returns-clause-value
returns-clause-value g c =
    let k = context_of g.B.Names.context c.args.names.now in
    let t = written_of c.args.t.now in
    let fs = c.args.known.now.functions in
    let gs = c.operand.new.known.functions in
    let r = c.written_value.result in
    let p : Place = record { name = c.args.at; declaration = c.declaration.result } in
    let gives : Gives r (written_param k.source p t (operand_of k.source c.in_ok-o.o) gs) = subst (λ (s : Source). Gives r (written_param s p t (operand_of s c.in_ok-o.o) gs)) c.text.ensures c.written_value.ensures in
    subst (λ (i : Option Initializer). TypesTo (as_meant as_value r) (constant k c.args.at t i fs) gs) (sym c.in-Some.is)
    (constant-types k c.args.at t c.in-Some.i (operand_of k.source c.in_ok-o.o) p r fs gs (ap (λ n. record { name = c.args.at; declaration = n }) c.declaration.ensures) c.in_ok-o.ensures.value gives)
