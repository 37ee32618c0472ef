use Rattle.std.proofs.Common.{◌≡◌, true, sym, subst}
use Rattle.sv_tree.specs.declared.declarations.ParameterBody.{ParameterBody}
use Rattle.expr_type.specs.Statements.{parameter}
use Rattle.stmt_laws.specs.Written.{body_written, declarator_written}
use Rattle.typing_calls.specs.Lists.{as_meant}
use Rattle.typing_fits.proofs.Full.{and-left, and-right}
use Rattle.typing_scopes.specs.Scopes.{context_of}
use Rattle.typing_steps.specs.Steps.{TypesTo}
use Rattle.typing_walks.specs.WrittenTypes.{type_written}
use Rattle.typing_declarations.specs.Kinds.{kind_of, parameter_of}
use Rattle.typing_declarations.proofs.bodies.one_parameter.Goals as goal

pub type_parameter-requires-clause-written : goal.type_parameter-requires-clause-written
type_parameter-requires-clause-written g c = subst (λ (b : ParameterBody). body_written b ≡ true) c.in-Type.is c.requires.written

pub declared_parameter-requires-clause-type_written : goal.declared_parameter-requires-clause-type_written
declared_parameter-requires-clause-type_written g c =
    and-left (type_written c.in-Value.of) (declarator_written c.in-Value.declarator) (subst (λ (b : ParameterBody). body_written b ≡ true) c.in-Value.is c.requires.written)

pub declared_parameter-requires-clause-written : goal.declared_parameter-requires-clause-written
declared_parameter-requires-clause-written g c =
    and-right (type_written c.in-Value.of) (declarator_written c.in-Value.declarator) (subst (λ (b : ParameterBody). body_written b ≡ true) c.in-Value.is c.requires.written)

pub returns-in-Type-clause-value : goal.returns-in-Type-clause-value
returns-in-Type-clause-value g c =
    let k = context_of g.B.Names.context c.args.names.now in
    subst (λ (b : ParameterBody). TypesTo (as_meant parameter_of c.type_parameter.result) (parameter k (kind_of c.args.before) b c.args.known.now.functions) c.type_parameter.new.known.functions) (sym c.in-Type.is)
    c.type_parameter.ensures.value

pub returns-in-Value-clause-value : goal.returns-in-Value-clause-value
returns-in-Value-clause-value g c =
    let k = context_of g.B.Names.context c.args.names.now in
    subst (λ (b : ParameterBody). TypesTo (as_meant parameter_of c.declared_parameter.result) (parameter k (kind_of c.args.before) b c.args.known.now.functions) c.declared_parameter.new.known.functions) (sym c.in-Value.is)
    c.declared_parameter.ensures.value
