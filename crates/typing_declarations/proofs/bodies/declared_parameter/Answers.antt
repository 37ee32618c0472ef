use Rattle.std.proofs.Common.{◌≡◌, Bool, None, cond, sym, ◌∙◌, subst}
use Rattle.sv_tree.specs.declared.declarations.ParameterBody.TheVariants as P
use Rattle.expr_type.specs.Statements.{OfValue, parameter, type_parameter, value_parameter}
use Rattle.stmt_laws.specs.Sound.{KindFull}
use Rattle.typing_calls.specs.Lists.{as_meant}
use Rattle.typing_fits.proofs.Full.{and-right}
use Rattle.typing_scopes.specs.Scopes.{context_of}
use Rattle.typing_steps.specs.Steps.{TypesTo}
use Rattle.typing_walks.specs.WrittenTypes.{dims_written, initial_written}
use Rattle.typing_declarations.specs.declared.bodies.Kind.{Kind}
use Rattle.typing_declarations.specs.Kinds.{kind_of, parameter_of}
use Rattle.typing_declarations.proofs.bodies.declared_parameter.Goals as goal

pub value_parameter-requires-clause-full : goal.value_parameter-requires-clause-full
value_parameter-requires-clause-full g c = subst (λ (b : Kind). KindFull (kind_of b)) c.in-Value.is c.requires.full

pub type_parameter-requires-clause-written : goal.type_parameter-requires-clause-written
type_parameter-requires-clause-written g c = and-right (dims_written c.args.d.now.unpacked) (initial_written c.args.d.now.initial) c.requires.written

pub returns-in-Value-clause-value : goal.returns-in-Value-clause-value
returns-in-Value-clause-value g c =
    let k = context_of g.B.Names.context c.args.names.now in
    subst (λ (b : Kind). TypesTo (as_meant parameter_of c.value_parameter.result) (parameter k (kind_of b) (P.Value c.args.of.now c.args.d.now) c.args.known.now.functions) c.value_parameter.new.known.functions)
    (sym c.in-Value.is) c.value_parameter.ensures.value

pub returns-then-is_unwritten-clause-value : goal.returns-then-is_unwritten-clause-value
returns-then-is_unwritten-clause-value g c =
    let k = context_of g.B.Names.context c.args.names.now in
    let of = c.args.of.now in
    let d = c.args.d.now in
    subst (λ (b : Kind). TypesTo (as_meant parameter_of c.type_parameter.result) (parameter k (kind_of b) (P.Value of d) c.args.known.now.functions) c.type_parameter.new.known.functions) (sym c.in-Type.is)
    (subst (λ (b : Bool). TypesTo (as_meant parameter_of c.type_parameter.result) (cond b (type_parameter k d.name d.initial) (value_parameter k (OfValue None) of d) c.args.known.now.functions) c.type_parameter.new.known.functions)
    (sym (sym c.is_unwritten.ensures ∙ c.if-is_unwritten.true)) c.type_parameter.ensures.value)

pub returns-else-is_unwritten-clause-value : goal.returns-else-is_unwritten-clause-value
returns-else-is_unwritten-clause-value g c =
    let k = context_of g.B.Names.context c.args.names.now in
    let of = c.args.of.now in
    let d = c.args.d.now in
    let r = c.value_parameter-else-is_unwritten.result in
    let gs = c.value_parameter-else-is_unwritten.new.known.functions in
    subst (λ (b : Kind). TypesTo (as_meant parameter_of r) (parameter k (kind_of b) (P.Value of d) c.args.known.now.functions) gs) (sym c.in-Type.is)
    (subst (λ (b : Bool). TypesTo (as_meant parameter_of r) (cond b (type_parameter k d.name d.initial) (value_parameter k (OfValue None) of d) c.args.known.now.functions) gs)
    (sym (sym c.is_unwritten.ensures ∙ c.if-is_unwritten.false)) c.value_parameter-else-is_unwritten.ensures.value)
