use Rattle.std.proofs.Common.{◌≡◌, Option, Some, None, Ok, Err, ap, sym, ◌∙◌, subst}
use Rattle.std.specs.Prelude.{Result}
use Rattle.std.proofs.lemmas.Result.{err_from_is_err_and}
use Rattle.sv_tree.specs.declared.declarations.Initializer.{Initializer}
use Rattle.sv_types.specs.declared.frame.ParamType.{ParamType}
use Rattle.sv_types.specs.declared.types.SvType.{SvType}
use Rattle.expr_type.specs.declared.halt.Halt.{Halt}
use Rattle.expr_type.specs.declared.halt.Halt.TheVariants as H
use Rattle.expr_type.specs.Statements.{Parameter, type_parameter}
use Rattle.typing_calls.specs.Lists.{as_meant}
use Rattle.typing_scopes.specs.Scopes.{context_of}
use Rattle.typing_steps.specs.Steps.{StopsBy, TypesTo}
use Rattle.typing_paths.specs.System.{as_type_of}
use Rattle.typing_declarations.specs.Declaring.{typed_param}
use Rattle.typing_declarations.proofs.Making.{type-halts, type-none, type-whole}
use Rattle.typing_declarations.proofs.constants.named_type.Goals as goal

pub returns-in_err-of-clause-value : goal.returns-in_err-of-clause-value
returns-in_err-of-clause-value g c =
    let k = context_of g.B.Names.context c.args.names.now in
    let fs = c.args.known.now.functions in
    let gs = c.written_type.new.known.functions in
    let e = err_from_is_err_and c.from_residual.result c.from_residual.ensures.1 in
    subst (λ (i : Option Initializer). TypesTo (as_meant typed_param c.from_residual.result) (type_parameter k c.args.at i fs) gs) (sym c.in-Some.is)
    (subst (λ (r : Result ParamType Halt). TypesTo (as_meant typed_param r) (type_parameter k c.args.at (Some c.in-Some.i) fs) gs) (sym (e.1 ∙ ap Err e.2))
    (type-halts k c.args.at c.in-Some.i c.in_err-of.field-0.0 fs gs c.in_err-of.ensures.value))

pub returns-in-None-clause-value : goal.returns-in-None-clause-value
returns-in-None-clause-value g c =
    let k = context_of g.B.Names.context c.args.names.now in
    let fs = c.args.known.now.functions in
    let gs = c.written_type.new.known.functions in
    let none : TypesTo {A = Option SvType} (Ok None) (as_type_of k c.in-Some.i.value fs) gs =
    subst (λ (o : Option SvType). TypesTo (Ok o) (as_type_of k c.in-Some.i.value fs) gs) c.in-None.is c.in_ok-of.ensures.value in
    subst (λ (i : Option Initializer). StopsBy H.Quiet (type_parameter k c.args.at i fs) gs) (sym c.in-Some.is) (type-none k c.args.at c.in-Some.i fs gs none)

pub returns-in-Some-of-clause-value : goal.returns-in-Some-of-clause-value
returns-in-Some-of-clause-value g c =
    let k = context_of g.B.Names.context c.args.names.now in
    let fs = c.args.known.now.functions in
    let gs = c.written_type.new.known.functions in
    let t = c.in-Some-of.t in
    let some : TypesTo (Ok (Some t)) (as_type_of k c.in-Some.i.value fs) gs =
    subst (λ (o : Option SvType). TypesTo (Ok o) (as_type_of k c.in-Some.i.value fs) gs) c.in-Some-of.is c.in_ok-of.ensures.value in
    subst (λ (i : Option Initializer). TypesTo (Ok (typed_param (record { decl = c.declaration.result; of = t }))) (type_parameter k c.args.at i fs) gs) (sym c.in-Some.is)
    (subst (λ n. TypesTo (Ok (typed_param (record { decl = n; of = t }))) (type_parameter k c.args.at (Some c.in-Some.i) fs) gs) (sym c.declaration.ensures) (type-whole k c.args.at c.in-Some.i t fs gs some))
