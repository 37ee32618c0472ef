use Rattle.std.proofs.Common.{Option, Ok, Err, Some, ap, sym, ◌∙◌, subst}
use Rattle.std.specs.Prelude.{Result}
use Rattle.std.proofs.lemmas.Result.{err_from_is_err_and}
use Rattle.sv_tree.specs.declared.declarations.Initializer.{Initializer}
use Rattle.sv_types.specs.declared.expression.Expr.{Expr}
use Rattle.expr_type.specs.declared.halt.Halt.{Halt}
use Rattle.expr_type.specs.Statements.{initial_value}
use Rattle.typing_steps.specs.Steps.{TypesTo}
use Rattle.typing_declarations.proofs.Making.{starts}
use Rattle.typing_declarations.proofs.locals.initial_value.Goals as goal

pub returns-in_err-e-in-Some-clause-value : goal.returns-in_err-e-in-Some-clause-value
returns-in_err-e-in-Some-clause-value g c =
    let k = g.S.Names.context c.args.names.now in
    let fs = c.args.known.now.functions in
    let gs = c.type_expr.new.known.functions in
    let e = err_from_is_err_and c.from_residual.result c.from_residual.ensures.1 in
    subst (λ (i : Option Initializer). TypesTo c.from_residual.result (initial_value k c.args.t.now i fs) gs) (sym c.in-Some.is)
    (subst (λ (r : Result (Option Expr) Halt). TypesTo r (initial_value k c.args.t.now (Some c.in-Some.i) fs) gs) (sym (e.1 ∙ ap Err e.2))
    (starts k c.args.t.now c.in-Some.i (Err c.in_err-e-in-Some.field-0.0) fs gs c.in_err-e-in-Some.ensures.value))

pub returns-in_ok-e-in-Some-clause-value : goal.returns-in_ok-e-in-Some-clause-value
returns-in_ok-e-in-Some-clause-value g c =
    let k = g.S.Names.context c.args.names.now in
    let fs = c.args.known.now.functions in
    let gs = c.type_expr.new.known.functions in
    subst (λ (i : Option Initializer). TypesTo (Ok (Some c.in_ok-e-in-Some.e)) (initial_value k c.args.t.now i fs) gs) (sym c.in-Some.is)
    (starts k c.args.t.now c.in-Some.i (Ok c.in_ok-e-in-Some.e) fs gs c.in_ok-e-in-Some.ensures.value)
