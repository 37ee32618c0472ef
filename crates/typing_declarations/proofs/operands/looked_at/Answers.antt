use Rattle.std.proofs.Common.{Option, Some, sym, subst}
use Rattle.sv_tree.specs.declared.declarations.Initializer.{Initializer}
use Rattle.expr_type.specs.declared.halt.Halt.{Halt}
use Rattle.expr_type.specs.declared.halt.Halt.TheVariants as H
use Rattle.expr_type.specs.Expressions.{operand}
use Rattle.typing_steps.specs.Steps.{StopsBy}
use Rattle.typing_declarations.specs.Declaring.{looked_alone}
use Rattle.typing_declarations.proofs.Making.{looks, quiet-here}
use Rattle.typing_declarations.proofs.operands.looked_at.Goals as goal

pub returns-in-None-clause-value : goal.returns-in-None-clause-value
returns-in-None-clause-value g c =
    let k = g.S.Names.context c.args.names.now in
    let fs = c.args.known.now.functions in
    subst (λ (i : Option Initializer). StopsBy H.Quiet (looked_alone k i fs) fs) (sym c.in-None.is) (quiet-here {A = Unit {0}} fs)

pub returns-in-Some-clause-value : goal.returns-in-Some-clause-value
returns-in-Some-clause-value g c =
    let k = g.S.Names.context c.args.names.now in
    let fs = c.args.known.now.functions in
    let gs = c.operand.new.known.functions in
    subst (λ (i : Option Initializer). StopsBy c.halt_of.result (looked_alone k i fs) gs) (sym c.in-Some.is)
    (subst (λ (h : Halt). StopsBy h (looked_alone k (Some c.in-Some.i) fs) gs) (sym c.halt_of.ensures) (looks (Unit {0}) k.source (operand k c.in-Some.i.value) c.operand.result fs gs c.operand.ensures.value))
