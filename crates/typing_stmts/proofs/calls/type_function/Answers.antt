use Rattle.std.proofs.Common.{ℕ, length, ap, ◌∙◌, subst}
use Rattle.package_scope.specs.declared.table.Table.{Table}
use Rattle.expr_type.specs.Functions.{routine}
use Rattle.expr_type.specs.Names.{Called}
use Rattle.expr_type.specs.Typings.{checked, whole}
use Rattle.typing_steps.specs.Steps.{TypesTo}
use Rattle.typing_stmts.specs.Around.{around}
use Rattle.typing_stmts.proofs.Calling.{place-of}
use Rattle.typing_stmts.proofs.calls.type_function.Goals as goal

pub returns-clause-value : goal.returns-clause-value
returns-clause-value c =
    let k = around c.args.source.now.tree.now c.args.source.now.names.now c.args.frame.frame.now 0 in
    let fs = c.args.known.now.functions in
    let gs = c.routine.new.known.functions in
    subst (λ (d : ℕ). TypesTo c.routine.result (checked (routine d k c.args.declaration) (λ (x : Called). whole x.place) fs) gs) (c.len-depth.ensures ∙ ap (λ (x : Table). length x.declared) c.table.ensures) (place-of (routine c.len-depth.result k c.args.declaration) c.routine.result fs gs c.routine.ensures.value)
