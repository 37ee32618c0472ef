use Rattle.std.proofs.Common.{◌∷◌, ◌++◌, Err, ap, sym, ◌∙◌, subst}
use Rattle.std.proofs.lemmas.Result.{err_from_is_err_and}
use Rattle.sv_types.specs.Flows as F
use Rattle.sv_types.specs.Expressions.{meaning}
use Rattle.eval_stmts.specs.Targets.{values_of}
use Rattle.expr_flows.specs.Known.{sight}
use Rattle.expr_flows.proofs.Adding as D
use Rattle.part_flows.specs.Flows.{FlowGives}
use Rattle.part_flows.proofs.Failing as X
use Rattle.part_flows.proofs.Parts as A
use Rattle.stmt_flows.specs.Long.{item_values}
use Rattle.stmt_flows.proofs.branches.selector_flow.Goals as goal

pub returns-in_err-_constant : goal.returns-in_err-_constant
returns-in_err-_constant c =
    let p = err_from_is_err_and c.from_residual.result c.from_residual.ensures.1 in
    let k = c.args.known in
    let e = c.args.on.now in
    let es = item_values c.args.items.now in
    subst (λ r. FlowGives r k (e ∷ es) (F.reading ((meaning e).reads (sight k) ++ F.all_reads (values_of c.args.items.now) (sight k)))) (sym (p.1 ∙ ap Err p.2)) (X.first-fails c.in_err-_constant.field-0.0 k e es c.in_err-_constant.ensures)

pub returns-in_err-add_item_values : goal.returns-in_err-add_item_values
returns-in_err-add_item_values c =
    let p = err_from_is_err_and c.from_residual-in_err-add_item_values.result c.from_residual-in_err-add_item_values.ensures.1 in
    let k = c.args.known in
    let e = c.args.on.now in
    let es = item_values c.args.items.now in
    subst (λ r. FlowGives r k (e ∷ es) (F.reading ((meaning e).reads (sight k) ++ F.all_reads (values_of c.args.items.now) (sight k)))) (sym (p.1 ∙ ap Err p.2))
    (X.other-fails c.in_err-add_item_values.field-0.0 k e es c.in_err-add_item_values.ensures)

pub returns : goal.returns
returns c = (
  c.in_ok-reading.ensures.known,
  c.in_ok-reading.ensures.flow _
      (A.gathered c.new-reads.result c.add_item_values.new.to _ c.new-reads.ensures (D.both c.new-reads.result c.add_reads.new.to c.add_item_values.new.to _ _ c.in_ok-_constant.ensures.adds c.in_ok-add_item_values.ensures)),
)
