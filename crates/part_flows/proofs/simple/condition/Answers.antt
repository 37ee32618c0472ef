use Rattle.std.proofs.Common.{◌∷◌, [], Err, ap, sym, ◌∙◌, subst}
use Rattle.std.proofs.lemmas.Result.{err_from_is_err_and}
use Rattle.sv_types.specs.Flows as F
use Rattle.sv_types.specs.Expressions.{meaning}
use Rattle.expr_flows.specs.Known.{sight}
use Rattle.part_flows.specs.Flows.{FlowGives}
use Rattle.part_flows.proofs.Failing as X
use Rattle.part_flows.proofs.Parts as A
use Rattle.part_flows.proofs.simple.condition.Goals as goal

pub returns-in_err-_constant : goal.returns-in_err-_constant
returns-in_err-_constant c =
    let p = err_from_is_err_and c.from_residual.result c.from_residual.ensures.1 in
    let e = c.args.e.now in
    subst (λ r. FlowGives r c.args.known (e ∷ []) (F.reading ((meaning e).reads (sight c.args.known)))) (sym (p.1 ∙ ap Err p.2)) (X.first-fails c.in_err-_constant.field-0.0 c.args.known e [] c.in_err-_constant.ensures)

pub returns : goal.returns
returns c =
    (c.in_ok-reading.ensures.known, c.in_ok-reading.ensures.flow _ (A.gathered c.new-reads.result c.add_reads.new.to _ c.new-reads.ensures c.in_ok-_constant.ensures.adds))
