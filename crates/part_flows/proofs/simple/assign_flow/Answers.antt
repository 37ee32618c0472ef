use Rattle.std.proofs.Common.{◌∷◌, map, Err, ap, sym, ◌∙◌, subst}
use Rattle.std.proofs.lemmas.Result.{err_from_is_err_and}
use Rattle.sv_types.specs.Flows as F
use Rattle.sv_types.specs.Expressions.{meaning}
use Rattle.flow_sets.specs.Flows.{IsFlow}
use Rattle.expr_flows.specs.Known.{sight}
use Rattle.expr_flows.proofs.Adding as D
use Rattle.part_flows.specs.Flows.{FlowGives}
use Rattle.part_flows.proofs.Failing as X
use Rattle.part_flows.proofs.Parts as A
use Rattle.part_flows.proofs.simple.assign_flow.Goals as goal

pub returns-in_err-add_targets : goal.returns-in_err-add_targets
returns-in_err-add_targets c =
    let p = err_from_is_err_and c.from_residual.result c.from_residual.ensures.1 in
    let e = c.args.value.now in
    let to = c.args.to.now in
    let k = c.args.known in
    subst (λ r. FlowGives r k (e ∷ to) (F.assigning c.args.later (map meaning to) (meaning e) (sight k))) (sym (p.1 ∙ ap Err p.2)) (X.other-fails c.in_err-add_targets.field-0.0 k e to c.in_err-add_targets.ensures)

pub returns-in_err-_constant : goal.returns-in_err-_constant
returns-in_err-_constant c =
    let p = err_from_is_err_and c.from_residual-in_err-_constant.result c.from_residual-in_err-_constant.ensures.1 in
    let e = c.args.value.now in
    let to = c.args.to.now in
    let k = c.args.known in
    subst (λ r. FlowGives r k (e ∷ to) (F.assigning c.args.later (map meaning to) (meaning e) (sight k))) (sym (p.1 ∙ ap Err p.2)) (X.first-fails c.in_err-_constant.field-0.0 k e to c.in_err-_constant.ensures)

pub returns : goal.returns
returns c =
    let e = c.args.value.now in
    let to = c.args.to.now in
    let k = sight c.args.known in
    let t = c.in_ok-add_targets.ensures in (
      c.in_ok-written.ensures.known,
      subst (IsFlow c.in_ok-written.field-0) (A.assigning-is c.args.later (map meaning to) (meaning e) k)
          (c.in_ok-written.ensures.flow _ _
          (A.gathered c.new-reads.result c.add_reads.new.to _ c.new-reads.ensures (D.both c.new-reads.result c.add_targets.new.reads c.add_reads.new.to _ _ t.reads c.in_ok-_constant.ensures.adds))
          (A.all-written c.new-writes.result c.add_targets.new.writes _ c.new-writes.ensures t.writes)),
    )
