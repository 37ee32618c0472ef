use Rattle.std.proofs.Common.{sym, ap, ◌∙◌, ◌+◌, drop}
use Rattle.sv_types.specs.declared.statement.Formal.{Formal}
use Rattle.action_breaks.specs.Misuse.{passed, all_passed}
use Rattle.action_breaks.proofs.Tokened.{passed-step, passed-actuals}
use Rattle.action_breaks.proofs.misuse.all_passed.Goals as goal

pub loop-k-preserved : goal.loop-k-preserved
loop-k-preserved c =
    let ps = c.args.formals.now in
    let es = c.args.actuals.now in
    let k = c.loop-k.k in
    let e = c.index-actuals-k.result in
    ap (all_passed (drop (k + 1) ps) (drop (k + 1) es)) (c.passed-misuse.ensures ∙ ap (λ (f : Formal). passed f.way e c.loop-k.misuse) (sym c.index-formals-k.is))
    ∙ passed-step ps es k c.index-formals-k.result e c.loop-k.misuse c.loop-k-test.true c.if-k-actuals.true c.index-formals-k.is c.index-actuals-k.is
    ∙ c.loop-k.invariant

pub returns-else-k-actuals : goal.returns-else-k-actuals
returns-else-k-actuals c = sym (passed-actuals c.args.formals.now c.args.actuals.now c.loop-k.k c.loop-k.misuse c.if-k-actuals.false) ∙ c.loop-k.invariant
