use Rattle.std.proofs.Common.{◌∷◌}
use Rattle.std.proofs.lemmas.Result.{err_from_is_err_and}
use Rattle.eval_forms.specs.Callees.{formals_in}
use Rattle.stmt_flows.specs.Long.{item_values}
use Rattle.stmt_flows.proofs.Branching as B
use Rattle.stmt_flows.proofs.Passing as P
use Rattle.stmt_flows.proofs.branches.selected_flow.Goals as goal

pub selector_flow-requires-clause-fits : goal.selector_flow-requires-clause-fits
selector_flow-requires-clause-fits c = B.selector-fits c.args.on.now c.args.items.now (formals_in c.args.known.functions.now) c.requires.fits

pub selector_flow-requires-clause-items : goal.selector_flow-requires-clause-items
selector_flow-requires-clause-items c = B.case-items-fit c.args.on.now c.args.items.now (formals_in c.args.known.functions.now) c.requires.fits

pub returns-in_err-selector : goal.returns-in_err-selector
returns-in_err-selector c = λ f is.
    let p = err_from_is_err_and c.from_residual.result c.from_residual.ensures.1 in
    P.own-fails c.from_residual.result c.in_err-selector.field-0.0 p.0 c.args.known (c.args.on.now ∷ item_values c.args.items.now) _ p.1 p.2 c.in_err-selector.ensures

pub returns : goal.returns
returns c = λ f is. (c.counted.ensures.known c.in_ok-found.ensures.known, c.counted.ensures.flow _ (c.in_ok-found.ensures.flow _ _ c.in_ok-selector.ensures.1 is))
