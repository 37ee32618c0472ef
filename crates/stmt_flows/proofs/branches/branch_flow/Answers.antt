use Rattle.std.proofs.Common.{◌∷◌, [], Err, arith, ap, ◌∙◌}
use Rattle.std.proofs.lemmas.Result.{err_from_is_err_and}
use Rattle.sv_types.specs.Flows as F
use Rattle.expr_flows.specs.Known.{sight}
use Rattle.stmt_flows.specs.Gives.{no_token}
use Rattle.stmt_flows.specs.Long.{SomeHoldLong}
use Rattle.stmt_flows.proofs.Passing as P
use Rattle.stmt_flows.proofs.branches.branch_flow.Goals as goal

pub returns-in_err-branches : goal.returns-in_err-branches
returns-in_err-branches c = λ f g is at.
    let p = err_from_is_err_and c.from_residual.result c.from_residual.ensures.1 in
    P.pass-on c.from_residual.result c.in_err-branches.field-0.0 c.args.counting no_token (SomeHoldLong (sight c.args.known) (c.args.on.now ∷ [])) (F.or_else f g) _ (p.1 ∙ ap Err p.2) (λ n h. absurd h) (omega arith)
    (c.in_err-branches.ensures.gives f g is at)

pub returns-in_err-test : goal.returns-in_err-test
returns-in_err-test c = λ f g is at.
    let p = err_from_is_err_and c.from_residual-in_err-test.result c.from_residual-in_err-test.ensures.1 in
    let long = SomeHoldLong (sight c.args.known) (c.args.on.now ∷ []) in
    P.found-fails c.from_residual-in_err-test.result p.0 c.args.counting long long _ p.1 (λ n h. h) (P.some-hold c.in_err-test.field-0.0 p.0 c.args.known (c.args.on.now ∷ []) p.2 c.in_err-test.ensures)

pub returns : goal.returns
returns c = λ f g is at.
    let b = c.in_ok-branches.ensures.gives f g is at in (c.counted.ensures.known c.in_ok-found.ensures.known, c.counted.ensures.flow _ (c.in_ok-found.ensures.flow _ _ c.in_ok-test.ensures.1 b.1))
