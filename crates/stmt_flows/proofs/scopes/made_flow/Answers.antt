use Rattle.std.proofs.lemmas.Result.{err_from_is_err_and}
use Rattle.sv_types.specs.Flows as F
use Rattle.stmt_flows.specs.Full.{written_starts}
use Rattle.stmt_flows.proofs.Passing as P
use Rattle.stmt_flows.proofs.scopes.made_flow.Goals as goal

pub returns-in_err-found : goal.returns-in_err-found
returns-in_err-found c = λ f g is at.
    let p = err_from_is_err_and c.from_residual-in_err-found.result c.from_residual-in_err-found.ensures.1 in
    P.own-fails c.from_residual-in_err-found.result c.in_err-found.field-0.0 p.0 c.args.known (written_starts c.args.locals.now) _ p.1 p.2
    (c.in_err-found.ensures.gives (λ k. F.and_then (record (f k) { statements = 0 }) (g k)) (c.in_ok-both.ensures.flow _ _ (c.uncounted.ensures.flow _ is) at))

pub returns : goal.returns
returns c = λ f g is at. c.in_ok-found.ensures.gives (λ k. F.and_then (record (f k) { statements = 0 }) (g k)) (c.in_ok-both.ensures.flow _ _ (c.uncounted.ensures.flow _ is) at)
