use Rattle.std.proofs.lemmas.Result.{err_from_is_err_and}
use Rattle.stmt_flows.specs.Full.{written_starts}
use Rattle.stmt_flows.proofs.Passing as P
use Rattle.stmt_flows.proofs.scopes.block_flow.Goals as goal

pub returns-in_err-found : goal.returns-in_err-found
returns-in_err-found c = λ f is.
    let p = err_from_is_err_and c.from_residual.result c.from_residual.ensures.1 in
    P.own-fails c.from_residual.result c.in_err-found.field-0.0 p.0 c.args.known (written_starts c.args.locals.now) _ p.1 p.2 (c.in_err-found.ensures.gives f is)

pub returns : goal.returns
returns c = λ f is. let h = c.in_ok-found.ensures.gives f is in (c.counted.ensures.known h.0, c.counted.ensures.flow _ h.1)
