use Rattle.stmt_flows.proofs.scopes.started.Goals as goal

pub returns-clause-gives : goal.returns-clause-gives
returns-clause-gives c = λ marks long. (c.in_ok-and_then.ensures.known, c.in_ok-and_then.ensures.flow _ _ c.in_ok-reads.ensures.1 (c.in_ok-set.ensures.flow marks long))
