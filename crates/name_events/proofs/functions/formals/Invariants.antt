use Rattle.std.proofs.Common.{◌≡◌, drop}
use Rattle.name_events.specs.Statements as means
use Rattle.name_events.proofs.functions.formals.Given as goal

abbrev pub invariant-loop-one : goal.invariant-loop-one
invariant-loop-one l = means.formals l.body (drop l.one-index l.list) l.to ≡ means.formals l.body l.list l.fn.to
