use Rattle.std.proofs.Common.{◌≡◌, drop}
use Rattle.v_eval.specs.Names.{local_found}
use Rattle.v_eval.proofs.scopes.find_local.Given as goal

abbrev pub invariant-loop-local : goal.invariant-loop-local
invariant-loop-local l = local_found (drop l.local-index l.locals) l.name ≡ local_found l.fn.locals l.fn.name
