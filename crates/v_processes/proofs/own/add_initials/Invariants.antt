use Rattle.std.proofs.Common.{◌≡◌, ◌++◌, drop}
use Rattle.v_meaning.specs.Modules.{initials}
use Rattle.v_eval.specs.Scopes.{scope_of}
use Rattle.v_processes.specs.Walks.{initials_of}
use Rattle.v_processes.proofs.own.add_initials.Given as goal

abbrev pub invariant-loop-item : goal.invariant-loop-item
invariant-loop-item l = initials_of l.to ++ initials (scope_of l.scope) (drop l.item-index l.items) ≡ initials_of l.fn.to ++ initials (scope_of l.fn.scope) l.fn.items
