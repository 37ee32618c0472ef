use Rattle.std.proofs.Common.{◌≡◌, ◌++◌, map, drop}
use Rattle.core_forms.specs.Typed.{typed_stmt}
use Rattle.core_forms.proofs.elaborated.+typed.Given as goal

abbrev pub invariant-statements-loop-item : goal.invariant-statements-loop-item
invariant-statements-loop-item l = l.statements ++ map (typed_stmt l.signals) (drop l.item-index l.list) ≡ map (typed_stmt l.signals) l.list
