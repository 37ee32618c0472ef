use Rattle.std.proofs.Common.{◌≡◌, ◌++◌, map, drop}
use Rattle.expr_build.specs.Nodes.{token}
use Rattle.sv_build.specs.Items as means
use Rattle.sv_build.proofs.instances.names.Given as goal

abbrev pub invariant-loop-next : goal.invariant-loop-next
invariant-loop-next l = l.names ++ map (λ next. token 1 next) (drop l.next-index l.rest) ≡ means.names_of l.fn.trees
