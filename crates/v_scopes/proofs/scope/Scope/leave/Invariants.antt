use Rattle.std.proofs.Common.{◌≡◌, length, take, drop}
use Rattle.v_scopes.specs.Env.{found, undone}
use Rattle.v_scopes.proofs.scope.Scope.leave.Given as goal

abbrev pub invariant-loop-self : goal.invariant-loop-self
invariant-loop-self l =
    (undone (drop l.mark l.self.hidden) (found l.self) ≡ undone (drop l.mark l.initial.self.hidden) (found l.initial.self))
    × (take l.mark l.self.hidden ≡ take l.mark l.initial.self.hidden)

abbrev pub decreases-loop-self : goal.decreases-loop-self
decreases-loop-self l = length l.self.hidden
