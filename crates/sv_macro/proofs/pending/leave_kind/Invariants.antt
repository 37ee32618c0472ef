use Rattle.std.proofs.Common.{◌≡◌, length}
use Rattle.sv_macro.specs.Waiting.{behind_kind}
use Rattle.sv_macro.proofs.pending.leave_kind.Given as goal

abbrev pub invariant-loop-innermost : goal.invariant-loop-innermost
invariant-loop-innermost l = behind_kind l.kind l.waiting ≡ behind_kind l.kind l.initial.waiting

abbrev pub decreases-loop-innermost : goal.decreases-loop-innermost
decreases-loop-innermost l = length l.waiting
