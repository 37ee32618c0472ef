use Rattle.std.proofs.Common.{◌≡◌, ◌+◌, ◌-◌, ℕ, length}
use Rattle.v_eval.specs.Holding.{slot_of}
use Rattle.v_run.proofs.slots.with_local.Given as goal

abbrev pub invariant-loop-alloc : goal.invariant-loop-alloc
invariant-loop-alloc l = (m : ℕ) → slot_of l.slots.items m ≡ slot_of l.initial.slots.items m

abbrev pub decreases-loop-alloc : goal.decreases-loop-alloc
decreases-loop-alloc l = l.n + 1 - length l.slots.items
