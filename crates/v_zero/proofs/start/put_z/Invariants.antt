use Rattle.std.proofs.Common.{◌≡◌, ◌<◌, ◌≤◌, ℕ, false, cond, length}
use Rattle.std.specs.Prelude.{slice_index_or}
use Rattle.b4_core.specs.declared.bit.Bit4.TheVariants.{X, Z}
use Rattle.v_zero.proofs.start.put_z.Given as goal

abbrev pub invariant-loop-k : goal.invariant-loop-k
invariant-loop-k l = record {
  shape : length l.bits ≡ length l.initial.bits;
  done : (j : ℕ) → j < l.k → slice_index_or l.bits j X ≡ cond (slice_index_or l.marks j false) (slice_index_or l.initial.bits j X) Z;
  rest : (j : ℕ) → l.k ≤ j → slice_index_or l.bits j X ≡ slice_index_or l.initial.bits j X;
}
