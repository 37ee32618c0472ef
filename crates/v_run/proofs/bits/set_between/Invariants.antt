use Rattle.std.proofs.Common.{◌≡◌, ◌≤◌, max, ℕ, cond, length, ◌&&◌}
use Rattle.std.specs.Prelude.{nat_le, nat_lt, slice_index_or}
use Rattle.b4_core.specs.declared.bit.Bit4.TheVariants.{X}
use Rattle.v_eval.specs.Windows.{window_of}
use Rattle.v_run.specs.Writes.{new_bit}
use Rattle.v_run.proofs.bits.set_between.Given as goal

abbrev pub invariant-loop-k : goal.invariant-loop-k
invariant-loop-k l = record {
  most : l.k ≤ max l.low l.high;
  long : length l.held ≡ length l.fn.held;
  bits : (j : ℕ) → slice_index_or l.held j X ≡ cond (nat_le l.low j && nat_lt j l.k) (new_bit (window_of l.window) l.bits j) (slice_index_or l.fn.held j X);
}
