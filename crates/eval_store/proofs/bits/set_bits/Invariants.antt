use Rattle.std.proofs.Common.{◌≡◌, ◌≤◌, max, ℕ, cond, length, ◌&&◌}
use Rattle.std.specs.Prelude.{nat_le, nat_lt, slice_index_or}
use Rattle.b4_core.specs.declared.bit.Bit4.TheVariants.{X}
use Rattle.eval_parts.specs.Places.{window_of}
use Rattle.eval_store.specs.Writes.{new_bit}
use Rattle.eval_store.proofs.bits.set_bits.Given as goal

abbrev pub invariant-loop-k : goal.invariant-loop-k
invariant-loop-k l = record {
  most : l.k ≤ max l.window.low l.window.high;
  long : length l.held ≡ length l.fn.held;
  bits : (j : ℕ) → slice_index_or l.held j X ≡ cond (nat_le l.window.low j && nat_lt j l.k) (new_bit (window_of l.window) l.bits j) (slice_index_or l.fn.held j X);
}
