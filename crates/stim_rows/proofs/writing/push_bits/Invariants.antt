use Rattle.std.proofs.Common.{◌≡◌, ◌++◌, map}
use Rattle.stim_rows.specs.RowFiles as rows
use Rattle.stim_rows.proofs.writing.push_bits.Given as goal

abbrev pub invariant-loop-bit : goal.invariant-loop-bit
invariant-loop-bit l = l.text.items ≡ l.fn.text.items ++ map (λ b. rows.digit b.now) l.yielded
