use Rattle.std.proofs.Common.{◌≡◌, ◌≤◌, length, drop, reverse}
use Rattle.std.specs.List.{flat_map}
use Rattle.expr_type.specs.Literals.{digit_bits}
use Rattle.literal_types.proofs.bits.bits_of_digits.Given as goal

-- the bits of the digits that are read
abbrev pub invariant-loop-i : goal.invariant-loop-i
invariant-loop-i l = (l.i ≤ length l.text) × (l.bits.items ≡ flat_map (digit_bits l.each) (reverse (drop l.i l.text)))

abbrev pub decreases-loop-i : goal.decreases-loop-i
decreases-loop-i l = l.i
