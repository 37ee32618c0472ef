-- Numbers of indices as the code has them.
use Rattle.std.specs.Prelude.{ℕ, ◌^◌, min, Bool, true, false, ℤ, pos, negsuc}
use Rattle.b4_core.specs.declared.bit.Bit4.{Bit4}
use Rattle.b4_core.specs.Bits.{not4}

-- more than any signal, memory or local has bits
abbrev pub most : ℕ
most = 2 ^ 70

-- the number, or one as far away where it is farther
abbrev pub clamped : ℤ → ℤ
clamped (pos n) = pos (min n most)
clamped (negsuc n) = negsuc (min n most)

abbrev pub flipped : Bool → Bit4 → Bit4
flipped true b = not4 b
flipped false b = b
