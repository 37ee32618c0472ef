-- The power operator (clause 11.4.3, table 11-4).
use Rattle.std.specs.Prelude.{ℕ, zero, suc, List, length, ℤ, pos, negsuc, Bool, ◌&&◌, if◌then◌else◌}
use Rattle.std.specs.Int.{int_pow}
use Rattle.b4_core.specs.declared.bit.Bit4.{Bit4}
use Rattle.b4_core.specs.Vectors.{known, unknown, number, vec}

-- x to a negative power, in w bits: all x for 0, 1 for 1, 1 or -1 for -1, else 0
abbrev pub inverse_power : ℕ → ℤ → ℕ → List Bit4
inverse_power w (pos zero) n = unknown w
inverse_power w (pos (suc zero)) n = vec w (pos 1)
inverse_power w (pos (suc (suc x))) n = vec w (pos 0)
inverse_power w (negsuc zero) n = vec w (int_pow (negsuc 0) n)
inverse_power w (negsuc (suc x)) n = vec w (pos 0)

-- x to the power y, in w bits; the power 0 gives 1 for every x
abbrev pub power_of : ℕ → ℤ → ℤ → List Bit4
power_of w x (pos n) = vec w (int_pow x n)
power_of w x (negsuc n) = inverse_power w x (suc n)

-- all x unless both operands are known; the result has the length of a
abbrev pub power_value : Bool → Bool → List Bit4 → List Bit4 → List Bit4
power_value a_signed b_signed a b =
    if known a && known b then power_of (length a) (number a_signed a) (number b_signed b) else unknown (length a)
