-- Numbers by their limbs of 32 bits, the least significant one first.
use Rattle.std.specs.Prelude.{ℕ, ◌+◌, ◌*◌, Bool, ◌&&◌, ◌||◌, ◌==◌, nat_lt, List, [], ◌∷◌, Option, Some, None, slice_get}

abbrev pub number : List ℕ → ℕ
number [] = 0
number (x ∷ xs) = x + 4294967296 * number xs

-- a limb, or 0 behind the last one
abbrev pub limb_or : Option ℕ → ℕ
limb_or None = 0
limb_or (Some x) = x

abbrev pub limb_at : List ℕ → ℕ → ℕ
limb_at a i = limb_or (slice_get a i)

-- limbs below a number
abbrev pub onto : List ℕ → ℕ → ℕ
onto [] r = r
onto (x ∷ xs) r = x + 4294967296 * onto xs r

-- whether a number is less by a limb, and else by the limbs below
abbrev pub after : ℕ → ℕ → Bool → Bool
after x y below = nat_lt x y || ((x == y) && below)
