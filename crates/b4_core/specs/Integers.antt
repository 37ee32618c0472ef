-- Integers by sign and absolute value.
use Rattle.std.specs.Prelude.{ℕ, ℤ, pos, neg_ℤ, Bool, true, false}

abbrev pub signed_number : Bool → ℕ → ℤ
signed_number false n = pos n
signed_number true n = neg_ℤ (pos n)
