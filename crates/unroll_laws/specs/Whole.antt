-- Unrolled lists that are whole: more statements may stand, and nothing is found that can't be unrolled.
use Rattle.std.specs.Prelude.{◌≡◌, ℕ, Some, None}
use Rattle.design_breaks.specs.declared.Unrolled.{Unrolled}

-- so many more may stand
pub record Whole (u : Unrolled) (n : ℕ) : Type 0 where
  pub left : u.left ≡ Some n
  pub none : u.endless ≡ None
