-- The numbers of vectors, as far as they are in a range.
use Rattle.std.specs.Prelude.{◌≡◌, ⊤, ◌⊎◌, ◌^◌, Bool, true, false, ◌&&◌, cond, ℤ, pos, neg_ℤ, ◌+ℤ◌, ◌<ℤ◌, ◌≤ℤ◌, List, [], ◌∷◌, Option, Some, None}
use Rattle.b4_core.specs.declared.bit.Bit4.{Bit4}
use Rattle.b4_core.specs.Bits.{is_one}
use Rattle.b4_core.specs.Vectors.{digit, known, number, top_bit}

-- the number of a vector, if no bit of it is x or z
abbrev pub number_if_known : Bool → List Bit4 → Option ℤ
number_if_known signed v = cond (known v) (Some (number signed v)) None

-- in a range, or not
pub record IsIn (n : ℤ) (low high : ℤ) : Type 0 where
  pub above : low ≤ℤ n
  pub below : n ≤ℤ high

abbrev pub IsOut : Option ℤ → ℤ → ℤ → Type 0
IsOut None low high = ⊤
IsOut (Some n) low high = (n <ℤ low) ⊎ (high <ℤ n)

-- the number that is in a range
abbrev pub Within : Option ℤ → Option ℤ → ℤ → ℤ → Type 0
Within None number low high = IsOut number low high
Within (Some n) number low high = (number ≡ Some n) × IsIn n low high

-- a number, unless it is far from 0
abbrev pub IsNearBy : Option ℤ → ℤ → Type 0
IsNearBy None number = IsOut (Some number) (neg_ℤ (pos (2 ^ 64))) (pos (2 ^ 64))
IsNearBy (Some n) number = n ≡ number

abbrev pub IsNearIf : Bool → ℤ → Type 0
IsNearIf true n = IsIn n (neg_ℤ (pos (2 ^ 64))) (pos (2 ^ 64))
IsNearIf false n = IsOut (Some n) (neg_ℤ (pos (2 ^ 64))) (pos (2 ^ 64))

-- a vector is read from its top, where a negative number starts at -1
abbrev pub start : Bool → List Bit4 → ℤ
start signed v = cond (signed && is_one (top_bit v)) (neg_ℤ (pos 1)) (pos 0)

abbrev pub from_top : ℤ → List Bit4 → ℤ
from_top n [] = n
from_top n (b ∷ v) = let above = from_top n v in above +ℤ above +ℤ pos (digit b)
