-- Where an indexed part-select begins (IEEE 1800-2017 clause 11.5.1).
use Rattle.std.specs.Prelude.{◌≡◌, ℕ, ◌-◌, Bool, true, false, cond, ℤ, pos, ◌+ℤ◌, ◌-ℤ◌, ◌*ℤ◌, length, Option, Some, None}
use Rattle.row_machine.specs.Valuation.{Valuation}
use Rattle.sv_types.specs.Layouts.{Layout}
use Rattle.sv_types.specs.Windows.{falls, rank, lowest_index}
use Rattle.v_meaning.specs.Scopes.{Scope}
use Rattle.v_meaning.specs.Values as T
use Rattle.v_meaning.specs.Values.{number_of}

-- how many bits of the whole lie below the lowest of n elements, upward or downward from an index; fewer than none where it
-- begins below the whole
abbrev pub bits_below : Layout → Bool → ℕ → ℤ → ℤ
bits_below of up n k = rank of (lowest_index of up k n) *ℤ pos (length of.element.two_state)

abbrev pub begins : Layout → Bool → ℕ → Option ℤ → Option ℤ
begins of up n None = None
begins of up n (Some k) = Some (bits_below of up n k)

-- the index at which such a part-select begins at the lowest element
abbrev pub origin : Layout → Bool → ℕ → ℤ
origin of true n = cond (falls of) of.right (of.right -ℤ pos (n - 1))
origin of false n = cond (falls of) (of.right +ℤ pos (n - 1)) of.right

-- a target expression of w bits that is read as a signed number, and has this one, if there is one
pub record IsSignedOffset (z : Option ℤ) (o : T.Meaning) (w : ℕ) (sc : Scope) (v : Valuation) : Type 0 where
  pub width : o.width sc ≡ w
  pub signed : o.signed ≡ true
  pub long : length (T.alone o sc v) ≡ w
  pub number : number_of o.signed (T.alone o sc v) ≡ z
