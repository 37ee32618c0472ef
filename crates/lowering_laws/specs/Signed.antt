-- Indices as signed numbers of the target.
use Rattle.std.specs.Prelude.{◌≡◌, ℕ, ◌≤◌, ◌^◌, ℤ, pos, neg_ℤ, ◌≤ℤ◌, ◌<ℤ◌, true, false, length, Option, Some, None}
use Rattle.b4_core.specs.Vectors.{known, snum}
use Rattle.row_machine.specs.Valuation.{Valuation}
use Rattle.v_meaning.specs.Scopes.{Scope}
use Rattle.v_meaning.specs.Values as T

-- a number that fits w bits and a sign
pub record FitsSigned (w : ℕ) (n : ℤ) : Type 0 where
  pub above : neg_ℤ (pos (2 ^ w)) ≤ℤ n
  pub below : n <ℤ pos (2 ^ w)

-- An index as a signed number: what has its bits, and where they are known its number.
pub record IsIndex (i : Option ℤ) (m : T.Meaning) (w : ℕ) (sc : Scope) (v : Valuation) : Type 0 where
  pub width : m.width sc ≤ w
  pub long : length (T.alone m sc v) ≤ w
  pub there : known (T.alone m sc v) ≡ true → i ≡ Some (snum (T.alone m sc v))
  pub lost : known (T.alone m sc v) ≡ false → i ≡ None
