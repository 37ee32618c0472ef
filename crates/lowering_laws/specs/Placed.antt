-- Where a select path with indices stands in its image: a guard that holds where all indices are in range, and an offset.
use Rattle.std.specs.Prelude.{◌≡◌, ℕ, ◌+◌, ◌≤◌, ◌<◌, ℤ, pos, Bool, true, false, ◌&&◌, int_le, int_lt, length, Option, Some, None}
use Rattle.b4_core.specs.Bits.{is_one}
use Rattle.b4_core.specs.Vectors.{known, num}
use Rattle.row_machine.specs.Valuation.{Valuation}
use Rattle.sv_types.specs.Layouts.{Layout, count_of}
use Rattle.sv_types.specs.Windows.{rank}
use Rattle.sv_types.specs.Surroundings.{Around}
use Rattle.sv_types.specs.Meanings as S
use Rattle.v_meaning.specs.Scopes.{Scope}
use Rattle.v_meaning.specs.Values as T
use Rattle.lowering_laws.specs.Images.{Names, NamesNone}

-- a condition of the target, if there is one, is 1
abbrev pub holds : Option T.Meaning → Scope → Valuation → Bool
holds None sc v = true
holds (Some g) sc v = is_one (T.truth g sc v)

-- the element with this rank, counted from the least significant one, is there
pub record HasRank (of : Layout) (i : Option ℤ) (q : ℕ) : Type 0 where
  pub index : ℤ
  pub known_there : i ≡ Some index
  pub rank_is : rank of index ≡ pos q
  pub below : q < count_of of.left of.right

-- no element, where the index is out of range or unknown
pub data NoRank (of : Layout) : Option ℤ → Type 0 where
  unknown : NoRank of None
  outside : (k : ℤ) → (int_le (pos 0) (rank of k) && int_lt (rank of k) (pos (count_of of.left of.right))) ≡ false → NoRank of (Some k)

-- A target expression of at most w bits is the rank of an index where a guard holds and it is known; elsewhere no element
-- has the index.
pub record IsRank (of : Layout) (i : Option ℤ) (guard : Option T.Meaning) (r : T.Meaning) (w : ℕ) (sc : Scope) (v : Valuation) : Type 0 where
  pub width : r.width sc ≤ w
  pub unsigned : r.signed ≡ false
  pub yes : holds guard sc v ≡ true → known (r.value w false sc v) ≡ true → HasRank of i (num (r.value w false sc v))
  pub no : holds guard sc v ≡ false → NoRank of i
  pub lost : holds guard sc v ≡ true → known (r.value w false sc v) ≡ false → NoRank of i

-- The offset of a path in its image of so many bits.
pub record IsPlaced (e : S.Meaning) (a : Around) (guard : Option T.Meaning) (o : T.Meaning) (w bits : ℕ) (sc : Scope) (v : Valuation) : Type 0 where
  pub width : o.width sc ≡ w
  pub unsigned : o.signed ≡ false
  pub long : length (T.alone o sc v) ≡ w
  pub yes : holds guard sc v ≡ true → known (T.alone o sc v) ≡ true → Names e a (num (T.alone o sc v)) bits × (num (T.alone o sc v) + S.wide e ≤ bits)
  pub no : holds guard sc v ≡ false → NamesNone e a
  pub lost : holds guard sc v ≡ true → known (T.alone o sc v) ≡ false → NamesNone e a

-- the offset is known where the guard holds
abbrev pub IsSure : Option T.Meaning → T.Meaning → Scope → Valuation → Type 0
IsSure guard o sc v = holds guard sc v ≡ true → known (T.alone o sc v) ≡ true
