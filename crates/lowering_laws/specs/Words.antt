-- In which word of a memory of the target an element of an unpacked array stands (IEEE 1364-2005 clause 4.9).
use Rattle.std.specs.Prelude.{◌≡◌, ◌⊎◌, ℕ, ◌≤◌, ◌<◌, ℤ, pos, ◌-ℤ◌, ◌*ℤ◌, true, false, cond, length, Option, Some}
use Rattle.b4_core.specs.Vectors.{known, num}
use Rattle.row_machine.specs.Valuation.{Valuation}
use Rattle.row_machine.specs.Places.{vector_at}
use Rattle.picks.specs.Windows.{whole, part, seen}
use Rattle.sv_types.specs.Layouts.{Layout, count_of}
use Rattle.sv_types.specs.Windows.{falls, elements, rank}
use Rattle.sv_types.specs.Surroundings.{Around}
use Rattle.sv_types.specs.Meanings as S
use Rattle.v_meaning.specs.Scopes.{Scope, Named, all_bits}
use Rattle.v_meaning.specs.Values as T
use Rattle.lowering_laws.specs.Placed.{holds, NoRank}

-- the smaller bound: the element with this index stands in word 0
abbrev pub lower : Layout → ℤ
lower of = cond (falls of) of.right of.left

-- the element with an index stands in this word
pub record HasWord (of : Layout) (i : Option ℤ) (x : ℕ) : Type 0 where
  pub index : ℤ
  pub known_there : i ≡ Some index
  pub word_is : index -ℤ lower of ≡ pos x
  pub below : x < count_of of.left of.right

-- no element has the index, and no word this number
pub record BehindAll (of : Layout) (i : Option ℤ) (x : ℕ) : Type 0 where
  pub behind : count_of of.left of.right ≤ x
  pub none : NoRank of i

-- A target expression is the number of the word of an index where a guard holds and it is known; elsewhere no element has
-- the index.
pub record IsWord (of : Layout) (i : Option ℤ) (guard : Option T.Meaning) (r : T.Meaning) (sc : Scope) (v : Valuation) : Type 0 where
  pub unsigned : r.signed ≡ false
  pub yes : holds guard sc v ≡ true → known (T.alone r sc v) ≡ true → HasWord of i (num (T.alone r sc v)) ⊎ BehindAll of i (num (T.alone r sc v))
  pub no : holds guard sc v ≡ false → NoRank of i
  pub lost : holds guard sc v ≡ true → known (T.alone r sc v) ≡ false → NoRank of i

-- A name of the target that is a memory with a word for each element of an array, and holds in it what the element does.
pub record IsMemory (e : S.Meaning) (a : Around) (n : Named) (v : Valuation) : Type 0 where
  pub words : n.words ≡ Some (count_of e.of.left e.of.right)
  pub width : n.width ≡ length e.of.element.two_state
  pub holds : (k : ℤ) (x : ℕ) → k -ℤ lower e.of ≡ pos x → x < count_of e.of.left e.of.right
      → seen (vector_at v n.number (all_bits n)) (part (pos x *ℤ pos n.width) n.width (whole (all_bits n))) n.width
      ≡ seen (e.base a) (elements e.of (rank e.of k) 1 (e.window a)) n.width
