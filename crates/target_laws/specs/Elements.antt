-- Elements of select paths, also of part-selects (IEEE 1800-2017 clauses 7.4.5 and 11.5.1).
use Rattle.std.specs.Prelude.{◌≡◌, ◌⊎◌, ℕ, ◌-◌, ◌<◌, ◌≤◌, ℤ, pos, ◌+ℤ◌, ◌-ℤ◌, Bool, true, false, ◌&&◌, ◌||◌, int_le, int_lt, cond, length, Option, Some, None}
use Rattle.picks.specs.Windows.{picked}
use Rattle.sv_types.specs.Layouts.{Layout}
use Rattle.sv_types.specs.Windows.{falls, element_of}
use Rattle.sv_types.specs.Surroundings.{Around}
use Rattle.sv_types.specs.Meanings as S

-- a path whose bits are those of the element with an index of another one
pub record IsElementOf (d e : S.Meaning) (a : Around) (z : Option ℤ) : Type 0 where
  pub wide : S.wide d ≡ length e.of.element.two_state
  pub picks : (j : ℕ) → j < S.wide d → picked (d.window a) j ≡ picked (element_of e.of z (e.window a)) j

-- an index that lies between two bounds
abbrev pub lies_between : ℤ → ℤ → ℤ → Bool
lies_between left right k = (int_le right k && int_le k left) || (int_le left k && int_le k right)

abbrev pub kept : ℤ → ℤ → Option ℤ → Option ℤ
kept left right None = None
kept left right (Some k) = cond (lies_between left right k) (Some k) None

-- how far element j of n lies from the index at which they begin, upward or downward, by whether bounds fall
abbrev pub far_from : Bool → Bool → ℕ → ℤ → ℤ
far_from true true n j = j
far_from true false n j = j -ℤ pos (n - 1)
far_from false true n j = pos (n - 1) -ℤ j
far_from false false n j = pos 0 -ℤ j

-- the index of element j of n from an index on, if there is one
abbrev pub gone_on : Bool → Bool → ℕ → Option ℤ → Option ℤ → Option ℤ
gone_on falls up n base None = None
gone_on falls up n None (Some j) = None
gone_on falls up n (Some k) (Some j) = cond (int_le (pos 0) j && int_lt j (pos n)) (Some (k +ℤ far_from falls up n j)) None

-- The types of part-selects: an array of the elements with the same bounds, which go as those before do, and `[n-1:0]`.
pub record IsPartOf (e from : Layout) (left right : ℤ) : Type 0 where
  pub left_is : e.left ≡ left
  pub right_is : e.right ≡ right
  pub element : length e.element.two_state ≡ length from.element.two_state
  pub goes : (falls e ≡ falls from) ⊎ (left ≡ right)

pub record IsSlideOf (e from : Layout) (n : ℕ) : Type 0 where
  pub some : 1 ≤ n
  pub left_is : e.left ≡ pos (n - 1)
  pub right_is : e.right ≡ pos 0
  pub element : length e.element.two_state ≡ length from.element.two_state
