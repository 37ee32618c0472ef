-- Numbers that are reached along lists of followers.
use Rattle.std.specs.Prelude.{◌≡◌, ℕ, zero, suc, ◌+◌, ◌<◌, Bool, true, false, ◌&&◌, ◌||◌, ◌==◌, not, cond, List, [], ◌∷◌, ◌++◌, length, slice_index_or, slice_set}
use Rattle.std.specs.List.{list_any}
use Rattle.reach_marks.specs.declared.Reaching.{Reaching}

abbrev pub is_in : List ℕ → ℕ → Bool
is_in ns n = list_any (λ (m : ℕ). m == n) ns

-- whether one of the numbers from k on that pass a test has n in its list
abbrev pub leads : (ℕ → Bool) → ℕ → List (List ℕ) → ℕ → Bool
leads test k [] n = false
leads test k (ns ∷ next) n = (is_in ns n && test k) || leads test (suc k) next n

-- whether a number is a root, or is reached from one in so many steps
unfoldable pub reaches : List ℕ → List (List ℕ) → ℕ → ℕ → Bool
reaches roots next zero n = is_in roots n
reaches roots next (suc depth) n = is_in roots n || leads (reaches roots next depth) 0 next n

-- Of each number whether it is reached. No number needs more steps than there are lists.
pub record IsReached (roots : List ℕ) (next : List (List ℕ)) (marks : List Bool) : Type 0 where
  pub count : length marks ≡ length next
  pub each : (n : ℕ) → n < length next → slice_index_or marks n false ≡ reaches roots next (length next) n

-- what follows a number
abbrev pub list_at : List (List ℕ) → ℕ → List ℕ
list_at next n = slice_index_or next n []

abbrev pub visited : List (List ℕ) → Reaching → ℕ → Reaching
visited next s n = cond (not (slice_index_or s.marks n true)) (record { marks = slice_set s.marks n true; todo = s.todo ++ list_at next n }) s

-- the most that is left to do
abbrev pub open_work : List Bool → List (List ℕ) → ℕ
open_work [] next = 0
open_work (m ∷ marks) [] = 0
open_work (m ∷ marks) (ns ∷ next) = cond m 0 (suc (length ns)) + open_work marks next

abbrev pub work : List (List ℕ) → Reaching → ℕ
work next s = open_work s.marks next + length s.todo
