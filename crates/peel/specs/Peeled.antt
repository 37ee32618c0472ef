-- An order of things that need each other, and those that no order holds.
use Rattle.std.specs.Prelude.{ℕ, ◌<◌, ⊤, List, [], ◌∷◌, ◌++◌, length, take, slice_index_or}
use Rattle.row_machine.specs.Valuation.{Member}
use Rattle.row_machine.specs.Stuck.{Distinct}

-- the numbers that p needs, and none past the end
abbrev pub needed : List (List ℕ) → ℕ → List ℕ
needed needs p = slice_index_or needs p []

-- each number is below those that stand behind it
abbrev pub Ascending : List ℕ → Type 0
Ascending [] = ⊤
Ascending (k ∷ ks) = ((j : ℕ) → Member ks j → k < j) × Ascending ks

-- each number below the count stands once in one of the two lists. Of these numbers, one in the order needs only what
-- stands before it, and one that is left needs one that is left
pub record IsPeeled (needs : List (List ℕ)) (order left : List ℕ) : Type 0 where
  pub within : (p : ℕ) → Member (order ++ left) p → p < length needs
  pub every : (p : ℕ) → p < length needs → Member (order ++ left) p
  pub distinct : Distinct (order ++ left)
  pub earlier : (i q : ℕ) → i < length order → q < length needs → Member (needed needs (slice_index_or order i 0)) q → Member (take i order) q
  pub waiting : (p : ℕ) → Member left p → (q : ℕ) × Member (needed needs p) q × Member left q
  pub ascending : Ascending left
