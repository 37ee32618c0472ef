-- Assignments that stay inside signals.
use Rattle.std.specs.Prelude.{◌≡◌, ◌≤◌, ℕ, true, List, [], ◌∷◌, slice_index_or}
use Rattle.v_meaning.specs.Scopes.{Named, all_bits, is_signal}
use Rattle.v_meaning.specs.Runs.{State}
use Rattle.v_run.specs.Changes.{Within}

-- the signals that these names stand for have as many bits as is told, or fewer
abbrev pub NamesFit : List ℕ → List Named → Type 0
NamesFit ws [] = Unit {0}
NamesFit ws (n ∷ ns) = (is_signal n.number ≡ true → all_bits n ≤ slice_index_or ws n.number 0) × NamesFit ws ns

-- what a run has written of signals that have so many bits, and what is pending, are bits that are there
pub record Inside (ws : List ℕ) (s : State) : Type 0 where
  pub written : Within ws s.written
  pub pending : Within ws s.pending
