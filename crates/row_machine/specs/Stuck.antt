-- Stuck processes, and orders given by places.
use Rattle.std.specs.Prelude.{◌≡◌, ◌⊎◌, ℕ, ◌<◌, true, ⊤, List, [], ◌∷◌, length, map, slice_index_or}
use Rattle.row_machine.specs.Valuation.{Member}
use Rattle.row_machine.specs.Machine.{Process}
use Rattle.row_machine.specs.Order.{follows, Ordered}

-- the first process follows the second, in one step or more
pub data FollowsOn (ps : List Process) : Process → Process → Type 0 where
  at_once : {p q : Process} → Member ps q → follows p q ≡ true → FollowsOn ps p q
  further : {p q r : Process} → Member ps q → follows p q ≡ true → FollowsOn ps q r → FollowsOn ps p r

-- a process is stuck if it lies on a circle, or follows a process that does
pub record Stuck (ps : List Process) (p : Process) : Type 0 where
  pub circle : Process
  pub is_circle : FollowsOn ps circle circle
  pub leads_there : (p ≡ circle) ⊎ FollowsOn ps p circle

-- no number stands twice in the list
abbrev pub Distinct : List ℕ → Type 0
Distinct [] = ⊤
Distinct (k ∷ ks) = (Member ks k → ⊥) × Distinct ks

-- the processes at these places, with d for a place past the end
abbrev pub at_places : List Process → Process → List ℕ → List Process
at_places ps d ks = map (λ k. slice_index_or ps k d) ks

-- each place of the list once, so that no process follows itself or a later one
pub record IsOrderOfPlaces (ps : List Process) (d : Process) (ks : List ℕ) : Type 0 where
  pub within : (k : ℕ) → Member ks k → k < length ps
  pub every : (k : ℕ) → k < length ps → Member ks k
  pub distinct : Distinct ks
  pub ordered : Ordered (at_places ps d ks)
