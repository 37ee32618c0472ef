-- What the two lists say of the combinational processes of a machine.
use Rattle.std.specs.Prelude.{◌≡◌, ℕ, ◌<◌, true, List, [], length, slice_index_or}
use Rattle.row_machine.specs.Valuation.{Member}
use Rattle.row_machine.specs.Machine.{Process}
use Rattle.row_machine.specs.Order.{Free, follows}
use Rattle.row_machine.specs.Stuck.{Stuck, IsOrderOfPlaces}
use Rattle.peel.specs.Peeled.{needed, IsPeeled}

-- a process needs exactly those that it follows, each by its place; d stands past the end
pub record NeedsFollowed (ps : List Process) (d : Process) (needs : List (List ℕ)) : Type 0 where
  pub count : length needs ≡ length ps
  pub followed : (p q : ℕ) → p < length ps → q < length ps → Member (needed needs p) q → follows (slice_index_or ps p d) (slice_index_or ps q d) ≡ true
  pub needs_it : (p q : ℕ) → p < length ps → q < length ps → follows (slice_index_or ps p d) (slice_index_or ps q d) ≡ true → Member (needed needs p) q

-- where none is left, it is an order of the processes
abbrev pub PeeledIsAnOrder : Type 0
PeeledIsAnOrder = (ps : List Process) (d : Process) (needs : List (List ℕ)) (order : List ℕ) → NeedsFollowed ps d needs → IsPeeled needs order [] → IsOrderOfPlaces ps d order

-- the processes in the order are free
abbrev pub OrderedAreFree : Type 0
OrderedAreFree = (ps : List Process) (d : Process) (needs : List (List ℕ)) (order left : List ℕ) → NeedsFollowed ps d needs → IsPeeled needs order left
    → (p : ℕ) → Member order p → Free ps (slice_index_or ps p d)

-- and those that are left are stuck
abbrev pub RestIsStuck : Type 0
RestIsStuck = (ps : List Process) (d : Process) (needs : List (List ℕ)) (order left : List ℕ) → NeedsFollowed ps d needs → IsPeeled needs order left
    → (p : ℕ) → Member left p → Stuck ps (slice_index_or ps p d)
