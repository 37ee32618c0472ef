-- Which things need which.
use Rattle.std.specs.Prelude.{◌≡◌, ℕ, ◌<◌, true, List, [], length, slice_index_or}
use Rattle.row_machine.specs.Valuation.{Member}
use Rattle.bit_sets.specs.Sets.{in_spans}
use Rattle.peel.specs.Peeled.{needed}
use Rattle.bit_needs.specs.declared.footprints.Footprint.{Footprint}

abbrev pub no_footprint : Footprint
no_footprint = record { reads = []; writes = [] }

-- what stands at a place, or nothing past the end
abbrev pub footprint_at : List Footprint → ℕ → Footprint
footprint_at fs k = slice_index_or fs k no_footprint

-- the first reads a number that the second writes
pub record Meets (a b : Footprint) : Type 0 where
  pub number : ℕ
  pub read : in_spans a.reads number ≡ true
  pub written : in_spans b.writes number ≡ true

-- each needs exactly those that write a number that it reads
pub record AreNeeds (fs : List Footprint) (needs : List (List ℕ)) : Type 0 where
  pub count : length needs ≡ length fs
  pub only : (p q : ℕ) → p < length fs → Member (needed needs p) q → (q < length fs) × Meets (footprint_at fs p) (footprint_at fs q)
  pub every : (p q : ℕ) → p < length fs → q < length fs → Meets (footprint_at fs p) (footprint_at fs q) → Member (needed needs p) q
