-- What the needs are for the combinational processes of a machine.
use Rattle.std.specs.Prelude.{◌≡◌, ℕ, ◌<◌, true, List, length, slice_index_or}
use Rattle.row_machine.specs.Valuation.{Place, has}
use Rattle.row_machine.specs.Machine.{Process}
use Rattle.bit_sets.specs.Sets.{in_spans}
use Rattle.peel.specs.Laws.{NeedsFollowed}
use Rattle.bit_needs.specs.declared.footprints.Footprint.{Footprint}
use Rattle.bit_needs.specs.Needs.{AreNeeds, footprint_at}

-- the footprint of a process by numbers of bits: each number stands for a bit, and each bit that the process writes has one
pub record IsFootprint (place : ℕ → Place) (f : Footprint) (p : Process) : Type 0 where
  pub reads : (n : ℕ) → in_spans f.reads n ≡ has p.reads (place n)
  pub writes : (n : ℕ) → in_spans f.writes n ≡ has p.writes (place n)
  pub numbered : (q : Place) → has p.writes q ≡ true → (n : ℕ) × (place n ≡ q)

-- and those of some processes, with d past the end
pub record AreFootprints (place : ℕ → Place) (fs : List Footprint) (ps : List Process) (d : Process) : Type 0 where
  pub count : length fs ≡ length ps
  pub each : (k : ℕ) → k < length ps → IsFootprint place (footprint_at fs k) (slice_index_or ps k d)

abbrev pub NeedsAreFollowed : Type 0
NeedsAreFollowed = (place : ℕ → Place) (fs : List Footprint) (ps : List Process) (d : Process) (needs : List (List ℕ))
    → AreFootprints place fs ps d → AreNeeds fs needs → NeedsFollowed ps d needs
