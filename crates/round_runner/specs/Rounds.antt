-- What rounds over stores come to.
use Rattle.std.specs.Prelude.{◌≡◌, ◌≢◌, ℕ, ◌<◌, Bool, List, slice_index_or}
use Rattle.b4_core.specs.declared.bit.Bit4.{Bit4}
use Rattle.row_machine.specs.Valuation.{Place, Valuation}
use Rattle.row_machine.specs.Machine.{Machine, Started}
use Rattle.row_machine.specs.Places.{vector_at}
use Rattle.row_machine.specs.Rounds as R
use Rattle.row_machine.specs.Unsettled.{NeverRests}
use Rattle.round_runner.specs.declared.rounds.Change.{Change}
use Rattle.round_runner.specs.declared.rounds.Ended.{Ended}
use Rattle.round_runner.specs.declared.rounds.Ended.TheVariants.{Rests, Changes}
use Rattle.round_runner.specs.Stores.{holding, widths}
use Rattle.round_runner.specs.Parts.{Marks}

-- a store that holds what a round makes of another one, over a base
pub record IsRound (d : Machine) (flags : List Bool) (base held made : List (List Bit4)) : Type 0 where
  pub values : (s : Started) → Marks d.combs s flags → holding made ≡ R.round d s (holding base) (holding held)
  pub shape : widths made ≡ widths base

-- what the last of the rounds up to the limit begins with, and what it makes of that
abbrev pub before_last : Machine → Started → Valuation → Valuation
before_last d s base = R.after_rounds d s base (R.written_bits d.combs) base

abbrev pub after_last : Machine → Started → Valuation → Valuation
after_last d s base = R.round d s base (before_last d s base)

-- the first signal that the last of the rounds changes, with its vectors before and after that round
pub record LastChange (d : Machine) (s : Started) (base : Valuation) (ws : List ℕ) (c : Change) : Type 0 where
  pub before_is : c.before ≡ vector_at (before_last d s base) c.signal (slice_index_or ws c.signal 0)
  pub after_is : c.after ≡ vector_at (after_last d s base) c.signal (slice_index_or ws c.signal 0)
  pub apart : c.before ≢ c.after
  pub first : (q : Place) → q.signal < c.signal → after_last d s base q ≡ before_last d s base q

-- the rounds come to rest
pub record ComeToRest (d : Machine) (flags : List Bool) (base made : List (List Bit4)) : Type 0 where
  pub reached : (s : Started) → Marks d.combs s flags → R.Reaches d s (holding base) (holding made)
  pub shape : widths made ≡ widths base

-- the rounds up to the limit don't
pub record GoOn (d : Machine) (flags : List Bool) (base : List (List Bit4)) (c : Change) : Type 0 where
  pub never : (s : Started) → Marks d.combs s flags → NeverRests d s (holding base)
  pub last : (s : Started) → Marks d.combs s flags → LastChange d s (holding base) (widths base) c

abbrev pub RoundsEnd : Machine → List Bool → List (List Bit4) → Ended → Type 0
RoundsEnd d flags base (Rests made) = ComeToRest d flags base made
RoundsEnd d flags base (Changes c) = GoOn d flags base c
