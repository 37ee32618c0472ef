-- What a step of a select path makes of what was found.
use Rattle.std.specs.Prelude.{◌≡◌, ℕ, List, Result, Ok, Err}
use Rattle.b4_core.specs.declared.bit.Bit4.{Bit4}
use Rattle.sv_types.specs.Windows as W
use Rattle.sv_types.specs.Windows.{whole}
use Rattle.eval_parts.specs.declared.halt.Halt.{Halt}
use Rattle.eval_parts.specs.declared.paths.Found.{Found}
use Rattle.eval_parts.specs.declared.paths.Root.TheVariants as R
use Rattle.eval_parts.specs.Places.{window_of, IsNear}

-- the same root, and a window by a step
pub record Moves (from : Found) (step : W.Window → W.Window) (to : Found) : Type 0 where
  pub root : to.root ≡ from.root
  pub window : window_of to.window ≡ step (window_of from.window)
  pub near : IsNear to.window.shift

abbrev pub MovesTo : Found → (W.Window → W.Window) → Result Found Halt → Type 0
MovesTo from step (Ok to) = Moves from step to
MovesTo from step (Err halt) = ⊥

abbrev pub StepsOn : Result Found Halt → (W.Window → W.Window) → Result Found Halt → Type 0
StepsOn (Ok from) step r = MovesTo from step r
StepsOn (Err halt) step r = r ≡ Err halt

abbrev pub StepsBy : Found → Result (List Bit4) Halt → (List Bit4 → W.Window → W.Window) → Result Found Halt → Type 0
StepsBy from (Ok v) step r = MovesTo from (step v) r
StepsBy from (Err halt) step r = r ≡ Err halt

-- all bits of a value
pub record Stands (v : List Bit4) (width : ℕ) (to : Found) : Type 0 where
  pub root : to.root ≡ R.Value v
  pub window : window_of to.window ≡ whole width
  pub near : IsNear to.window.shift

abbrev pub StandsTo : List Bit4 → ℕ → Result Found Halt → Type 0
StandsTo v width (Ok to) = Stands v width to
StandsTo v width (Err halt) = ⊥

abbrev pub StandsOn : Result (List Bit4) Halt → ℕ → Result Found Halt → Type 0
StandsOn (Ok v) width r = StandsTo v width r
StandsOn (Err halt) width r = r ≡ Err halt
