-- Where breaks stand in the text.
use Rattle.std.specs.Prelude.{◌≡◌, ◌≤◌, ◌^◌, ℕ, length}
use Rattle.row_machine.specs.Valuation.{Member}
use Rattle.sv_source.specs.declared.token.Spot.{Spot}
use Rattle.sv_types.specs.declared.design.Design.{Design}
use Rattle.design_breaks.specs.declared.Break.{Break}
use Rattle.design_breaks.specs.Breaks.{breaks}
use Rattle.design_breaks.specs.Spots.{spots_in}

-- a token of an instance's text
pub record StandsIn (d : Design) (instance : ℕ) (at : ℕ) : Type 0 where
  pub spot : Spot
  pub stands : Member (spots_in d instance) spot
  pub at_it : spot.at ≡ at

abbrev pub BreaksHaveSpots : Type 0
BreaksHaveSpots = (d : Design) → length d.signals ≤ 2 ^ 32 → (b : Break) → Member (breaks d) b → StandsIn d b.instance b.at
