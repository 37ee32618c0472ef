-- What an expansion has left to do: why it ends.
use Rattle.std.specs.Prelude.{ℕ, ◌+◌, ◌-◌, ◌*◌, ◌^◌, ◌<◌, ◌≤◌, Bool, true, false, length, Result, Ok, Err}
use Rattle.sv_preproc.specs.States.{State}
use Rattle.sv_preproc.specs.Machine.{Machine}
use Rattle.sv_preproc.specs.declared.settings.ExpandFail.{ExpandFail}

-- what comes, the bytes that may be loaded and the tokens that may be spent, and the files of the command line, of which
-- there are so many
abbrev pub weight : ℕ → State → ℕ
weight count s = length s.coming + (2 ^ 26 - s.loaded) + (2 ^ 22 - s.spent) + 2 * (count - s.next)

-- the same and the calls that are read
abbrev pub heft : ℕ → Machine → ℕ
heft count m = weight count m.state + length m.calls

-- the most that is left at the start
abbrev pub most_weight : ℕ
most_weight = 2 ^ 26 + 2 ^ 22 + 2 ^ 31

-- no count passes its bound
pub record Ready (count : ℕ) (m : Machine) : Type 0 where
  pub spent : m.state.spent ≤ 2 ^ 22
  pub loaded : m.state.loaded ≤ 2 ^ 26
  pub uses : m.state.uses + heft count m ≤ most_weight
  pub names : length m.state.names + heft count m ≤ most_weight

-- an expansion that goes on has less left
abbrev pub Settles : ℕ → Machine → Machine → Result Bool ExpandFail → Type 0
Settles count before now (Ok true) = Ready count now × (heft count now < heft count before)
Settles count before now (Ok false) = Unit {0}
Settles count before now (Err fail) = Unit {0}
