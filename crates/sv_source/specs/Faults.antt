-- Counts of faults. A device counts how often it has failed. The count never falls, and one that is kept in 64
-- bits stays at 2^64 - 1.
use Rattle.std.specs.Prelude.{◌≡◌, ◌⊎◌, ℕ, ◌-◌, ◌^◌, ◌<◌, ◌≤◌}

-- the count rose in the call, or stands at its last value
abbrev pub Rose : ℕ → ℕ → Type 0
Rose before now = (before < now) ⊎ (now ≡ 2 ^ 64 - 1)

-- the premise of a promise: the count neither rose in the call nor stands at its last value
pub record NoFault (before now : ℕ) : Type 0 where
  pub level : now ≤ before
  pub below : now < 2 ^ 64 - 1

-- part of a cause: the count didn't rise in the call, whatever value it stands at
abbrev pub NotRaised : ℕ → ℕ → Type 0
NotRaised before now = now ≤ before
