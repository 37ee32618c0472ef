-- Windows as the code has them, and how far they reach.
use Rattle.std.specs.Prelude.{◌≡◌, ⊤, true, ℕ, ◌^◌, ◌<◌, ◌≤ℤ◌, ℤ, pos, neg_ℤ, Option, Some, None, Result, Ok, Err, slice_index_or}
use Rattle.b4_core.specs.declared.bit.Bit4.{Bit4}
use Rattle.b4_core.specs.declared.bit.Bit4.TheVariants.{X}
use Rattle.picks.specs.Windows as P
use Rattle.sv_types.specs.RowMachine.{Valuation}
use Rattle.sv_types.specs.Surroundings.{Around, local_number}
use Rattle.sv_types.specs.Meanings.{Meaning}
use Rattle.sv_types.specs.Paths.{places_from}
use Rattle.eval_parts.specs.declared.halt.Halt.{Halt}
use Rattle.eval_parts.specs.declared.paths.Window.{Window}
use Rattle.eval_parts.specs.declared.paths.Root.{Root}
use Rattle.eval_parts.specs.declared.paths.Root.TheVariants as R
use Rattle.eval_parts.specs.declared.paths.Found.{Found}
use Rattle.eval_parts.specs.Surroundings.{running}
use Rattle.eval_parts.specs.Answers.{Halts}

abbrev pub window_of : Window → P.Window
window_of path = record { shift = path.shift; low = path.low; high = path.high }

-- so far that sums don't overflow
pub record IsNear (n : ℤ) : Type 0 where
  pub above : neg_ℤ (pos (2 ^ 100)) ≤ℤ n
  pub below : n ≤ℤ pos (2 ^ 100)

-- the bit that a path reads where it is in range, and else x
abbrev pub bit_or_x : (ℕ → Bit4) → Option ℕ → Bit4
bit_or_x f None = X
bit_or_x f (Some k) = f k

-- the number of what a path stands on, and the bits that it holds
abbrev pub number_of : Root → Option ℕ
number_of (R.Signal n) = Some n
number_of (R.Local n) = Some (local_number n)
number_of (R.Value v) = None

abbrev pub bit_of : Root → Valuation → ℕ → Bit4
bit_of (R.Signal n) now k = now (record { signal = n; bit = k })
bit_of (R.Local n) now k = now (record { signal = local_number n; bit = k })
bit_of (R.Value v) now k = slice_index_or v k X

-- a path that is found: what it stands on, and which bits of it the path names
pub record IsFound (f : Found) (m : Meaning) (a : Around) : Type 0 where
  pub root : m.root ≡ number_of f.root
  pub window : m.window a ≡ window_of f.window
  pub bits : (k : ℕ) → k < f.window.high → slice_index_or (m.base a) k X ≡ bit_of f.root a.now k
  pub near : IsNear f.window.shift

-- finding a path values its indices, and finding anything else values it
abbrev pub FindGives : Result Found Halt → Meaning → Around → Option ℕ → Option ℕ → Type 0
FindGives (Ok f) m a old new = IsFound f m a × (places_from m.root m a (running old) ≡ running new)
FindGives (Err halt) m a old new = Halts halt (places_from m.root m a (running old))

-- what a path stands on is held, if it is a signal
abbrev pub IsHeld : Root → Around → Type 0
IsHeld (R.Signal n) a = (n < 2 ^ 32) × (a.holds n ≡ true)
IsHeld (R.Local n) a = ⊤
IsHeld (R.Value v) a = ⊤
