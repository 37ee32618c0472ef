-- Windows as the code has them, and how far they reach.
use Rattle.std.specs.Prelude.{◌^◌, ◌≤◌, ◌≤ℤ◌, pos, neg_ℤ}
use Rattle.picks.specs.Windows as P
use Rattle.v_eval.specs.declared.windows.Window.{Window}

abbrev pub window_of : Window → P.Window
window_of w = record { shift = w.shift; low = w.low; high = w.high }

-- so far that sums don't overflow
pub record IsNear (w : Window) : Type 0 where
  pub above : neg_ℤ (pos (2 ^ 66)) ≤ℤ w.shift
  pub below : w.shift ≤ℤ pos (2 ^ 66)
  pub high : w.high ≤ 2 ^ 64
