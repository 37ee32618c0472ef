-- Parts of paths don't lie too far away.
use Rattle.std.proofs.Common.{◌≡◌, ℕ, ◌+◌, ◌^◌, ◌<◌, ◌≤◌, max, min, Bool, true, false, cond, ℤ, pos, negsuc, neg_ℤ, ◌+ℤ◌, ◌≤ℤ◌, refl, arith, subst, sym, ap}
use Rattle.std.specs.Prelude.{nat_lt}
use Rattle.std.proofs.lemmas.Int.{ints}
use Rattle.std.proofs.lemmas.Bool.Decides.{nat_tests}
use Rattle.picks.specs.Windows.{Window, nowhere, part, trimmed, at_least_0}
use Rattle.v_eval.specs.declared.windows.Window as W
use Rattle.v_eval.specs.Windows.{IsNear, window_of}

record Close (w : Window) : Type 0 where
  above : neg_ℤ (pos (2 ^ 66)) ≤ℤ w.shift
  below : w.shift ≤ℤ pos (2 ^ 66)
  high : w.high ≤ 2 ^ 64

near-by : (b : Bool) (s : ℤ) (low high w : ℕ) → nat_lt (max low (at_least_0 s)) (min high (at_least_0 (s +ℤ pos w))) ≡ b → high ≤ 2 ^ 64 → w ≤ 2 ^ 64
    → Close (cond {A = Window} b (record { shift = s; low = max low (at_least_0 s); high = min high (at_least_0 (s +ℤ pos w)) }) nowhere)
near-by true (pos n) low high w is h g = let some : max low n < min high (n + w) = grind (arith, nat_tests) in record { above = omega (arith, ints); below = omega (arith, ints); high = omega arith }
near-by true (negsuc n) low high w is h g = record { above = grind (arith, ints, nat_tests); below = omega (arith, ints); high = omega arith }
near-by false s low high w is h g = record { above = omega (arith, ints); below = omega (arith, ints); high = omega arith }

part-close : (o : ℤ) (w : ℕ) (path : Window) → path.high ≤ 2 ^ 64 → w ≤ 2 ^ 64 → Close (part o w path)
part-close o w path h g = near-by _ (path.shift +ℤ o) path.low path.high w refl h g

-- a part that isn't too wide of a path that isn't too long
pub near-part : (r : W.Window) (o : ℤ) (w : ℕ) (path : W.Window) → window_of r ≡ part o w (window_of path) → IsNear path → w ≤ 2 ^ 64 → IsNear r
near-part r o w path is h g =
    let c = subst Close (sym is) (part-close o w (window_of path) h.high g) in
    record { above = c.above; below = c.below; high = c.high }

pub ruleset parts = (near-part)

pub trimmed-some : (path : Window) → path.low < path.high → trimmed path ≡ path
trimmed-some path h = let test : nat_lt path.low path.high ≡ true = grind (arith, nat_tests) in ap (λ b. cond b path nowhere) test

pub trimmed-none : (path : Window) → path.high ≤ path.low → trimmed path ≡ nowhere
trimmed-none path h = let test : nat_lt path.low path.high ≡ false = grind (arith, nat_tests) in ap (λ b. cond b path nowhere) test

pub ruleset trimming = (trimmed-some, trimmed-none)
