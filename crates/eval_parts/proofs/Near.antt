-- Parts of paths don't lie too far away.
use Rattle.std.proofs.Common.{◌≡◌, ℕ, ◌+◌, ◌^◌, ◌<◌, ◌≤◌, max, min, Bool, true, false, cond, ℤ, pos, negsuc, ◌+ℤ◌, refl, arith, subst, sym}
use Rattle.std.specs.Prelude.{nat_lt}
use Rattle.std.proofs.lemmas.Int.{ints}
use Rattle.std.proofs.lemmas.Bool.Decides.{nat_tests}
use Rattle.sv_types.specs.Windows.{Window, nowhere, part, at_least_0}
use Rattle.eval_parts.specs.declared.paths.Window as W
use Rattle.eval_parts.specs.Places.{IsNear, window_of}

near-by : (b : Bool) (s : ℤ) (low high w : ℕ) → nat_lt (max low (at_least_0 s)) (min high (at_least_0 (s +ℤ pos w))) ≡ b → high ≤ 2 ^ 32 → w ≤ 2 ^ 100
    → IsNear (cond {A = Window} b (record { shift = s; low = max low (at_least_0 s); high = min high (at_least_0 (s +ℤ pos w)) }) nowhere).shift
near-by true (pos n) low high w is h g = let some : max low n < min high (n + w) = grind (arith, nat_tests) in record { above = omega (arith, ints); below = omega (arith, ints) }
near-by true (negsuc n) low high w is h g = record { above = grind (arith, ints, nat_tests); below = omega (arith, ints) }
near-by false s low high w is h g = record { above = omega (arith, ints); below = omega (arith, ints) }

-- a part that isn't too wide of a path that isn't too long
pub part-near : (o : ℤ) (w : ℕ) (path : Window) → path.high ≤ 2 ^ 32 → w ≤ 2 ^ 100 → IsNear (part o w path).shift
part-near o w path h g = near-by _ (path.shift +ℤ o) path.low path.high w refl h g

-- the same of a window in the code
pub near-part : (r : W.Window) (o : ℤ) (w : ℕ) (path : W.Window) → window_of r ≡ part o w (window_of path) → path.high < 2 ^ 32 → w ≤ 2 ^ 100 → IsNear r.shift
near-part r o w path is h g = subst (λ (p : Window). IsNear p.shift) (sym is) (part-near o w (window_of path) (omega arith) g)

pub ruleset parts = (near-part)
