-- Which types are too long, and names of no bytes.
use Rattle.std.proofs.Common.{◌≡◌, ◌≤◌, ◌<◌, ◌==◌, ℕ, suc, true, false, List, [], ◌∷◌, length, refl, arith}
use Rattle.std.specs.Prelude.{nat_lt}
use Rattle.std.specs.Str.{bytes_eq}
use Rattle.std.proofs.lemmas.Bool.Decides.{nat_tests}
use Rattle.std.proofs.lemmas.Int.{ints}

pub longer-not : (w : ℕ) → 4194304 < w → nat_lt 65536 w ≡ true
longer-not w h = let g : 65536 < w = omega arith in grind (arith, nat_tests, g)

pub ruleset longer = (longer-not, nat_tests)

pub short : (w : ℕ) → nat_lt 65536 w ≡ false → w ≤ 4194304
short w h = grind (arith, nat_tests)

pub ruleset lengths = (short)

pub ruleset widths = (ints)

not-zero : (n : ℕ) → (suc n == 0) ≡ false
not-zero n = grind (arith, nat_tests)

pub empty-word : (xs : List ℕ) → (length xs == 0) ≡ bytes_eq xs []
empty-word [] = refl
empty-word (x ∷ xs) = not-zero (length xs)

pub ruleset words = (empty-word)
