-- Part-selects by an index: what is out of range is x.
use Rattle.std.proofs.Common.{◌≡◌, ℕ, zero, suc, ◌<◌, ◌≤◌, max, min, Bool, true, false, ◌&&◌, cond, ℤ, pos, negsuc, ◌+ℤ◌, ◌-ℤ◌, List, Some, None, refl, arith, sym, ◌∙◌, ap}
use Rattle.std.specs.Prelude.{slice_index_or, int_le, int_lt, nat_le, nat_lt}
use Rattle.std.proofs.lemmas.Int.{ints}
use Rattle.std.proofs.lemmas.Bool.Decides.{nat_tests}
use Rattle.b4_core.specs.declared.bit.Bit4.{Bit4}
use Rattle.b4_core.specs.declared.bit.Bit4.TheVariants.{X}
use Rattle.picks.specs.Windows.{Window, whole, part, within, picked, bit_at, seen, tabulated, at_least_0}
use Rattle.sv_types.proofs.Picks.{pick, range-same, picked-trimmed, tabulated-same}
use Rattle.lowering_laws.proofs.WriteAt.{IsTight}

-- bit j of n bits from z on, whatever the sign of z
pub picked-slide : (z : ℤ) (n : ℕ) (path : Window) (j : ℕ) → j < n → picked (part z n path) j ≡ pick path.low path.high (pos j +ℤ (path.shift +ℤ z))
picked-slide z n path j h =
    let s = path.shift +ℤ z in
    let e = s +ℤ pos n in
    picked-trimmed (record { shift = s; low = max path.low (at_least_0 s); high = min path.high (at_least_0 e) }) j
    ∙ ap (λ b. cond b (Some (at_least_0 (pos j +ℤ s))) None) (range-same path.low path.high s e (pos j +ℤ s) (omega (arith, ints)) (omega (arith, ints)))

index-tabulated : (n m : ℕ) (f : ℕ → Bit4) → m < n → slice_index_or (tabulated n f) m X ≡ f m
index-tabulated zero m f h = absurd (omega arith)
index-tabulated (suc n) zero f h = refl
index-tabulated (suc n) (suc m) f h = index-tabulated n m (λ k. f (suc k)) (omega arith)

-- a bit that isn't one of a tight path's
far-by : (path : Window) (w : ℕ) (d k : ℤ) (c : Bool) → IsTight path w → d +ℤ path.shift ≡ k → ((m : ℕ) → d ≡ pos m → m < w → ⊥)
    → (int_le (pos path.low) k && int_lt k (pos path.high)) ≡ c → cond c (Some (at_least_0 k)) None ≡ None
far-by path w d k false tight is far test = refl
far-by path w d (negsuc b) true tight is far test = absurd (cc)
far-by path w d (pos b) true tight is far test = absurd (far (at_least_0 (pos b -ℤ path.shift)) same (tight.below b inside))
  where
    tests : (low high x : ℕ) → (int_le (pos low) (pos x) && int_lt (pos x) (pos high)) ≡ true → (nat_le low x && nat_lt x high) ≡ true
    tests low high x t = grind (arith, nat_tests)

    inside : within path b ≡ true
    inside = tests path.low path.high b test

    back : (x y : ℤ) (s : ℤ) → x +ℤ s ≡ y → ((u : ℤ) → u +ℤ s ≡ y → x ≡ u)
    back x y s e u f = omega (arith, ints)

    same : d ≡ pos (at_least_0 (pos b -ℤ path.shift))
    same = back d (pos b) path.shift is (pos (at_least_0 (pos b -ℤ path.shift))) (tight.at_it b inside)

pub far : (path : Window) (w : ℕ) (d : ℤ) → IsTight path w → ((m : ℕ) → d ≡ pos m → m < w → ⊥) → pick path.low path.high (d +ℤ path.shift) ≡ None
far path w d tight h = far-by path w d (d +ℤ path.shift) _ tight refl h refl

-- the bits from z on of what a path reads
module _ (held : List Bit4) (path : Window) (w : ℕ) (tight : IsTight path w) where
  one-bit : (d : ℤ) → bit_at held (pick path.low path.high (d +ℤ path.shift)) ≡ bit_at (seen held path w) (pick 0 w d)
  one-bit (negsuc m) = ap (bit_at held) (far path w (negsuc m) tight (λ k e less. cc))
  one-bit (pos m) = by (nat_lt m w) refl
    where
      by : (c : Bool) → nat_lt m w ≡ c → bit_at held (pick path.low path.high (pos m +ℤ path.shift)) ≡ bit_at (seen held path w) (pick 0 w (pos m))
      by true h =
          let less : m < w = grind (arith, nat_tests) in
          let test : (int_le (pos 0) (pos m) && int_lt (pos m) (pos w)) ≡ true = grind (arith, nat_tests) in
          sym (index-tabulated w m (λ j. bit_at held (picked path j)) less)
          ∙ sym (ap (λ c. bit_at (seen held path w) (cond c (Some m) None)) test)
      by false h =
          let many : w ≤ m = grind (arith, nat_tests) in
          let test : (int_le (pos 0) (pos m) && int_lt (pos m) (pos w)) ≡ false = grind (arith, nat_tests) in
          ap (bit_at held) (far path w (pos m) tight (λ k e less. outside k e less many)) ∙ sym (ap (λ c. bit_at (seen held path w) (cond c (Some m) None)) test)
        where
          outside : (k : ℕ) → pos m ≡ pos k → k < w → w ≤ m → ⊥
          outside k e less many = omega (arith, ints)

  -- are those of the whole that it reads, where they are in range
  pub slide-read : (z : ℤ) (n : ℕ) → seen held (part z n path) n ≡ seen (seen held path w) (part z n (whole w)) n
  slide-read z n = tabulated-same n _ _ (λ j h. at j h)
    where
      at : (j : ℕ) → j < n → bit_at held (picked (part z n path) j) ≡ bit_at (seen held path w) (picked (part z n (whole w)) j)
      at j h =
          let d : ℤ = pos j +ℤ z in
          let left : pos j +ℤ (path.shift +ℤ z) ≡ (pos j +ℤ z) +ℤ path.shift = omega (arith, ints) in
          let right : pos j +ℤ (pos 0 +ℤ z) ≡ pos j +ℤ z = omega (arith, ints) in
          ap (bit_at held) (picked-slide z n path j h ∙ ap (pick path.low path.high) left)
          ∙ one-bit (pos j +ℤ z)
          ∙ sym (ap (bit_at (seen held path w)) (picked-slide z n (whole w) j h ∙ ap (pick 0 w) right))
