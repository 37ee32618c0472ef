-- What is written at an offset under a guard.
use Rattle.std.proofs.Common.{◌≡◌, ℕ, suc, ◌+◌, ◌-◌, ◌<◌, ◌≤◌, max, min, Bool, true, false, ◌&&◌, ◌==◌, cond, ℤ, pos, negsuc, ◌+ℤ◌, ◌-ℤ◌, List, Option, Some, None, refl, arith, sym, ◌∙◌, subst, ap, true≢false}
use Rattle.std.specs.Prelude.{nat_le, nat_lt, int_le, int_lt, slice_index_or}
use Rattle.std.proofs.lemmas.Int.{ints}
use Rattle.std.proofs.lemmas.Bool.Decides.{nat_tests}
use Rattle.b4_core.specs.declared.bit.Bit4.{Bit4}
use Rattle.b4_core.specs.declared.bit.Bit4.TheVariants.{X}
use Rattle.row_machine.specs.Valuation.{Place}
use Rattle.picks.specs.Windows.{Window, whole, nowhere, part, within, picked, written, at_least_0}

-- each bit of a window of n bits is one of the path's
pub record IsTight (path : Window) (n : ℕ) : Type 0 where
  pub below : (b : ℕ) → within path b ≡ true → at_least_0 (pos b -ℤ path.shift) < n
  pub at_it : (b : ℕ) → within path b ≡ true → pos (at_least_0 (pos b -ℤ path.shift)) +ℤ path.shift ≡ pos b

pub nowhere-tight : (n : ℕ) → IsTight nowhere n
nowhere-tight n = record { below = λ b h. absurd (none b h); at_it = λ b h. absurd (none b h) }
  where
    none : (b : ℕ) → within nowhere b ≡ true → ⊥
    none b h = grind (arith, nat_tests)

pub whole-tight : (n : ℕ) → IsTight (whole n) n
whole-tight n = record { below = λ b h. inside b (and-right b h); at_it = λ b h. same b }
  where
    and-right : (b : ℕ) → within (whole n) b ≡ true → b < n
    and-right b h = grind (arith, nat_tests)

    inside : (b : ℕ) → b < n → at_least_0 (pos b -ℤ pos 0) < n
    inside b h = omega (arith, ints)

    same : (b : ℕ) → pos (at_least_0 (pos b -ℤ pos 0)) +ℤ pos 0 ≡ pos b
    same b = omega (arith, ints)

-- how far a bit lies above the shift
gap : (b : ℕ) (s : ℤ) → at_least_0 s ≤ b → (m : ℕ) × (pos b -ℤ s ≡ pos m)
gap b (pos k) h = (b - k, omega (arith, ints))
gap b (negsuc k) h = (b + suc k, omega (arith, ints))

gap-is : (b : ℕ) (s : ℤ) (h : at_least_0 s ≤ b) → at_least_0 (pos b -ℤ s) ≡ (gap b s h).0
gap-is b s h = ap at_least_0 (gap b s h).1

end-gap : (b n : ℕ) (s : ℤ) (h : at_least_0 s ≤ b) → b < at_least_0 (s +ℤ pos n) → (gap b s h).0 < n
unfolding gap
end-gap b n (pos k) h g = (let sum : at_least_0 (pos k +ℤ pos n) ≡ k + n = ap at_least_0 (plus k n) in omega arith)
  where
    plus : (x y : ℕ) → pos x +ℤ pos y ≡ pos (x + y)
    plus x y = omega (arith, ints)
end-gap b n (negsuc k) h g = by_end (negsuc k +ℤ pos n) refl
  where
    by_end : (z : ℤ) → negsuc k +ℤ pos n ≡ z → b + suc k < n
    by_end (pos m) is = (let end : at_least_0 (negsuc k +ℤ pos n) ≡ m = ap at_least_0 is in let far : b < m = omega arith in omega (arith, ints))
    by_end (negsuc m) is = (let end : at_least_0 (negsuc k +ℤ pos n) ≡ 0 = ap at_least_0 is in absurd (omega arith))

-- the bits between two ends
raw-tight : (s : ℤ) (low high n : ℕ) → at_least_0 s ≤ low → high ≤ at_least_0 (s +ℤ pos n) → IsTight (record { shift = s; low = low; high = high }) n
raw-tight s low high n from to = record {
  below = λ b h. (let r = range b h in let g = gap-is b s (omega arith) in let e = end-gap b n s (omega arith) (omega arith) in omega arith);
  at_it = λ b h. (let r = range b h in place b (omega arith));
}
  where
    range : (b : ℕ) → within (record { shift = s; low = low; high = high }) b ≡ true → (low ≤ b) × (b < high)
    range b h = (grind (arith, nat_tests), grind (arith, nat_tests))

    place : (b : ℕ) → at_least_0 s ≤ b → pos (at_least_0 (pos b -ℤ s)) +ℤ s ≡ pos b
    place b h = (let g = (gap b s h).1 in ap (λ k. pos k +ℤ s) (gap-is b s h) ∙ omega (arith, ints))

trimmed-tight : (path : Window) (n : ℕ) (b : Bool) → IsTight path n → IsTight (cond b path nowhere) n
trimmed-tight path n true h = h
trimmed-tight path n false h = nowhere-tight n

pub part-tight : (o : ℤ) (n : ℕ) (path : Window) → IsTight (part o n path) n
part-tight o n path =
    let s = path.shift +ℤ o in
    let low = max path.low (at_least_0 s) in
    let high = min path.high (at_least_0 (s +ℤ pos n)) in
    trimmed-tight (record { shift = s; low = low; high = high }) n (nat_lt low high) (raw-tight s low high n (omega arith) (omega arith))

-- the bit of a path that is bit b
pub tight-picked : (path : Window) (n b : ℕ) → IsTight path n → within path b ≡ true → picked path (at_least_0 (pos b -ℤ path.shift)) ≡ Some b
tight-picked path n b h is =
    ap (λ k. cond (int_le (pos path.low) k && int_lt k (pos path.high)) (Some (at_least_0 k)) None) (h.at_it b is)
    ∙ ap (λ c. cond c (Some b) None) (tests path.low path.high b is)
  where
    tests : (low high k : ℕ) → (nat_le low k && nat_lt k high) ≡ true → (int_le (pos low) (pos k) && int_lt (pos k) (pos high)) ≡ true
    tests low high k t = grind (arith, nat_tests)

-- a bit that is picked lies in the window, and this far above its shift
pub record IsPicked (path : Window) (j b : ℕ) : Type 0 where
  pub inside : within path b ≡ true
  pub at_it : at_least_0 (pos b -ℤ path.shift) ≡ j

picked-by : (path : Window) (j b : ℕ) (k : ℤ) (c : Bool) → pos j +ℤ path.shift ≡ k → (int_le (pos path.low) k && int_lt k (pos path.high)) ≡ c
    → cond c (Some (at_least_0 k)) None ≡ Some b → IsPicked path j b
picked-by path j b k false is test h = absurd (cc)
picked-by path j b (negsuc m) true is test h = absurd (cc)
picked-by path j b (pos m) true is test h =
    let same : m ≡ b = some-same m b h in
    record {
      inside = subst (λ x. (nat_le path.low x && nat_lt x path.high) ≡ true) same (tests path.low path.high m test);
      at_it = ap at_least_0 (ap (λ x. pos x -ℤ path.shift) (sym same) ∙ back j path.shift m is);
    }
  where
    some-same : (x y : ℕ) → Some x ≡ Some y → x ≡ y
    some-same x y e = cc

    tests : (low high x : ℕ) → (int_le (pos low) (pos x) && int_lt (pos x) (pos high)) ≡ true → (nat_le low x && nat_lt x high) ≡ true
    tests low high x t = grind (arith, nat_tests)

    back : (x : ℕ) (s : ℤ) (y : ℕ) → pos x +ℤ s ≡ pos y → pos y -ℤ s ≡ pos x
    back x s y e = omega (arith, ints)

pub is-picked : (path : Window) (j b : ℕ) → picked path j ≡ Some b → IsPicked path j b
is-picked path j b h = picked-by path j b (pos j +ℤ path.shift) _ refl refl h

-- what is written of one bit
abbrev pub bit-written : Window → List Bit4 → ℕ → Option Bit4
bit-written path bits b = cond (within path b) (Some (slice_index_or bits (at_least_0 (pos b -ℤ path.shift)) X)) None

-- two windows that name the same n bits write the same
module _ (path other : Window) (n : ℕ) (tight : IsTight path n) (other_tight : IsTight other n)
    (same : (j : ℕ) → j < n → picked path j ≡ picked other j) (bits : List Bit4) (b : ℕ) where
  inside-both : within path b ≡ true → IsPicked other (at_least_0 (pos b -ℤ path.shift)) b
  inside-both h =
      let j = at_least_0 (pos b -ℤ path.shift) in
      is-picked other j b (sym (same j (tight.below b h)) ∙ tight-picked path n b tight h)

  inside-back : within other b ≡ true → within path b ≡ true
  inside-back h =
      let j = at_least_0 (pos b -ℤ other.shift) in
      (is-picked path j b (same j (other_tight.below b h) ∙ tight-picked other n b other_tight h)).inside

  by-path : (c : Bool) → within path b ≡ c → bit-written path bits b ≡ bit-written other bits b
  by-path true h =
      let p = inside-both h in
      (λ i. cond (h i) (Some (slice_index_or bits (at_least_0 (pos b -ℤ path.shift)) X)) None)
      ∙ sym ((λ i. cond (p.inside i) (Some (slice_index_or bits (at_least_0 (pos b -ℤ other.shift)) X)) None) ∙ ap (λ j. Some (slice_index_or bits j X)) p.at_it)
  by-path false h = ap (λ c. cond c (Some (slice_index_or bits (at_least_0 (pos b -ℤ path.shift)) X)) None) h ∙ sym (by-other (within other b) refl)
    where
      by-other : (c : Bool) → within other b ≡ c → bit-written other bits b ≡ None
      by-other true g = absurd (true≢false (sym (inside-back g) ∙ h))
      by-other false g = ap (λ c. cond c (Some (slice_index_or bits (at_least_0 (pos b -ℤ other.shift)) X)) None) g

  pub same-written : bit-written path bits b ≡ bit-written other bits b
  same-written = by-path (within path b) refl

-- where nothing is named, nothing is written
pub none-written : (path : Window) (n : ℕ) → IsTight path n → ((j : ℕ) → j < n → picked path j ≡ None) → (bits : List Bit4) (b : ℕ) → bit-written path bits b ≡ None
none-written path n tight none bits b = by_path (within path b) refl
  where
    by_path : (c : Bool) → within path b ≡ c → bit-written path bits b ≡ None
    by_path true h =
        let j = at_least_0 (pos b -ℤ path.shift) in
        absurd (apart (sym (none j (tight.below b h)) ∙ tight-picked path n b tight h))
      where
        apart : (None ≡ Some b) → ⊥
        apart e = cc
    by_path false h = ap (λ c. cond c (Some (slice_index_or bits (at_least_0 (pos b -ℤ path.shift)) X)) None) h

-- a bit of the signal or local that is written
same-number : (n : ℕ) → (n == n) ≡ true
same-number n = grind (arith, nat_tests)

pub written-bit : (root : ℕ) (path : Window) (bits : List Bit4) (b : ℕ) → written root path bits (record { signal = root; bit = b }) ≡ bit-written path bits b
written-bit root path bits b = ap (λ c. cond (c && within path b) (Some (slice_index_or bits (at_least_0 (pos b -ℤ path.shift)) X)) None) (same-number root)

-- of another signal or local nothing is written
other-number : (n r : ℕ) → (n ≡ r → ⊥) → (n == r) ≡ false
other-number n r apart = by (n == r) refl
  where
    by : (b : Bool) → (n == r) ≡ b → (n == r) ≡ false
    by true h = absurd (apart (grind (arith, nat_tests)))
    by false h = h

pub written-other : (r : ℕ) (path : Window) (bits : List Bit4) (n b : ℕ) → (n ≡ r → ⊥) → written r path bits (record { signal = n; bit = b }) ≡ None
written-other r path bits n b apart = ap (λ c. cond (c && within path b) (Some (slice_index_or bits (at_least_0 (pos b -ℤ path.shift)) X)) None) (other-number n r apart)

-- so a write to one image is known by what is written of its bits
pub at-image : (image : ℕ) (path : Window) (bits : List Bit4) (c : Option Bit4) (q : Place) → (q.signal ≡ image → c ≡ bit-written path bits q.bit) → ((q.signal ≡ image → ⊥) → c ≡ None)
    → c ≡ written image path bits q
at-image image path bits c q there elsewhere = by (q.signal == image) refl
  where
    by : (b : Bool) → (q.signal == image) ≡ b → c ≡ written image path bits q
    by true h =
        let same : q.signal ≡ image = grind (arith, nat_tests) in
        there same ∙ sym (written-bit image path bits q.bit) ∙ ap (λ n. written image path bits (record { signal = n; bit = q.bit })) (sym same)
    by false h = elsewhere (apart h) ∙ sym (written-other image path bits q.signal q.bit (apart h))
      where
        apart : (q.signal == image) ≡ false → q.signal ≡ image → ⊥
        apart g f = grind (arith, nat_tests)

pub written-at : (image : ℕ) (path : Window) (bits : List Bit4) (q : Place) → q.signal ≡ image → written image path bits q ≡ bit-written path bits q.bit
written-at image path bits q same = ap (λ n. written image path bits (record { signal = n; bit = q.bit })) same ∙ written-bit image path bits q.bit

-- two windows that name the same bits write the same of an image
pub same-written-at : (image : ℕ) (path other : Window) (n : ℕ) → IsTight path n → IsTight other n → ((j : ℕ) → j < n → picked path j ≡ picked other j)
    → (bits : List Bit4) (q : Place) → written image other bits q ≡ written image path bits q
same-written-at image path other n tight other_tight same bits q =
    at-image image path bits (written image other bits q) q
    (λ e. written-at image other bits q e ∙ sym (same-written path other n tight other_tight same bits q.bit))
    (λ apart. written-other image other bits q.signal q.bit apart)

pub none-written-at : (image : ℕ) (path : Window) (n : ℕ) → IsTight path n → ((j : ℕ) → j < n → picked path j ≡ None) → (bits : List Bit4) (q : Place) → written image path bits q ≡ None
none-written-at image path n tight none bits q =
    sym (at-image image path bits None q (λ e. sym (none-written path n tight none bits q.bit)) (λ apart. refl))
