-- A path in two: the lower bits and those above them. A part-select that may be partly out of range is written element by element.
use Rattle.std.proofs.Common.{◌≡◌, ℕ, zero, suc, ◌+◌, ◌-◌, ◌<◌, ◌≤◌, Bool, true, false, cond, ℤ, pos, ◌+ℤ◌, ◌-ℤ◌, length, take, drop, List, [], ◌∷◌, ◌++◌, Some, None, refl, arith, sym, ◌∙◌, ap, true≢false}
use Rattle.std.specs.Prelude.{slice_index_or, nat_lt}
use Rattle.std.proofs.lemmas.Int.{ints}
use Rattle.std.proofs.lemmas.Bool.Decides.{nat_tests}
use Rattle.b4_core.specs.declared.bit.Bit4.{Bit4}
use Rattle.b4_core.specs.declared.bit.Bit4.TheVariants.{X}
use Rattle.row_machine.specs.Valuation.{Place, Valuation}
use Rattle.row_machine.specs.Steps.{later_or}
use Rattle.picks.specs.Windows.{Window, part, within, picked, written, at_least_0}
use Rattle.sv_types.proofs.Picks.{pick}
use Rattle.v_meaning.specs.Scopes.{Scope}
use Rattle.lowering_laws.specs.Reached.{Piece, AreBelow, IsWritten}
use Rattle.lowering_laws.proofs.Changes.{raised, raised-wide, raised-put, below-put, both-put, both-wide, length-take-of}
use Rattle.lowering_laws.proofs.Slides.{picked-slide}
use Rattle.lowering_laws.proofs.WriteAt.{IsTight, part-tight, IsPicked, is-picked, tight-picked, bit-written, at-image, written-at, written-other}

-- the lower m bits of a path, and n bits above them
pub record IsSplit (path low high : Window) (m n : ℕ) : Type 0 where
  pub tight : IsTight path (m + n)
  pub low_tight : IsTight low m
  pub high_tight : IsTight high n
  pub lower : (j : ℕ) → j < m → picked path j ≡ picked low j
  pub upper : (j : ℕ) → j < n → picked path (m + j) ≡ picked high j

index-low : (bits : List Bit4) (m j : ℕ) → j < m → slice_index_or (take m bits) j X ≡ slice_index_or bits j X
index-low bits zero j h = absurd (omega arith)
index-low [] (suc m) j h = refl
index-low (b ∷ bits) (suc m) zero h = refl
index-low (b ∷ bits) (suc m) (suc j) h = index-low bits m j (omega arith)

index-none : (j k : ℕ) → slice_index_or [] j X ≡ slice_index_or [] k X
index-none j k = refl

index-high : (bits : List Bit4) (m j : ℕ) → slice_index_or (drop m bits) j X ≡ slice_index_or bits (m + j) X
index-high bits zero j = (let e : j ≡ 0 + j = omega arith in ap (λ k. slice_index_or bits k X) e)
index-high [] (suc m) j = index-none j (suc m + j)
index-high (b ∷ bits) (suc m) j = (let e : suc m + j ≡ suc (m + j) = omega arith in index-high bits m j ∙ sym (ap (λ k. slice_index_or (b ∷ bits) k X) e))

-- what is written of a bit that is picked, and of one that isn't
picked-written : (path : Window) (bits : List Bit4) (j b : ℕ) → IsPicked path j b → bit-written path bits b ≡ Some (slice_index_or bits j X)
picked-written path bits j b h =
    ap (λ c. cond c (Some (slice_index_or bits (at_least_0 (pos b -ℤ path.shift)) X)) None) h.inside ∙ ap (λ k. Some (slice_index_or bits k X)) h.at_it

not-written : (path : Window) (bits : List Bit4) (b : ℕ) → within path b ≡ false → bit-written path bits b ≡ None
not-written path bits b h = ap (λ c. cond c (Some (slice_index_or bits (at_least_0 (pos b -ℤ path.shift)) X)) None) h

module _ (path low high : Window) (m n : ℕ) (split : IsSplit path low high m n) (bits : List Bit4) (b : ℕ) where
  -- a bit of a part is one of the path
  from-low : within low b ≡ true → (j : ℕ) × (j < m) × IsPicked path j b
  from-low h =
      let j = at_least_0 (pos b -ℤ low.shift) in
      let less = split.low_tight.below b h in
      (j, less, is-picked path j b (split.lower j less ∙ tight-picked low m b split.low_tight h))

  from-high : within high b ≡ true → (j : ℕ) × (j < n) × IsPicked path (m + j) b
  from-high h =
      let j = at_least_0 (pos b -ℤ high.shift) in
      let less = split.high_tight.below b h in
      (j, less, is-picked path (m + j) b (split.upper j less ∙ tight-picked high n b split.high_tight h))

  out-of-high : (j : ℕ) → j < m → at_least_0 (pos b -ℤ path.shift) ≡ j → within high b ≡ false
  out-of-high j less is = by (within high b) refl
    where
      by : (c : Bool) → within high b ≡ c → within high b ≡ false
      by false h = h
      by true h = (let f = from-high h in let same = (f.2).at_it in absurd (omega arith))

  out-of-low : (j : ℕ) → m ≤ j → at_least_0 (pos b -ℤ path.shift) ≡ j → within low b ≡ false
  out-of-low j more is = by (within low b) refl
    where
      by : (c : Bool) → within low b ≡ c → within low b ≡ false
      by false h = h
      by true h = (let f = from-low h in let less = f.1 in let same = (f.2).at_it in absurd (omega arith))

  inside-by : within path b ≡ true → (c : Bool) → nat_lt (at_least_0 (pos b -ℤ path.shift)) m ≡ c
      → bit-written path bits b ≡ later_or (bit-written high (drop m bits) b) (bit-written low (take m bits) b)
  inside-by h true is =
      let j = at_least_0 (pos b -ℤ path.shift) in
      let less : at_least_0 (pos b -ℤ path.shift) < m = grind (arith, nat_tests) in
      let there = tight-picked path (m + n) b split.tight h in
      picked-written path bits j b (is-picked path j b there)
      ∙ sym (λ i. later_or (not-written high (drop m bits) b (out-of-high j less refl) i)
      ((picked-written low (take m bits) j b (is-picked low j b (sym (split.lower j less) ∙ there)) ∙ ap Some (index-low bits m j less)) i))
  inside-by h false is =
      let j = at_least_0 (pos b -ℤ path.shift) in
      let more : m ≤ at_least_0 (pos b -ℤ path.shift) = grind (arith, nat_tests) in
      let below = split.tight.below b h in
      let k = at_least_0 (pos b -ℤ path.shift) - m in
      let sum : m + (at_least_0 (pos b -ℤ path.shift) - m) ≡ at_least_0 (pos b -ℤ path.shift) = omega arith in
      let there = tight-picked path (m + n) b split.tight h in
      picked-written path bits j b (is-picked path j b there)
      ∙ sym (λ i. later_or ((picked-written high (drop m bits) k b (is-picked high k b (sym (split.upper k (omega arith)) ∙ ap (picked path) sum ∙ there))
      ∙ ap Some (index-high bits m k ∙ ap (λ x. slice_index_or bits x X) sum)) i)
      (bit-written low (take m bits) b))

  outside-by : within path b ≡ false → bit-written path bits b ≡ later_or (bit-written high (drop m bits) b) (bit-written low (take m bits) b)
  outside-by h =
      not-written path bits b h
      ∙ sym (λ i. later_or (not-written high (drop m bits) b (none-high (within high b) refl) i) (not-written low (take m bits) b (none-low (within low b) refl) i))
    where
      none-high : (c : Bool) → within high b ≡ c → within high b ≡ false
      none-high false g = g
      none-high true g = absurd (true≢false (sym ((from-high g).2).inside ∙ h))

      none-low : (c : Bool) → within low b ≡ c → within low b ≡ false
      none-low false g = g
      none-low true g = absurd (true≢false (sym ((from-low g).2).inside ∙ h))

  pub split-bit : bit-written path bits b ≡ later_or (bit-written high (drop m bits) b) (bit-written low (take m bits) b)
  split-bit = by (within path b) refl
    where
      by : (c : Bool) → within path b ≡ c → bit-written path bits b ≡ later_or (bit-written high (drop m bits) b) (bit-written low (take m bits) b)
      by true h = inside-by h (nat_lt (at_least_0 (pos b -ℤ path.shift)) m) refl
      by false h = outside-by h

-- so a write to a path is one to the lower bits and one to the upper ones
pub split-written : (path low high : Window) (m n image : ℕ) → IsSplit path low high m n → (bits : List Bit4) (q : Place)
    → written image path bits q ≡ later_or (written image high (drop m bits) q) (written image low (take m bits) q)
split-written path low high m n image split bits q =
    sym (at-image image path bits (later_or (written image high (drop m bits) q) (written image low (take m bits) q)) q
    (λ e. (λ i. later_or (written-at image high (drop m bits) q e i) (written-at image low (take m bits) q e i)) ∙ sym (split-bit path low high m n split bits q.bit))
    (λ apart. λ i. later_or (written-other image high (drop m bits) q.signal q.bit apart i) (written-other image low (take m bits) q.signal q.bit apart i)))

-- and pieces of both are pieces of the path
pub split-pieces : (path low high : Window) (m n image : ℕ) (ps qs : List Piece) (sc : Scope) (v : Valuation) → IsSplit path low high m n
    → IsWritten low m image ps sc v → IsWritten high n image qs sc v → IsWritten path (m + n) image (ps ++ raised m qs) sc v
split-pieces path low high m n image ps qs sc v split below above = record {
  wide = both-wide ps (raised m qs) sc below.wide (raised-wide m qs sc above.wide);
  below = both-below ps (raised m qs) (more ps below.below) (up qs above.below);
  puts = λ bits long q.
      both-put ps (raised m qs) sc v bits q
      ∙ (λ i. later_or ((raised-put m qs sc v bits q ∙ above.puts (drop m bits) (length-rest m n bits long) q) i)
      ((sym (below-put m ps sc v bits q below.below) ∙ below.puts (take m bits) (length-take-of m bits (omega arith)) q) i))
      ∙ sym (split-written path low high m n image split bits q);
}
  where
    more : (xs : List Piece) → AreBelow m xs → AreBelow (m + n) xs
    more [] h = tt
    more (x ∷ xs) h = ((let b = h.0 in omega arith), more xs h.1)

    up : (xs : List Piece) → AreBelow n xs → AreBelow (m + n) (raised m xs)
    up [] h = tt
    up (x ∷ xs) h = ((let b = h.0 in omega arith), up xs h.1)

    both-below : (xs ys : List Piece) → AreBelow (m + n) xs → AreBelow (m + n) ys → AreBelow (m + n) (xs ++ ys)
    both-below [] ys h g = g
    both-below (x ∷ xs) ys h g = (h.0, both-below xs ys h.1 g)

    length-rest : (k l : ℕ) (bits : List Bit4) → length bits ≡ k + l → length (drop k bits) ≡ l
    length-rest zero l bits h = omega arith
    length-rest (suc k) l [] h = absurd (omega arith)
    length-rest (suc k) l (b ∷ bits) h = length-rest k l bits (omega arith)

-- Neighbouring bits of another path.
pub part-split : (z : ℤ) (m n : ℕ) (path : Window) → IsSplit (part z (m + n) path) (part z m path) (part (z +ℤ pos m) n path) m n
part-split z m n path = record {
  tight = part-tight z (m + n) path;
  low_tight = part-tight z m path;
  high_tight = part-tight (z +ℤ pos m) n path;
  lower = λ j h. picked-slide z (m + n) path j (omega arith) ∙ sym (picked-slide z m path j h);
  upper = λ j h.
      picked-slide z (m + n) path (m + j) (omega arith) ∙ ap (pick path.low path.high) (same j) ∙ sym (picked-slide (z +ℤ pos m) n path j h);
}
  where
    same : (j : ℕ) → pos (m + j) +ℤ (path.shift +ℤ z) ≡ pos j +ℤ (path.shift +ℤ (z +ℤ pos m))
    same j = omega (arith, ints)
