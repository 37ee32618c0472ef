-- An index with no number between two names nothing.
use Rattle.std.proofs.Common.{◌≡◌, ◌⊎◌, inl, inr, ℕ, suc, ◌+◌, ◌-◌, ◌*◌, ◌<◌, ◌≤◌, Bool, true, false, ◌&&◌, cond, ℤ, pos, negsuc, ◌+ℤ◌, ◌-ℤ◌, ◌*ℤ◌, ◌≤ℤ◌, ◌<ℤ◌, neg_ℤ, length, Option, Some, None, refl, arith, ap, sym, ◌∙◌, subst}
use Rattle.std.specs.Prelude.{int_le, int_lt, unsigned_abs}
use Rattle.std.proofs.lemmas.Int.{ints}
use Rattle.std.proofs.lemmas.Nat.{mul-le}
use Rattle.std.proofs.lemmas.Bool.Decides.{nat_tests}
use Rattle.picks.specs.Windows.{Window, nowhere, part, within, picked, at_least_0}
use Rattle.sv_types.specs.Layouts.{Layout, count_of}
use Rattle.sv_types.specs.Windows.{falls, rank, element_of, lowest_index, slide}
use Rattle.sv_types.proofs.Picks.{nothing-there, pick}
use Rattle.lowering_laws.proofs.AnyRank.{le-yes, le-no}
use Rattle.lowering_laws.proofs.Slides.{picked-slide}
use Rattle.lowering_laws.proofs.WriteAt.{IsTight}
use Rattle.filled_paths.specs.Filling.{IsBeyond}
use Rattle.filled_paths.specs.Numbers.{AreAround}

pub picks-nowhere : (j : ℕ) → picked nowhere j ≡ None
picks-nowhere j = nothing-there (pos j +ℤ pos 0)

-- outside two bounds, which fall or rise
outside-falling : (low high k d z : ℤ) → high -ℤ low ≡ d → k -ℤ low ≡ z → low ≤ℤ high → (k <ℤ low) ⊎ (high <ℤ k)
    → (int_le (pos 0) z && int_lt z (pos (unsigned_abs d + 1))) ≡ false
outside-falling low high k d (negsuc q) e f h g = refl
outside-falling low high k (pos d) (pos q) e f h (inl g) = absurd (omega (arith, ints))
outside-falling low high k (pos d) (pos q) e f h (inr g) = (let far : d < q = omega (arith, ints) in test q d far)
  where
    test : (x y : ℕ) → y < x → (int_le (pos 0) (pos x) && int_lt (pos x) (pos (y + 1))) ≡ false
    test x y less = grind (arith, nat_tests)
outside-falling low high k (negsuc d) (pos q) e f h g = absurd (omega (arith, ints))

outside-rising : (low high k d z : ℤ) → low -ℤ high ≡ d → high -ℤ k ≡ z → low ≤ℤ high → (k <ℤ low) ⊎ (high <ℤ k)
    → (int_le (pos 0) z && int_lt z (pos (unsigned_abs d + 1))) ≡ false
outside-rising low high k d (negsuc q) e f h g = refl
outside-rising low high k (pos d) (pos q) e f h (inr g) = absurd (omega (arith, ints))
outside-rising low high k (negsuc d) (pos q) e f h (inr g) = absurd (omega (arith, ints))
outside-rising low high k (pos d) (pos q) e f h (inl g) = (let far : d < q = omega (arith, ints) in test q d far)
  where
    test : (x y : ℕ) → y < x → (int_le (pos 0) (pos x) && int_lt (pos x) (pos (y + 1))) ≡ false
    test x y less = grind (arith, nat_tests)
outside-rising low high k (negsuc d) (pos q) e f h (inl g) = (let far : suc d < q = omega (arith, ints) in test q (suc d) far)
  where
    test : (x y : ℕ) → y < x → (int_le (pos 0) (pos x) && int_lt (pos x) (pos (y + 1))) ≡ false
    test x y less = grind (arith, nat_tests)

module _ (low high left right k : ℤ) (around : AreAround low high left right 0) where
  below-both : k <ℤ low → (k <ℤ left) × (k <ℤ right)
  below-both h = (omega (arith, ints, around.low_left), omega (arith, ints, around.low_right))

  above-both : high <ℤ k → (left <ℤ k) × (right <ℤ k)
  above-both h = (omega (arith, ints, around.left_high), omega (arith, ints, around.right_high))

  out-of-bounds : (b : Bool) → int_le right left ≡ b → IsBeyond low high (Some k)
      → (int_le (pos 0) (cond b (k -ℤ right) (right -ℤ k)) && int_lt (cond b (k -ℤ right) (right -ℤ k)) (pos (count_of left right))) ≡ false
  out-of-bounds true way (inl h) = outside-falling right left k (left -ℤ right) (k -ℤ right) refl refl (le-yes right left way) (inl (below-both h).1)
  out-of-bounds true way (inr h) = outside-falling right left k (left -ℤ right) (k -ℤ right) refl refl (le-yes right left way) (inr (above-both h).0)
  out-of-bounds false way (inl h) = (let less = le-no right left way in outside-rising left right k (left -ℤ right) (right -ℤ k) refl refl (omega (arith, ints)) (inl (below-both h).0))
  out-of-bounds false way (inr h) = (let less = le-no right left way in outside-rising left right k (left -ℤ right) (right -ℤ k) refl refl (omega (arith, ints)) (inr (above-both h).1))

-- an element
pub element-beyond : (of : Layout) (low high : ℤ) (z : Option ℤ) (path : Window) → AreAround low high of.left of.right 0 → IsBeyond low high z → element_of of z path ≡ nowhere
element-beyond of low high None path around beyond = refl
element-beyond of low high (Some k) path around beyond =
    ap (λ b. cond b (part (rank of k *ℤ pos (length of.element.two_state)) (1 * length of.element.two_state) path) nowhere) (out-of-bounds low high of.left of.right k around (falls of) refl beyond)

-- bits of a path below its first one, or above its last
pick-out : (path : Window) (n : ℕ) (y : ℤ) → IsTight path n → (y <ℤ pos 0) ⊎ (pos n ≤ℤ y) → pick path.low path.high (y +ℤ path.shift) ≡ None
pick-out path n y tight out = by (y +ℤ path.shift) refl
  where
    inside : (b : ℕ) → y +ℤ path.shift ≡ pos b → within path b ≡ true → ⊥
    inside b is there =
        let same = tight.at_it b there in
        let less = tight.below b there in
        contradicts (at_least_0 (pos b -ℤ path.shift)) b path.shift same is less out
      where
        contradicts : (m b : ℕ) (s : ℤ) → pos m +ℤ s ≡ pos b → y +ℤ s ≡ pos b → m < n → (y <ℤ pos 0) ⊎ (pos n ≤ℤ y) → ⊥
        contradicts m b s e f less (inl h) = omega (arith, ints)
        contradicts m b s e f less (inr h) = omega (arith, ints)

    by-test : (b : ℕ) → y +ℤ path.shift ≡ pos b → (c : Bool) → within path b ≡ c → pick path.low path.high (pos b) ≡ None
    by-test b is true there = absurd (inside b is there)
    by-test b is false out_of = ap (λ c. cond c (Some b) None) out_of

    by : (k : ℤ) → y +ℤ path.shift ≡ k → pick path.low path.high (y +ℤ path.shift) ≡ None
    by (pos b) is = ap (pick path.low path.high) is ∙ by-test b is (within path b) refl
    by (negsuc b) is = ap (pick path.low path.high) is

-- rows of so many bits below 0, and behind the last one
rows-below : (r : ℤ) (n w : ℕ) → (r +ℤ pos n) ≤ℤ pos 0 → (r *ℤ pos w +ℤ pos (n * w)) ≤ℤ pos 0
rows-below (pos m) n w h =
    let first : m ≡ 0 = omega (arith, ints) in
    let none : n ≡ 0 = omega (arith, ints) in
    let rows : pos m *ℤ pos w ≡ pos (m * w) = refl in
    let m_none : m * w ≡ 0 = ap (λ x. x * w) first ∙ omega arith in
    let n_none : n * w ≡ 0 = ap (λ x. x * w) none ∙ omega arith in
    omega (arith, ints)
rows-below (negsuc m) n w h =
    let less : n ≤ suc m = omega (arith, ints) in
    let few = mul-le n w (suc m) w less (omega arith) in
    let rows : negsuc m *ℤ pos w ≡ neg_ℤ (pos (suc m * w)) = omega (arith, ints) in
    omega (arith, ints)

rows-behind : (r : ℤ) (c w : ℕ) → pos c ≤ℤ r → pos (c * w) ≤ℤ (r *ℤ pos w)
rows-behind (pos m) c w h =
    let less : c ≤ m = omega (arith, ints) in
    let few = mul-le c w m w less (omega arith) in
    let rows : pos m *ℤ pos w ≡ pos (m * w) = refl in
    omega (arith, ints)
rows-behind (negsuc m) c w h = absurd (omega (arith, ints))

-- n elements from an index on, none of which is there
fall-out : (left right l d : ℤ) (n : ℕ) → right ≤ℤ left → left -ℤ right ≡ d → ((l +ℤ pos n) ≤ℤ right) ⊎ (left <ℤ l) → (((l -ℤ right) +ℤ pos n) ≤ℤ pos 0) ⊎ (pos (unsigned_abs d + 1) ≤ℤ (l -ℤ right))
fall-out left right l d n way is (inl h) = inl (omega (arith, ints))
fall-out left right l (pos d) n way is (inr h) = inr (omega (arith, ints))
fall-out left right l (negsuc d) n way is (inr h) = absurd (omega (arith, ints))

rise-out : (left right l d : ℤ) (n : ℕ) → left ≤ℤ right → left -ℤ right ≡ d → ((right +ℤ pos n) ≤ℤ l) ⊎ (l <ℤ left) → (((right -ℤ l) +ℤ pos n) ≤ℤ pos 0) ⊎ (pos (unsigned_abs d + 1) ≤ℤ (right -ℤ l))
rise-out left right l d n way is (inl h) = inl (omega (arith, ints))
rise-out left right l (pos d) n way is (inr h) = inr (omega (arith, ints))
rise-out left right l (negsuc d) n way is (inr h) = inr (omega (arith, ints))

module _ (of : Layout) (low high k : ℤ) (n : ℕ) (some : 1 ≤ n) (around : AreAround low high of.left of.right (n - 1)) where
  abbrev Out : ℤ → Type 0
  Out r = ((r +ℤ pos n) ≤ℤ pos 0) ⊎ (pos (count_of of.left of.right) ≤ℤ r)

  abbrev rank-by : Bool → ℤ → ℤ
  rank-by b l = cond b (l -ℤ of.right) (of.right -ℤ l)

  falling : (l : ℤ) → int_le of.right of.left ≡ true → ((l +ℤ pos n) ≤ℤ of.right) ⊎ (of.left <ℤ l) → Out (l -ℤ of.right)
  falling l way h = fall-out of.left of.right l (of.left -ℤ of.right) n (le-yes of.right of.left way) refl h

  rising : (l : ℤ) → int_le of.right of.left ≡ false → ((of.right +ℤ pos n) ≤ℤ l) ⊎ (l <ℤ of.left) → Out (of.right -ℤ l)
  rising l way h = (let less = le-no of.right of.left way in rise-out of.left of.right l (of.left -ℤ of.right) n (omega (arith, ints)) refl h)

  far_is : (m : ℕ) → m ≡ n - 1 → pos m +ℤ pos 1 ≡ pos n
  far_is m is = omega (arith, ints)

  ranks-out : (up b : Bool) → int_le of.right of.left ≡ b → IsBeyond low high (Some k)
      → Out (rank-by b (elim up [ true ↦ cond b k (k +ℤ pos (n - 1)) | false ↦ cond b (k -ℤ pos (n - 1)) k ]))
  ranks-out true true way (inl h) = (let u = around.low_right in let f = far_is (n - 1) refl in falling k way (inl (omega (arith, ints))))
  ranks-out true true way (inr h) = (let u = around.left_high in falling k way (inr (omega (arith, ints))))
  ranks-out true false way (inl h) = (let u = around.low_left in rising (k +ℤ pos (n - 1)) way (inr (omega (arith, ints))))
  ranks-out true false way (inr h) = (let u = around.right_high in let f = far_is (n - 1) refl in rising (k +ℤ pos (n - 1)) way (inl (omega (arith, ints))))
  ranks-out false true way (inl h) = (let u = around.low_right in let f = far_is (n - 1) refl in falling (k -ℤ pos (n - 1)) way (inl (omega (arith, ints))))
  ranks-out false true way (inr h) = (let u = around.left_high in falling (k -ℤ pos (n - 1)) way (inr (omega (arith, ints))))
  ranks-out false false way (inl h) = (let u = around.low_left in rising k way (inr (omega (arith, ints))))
  ranks-out false false way (inr h) = (let u = around.right_high in let f = far_is (n - 1) refl in rising k way (inl (omega (arith, ints))))

  lowest-is : (up : Bool) → lowest_index of up k n ≡ elim up [ true ↦ cond (falls of) k (k +ℤ pos (n - 1)) | false ↦ cond (falls of) (k -ℤ pos (n - 1)) k ]
  lowest-is true = refl
  lowest-is false = refl

rows-out : (r : ℤ) (n c w j : ℕ) → j < n * w → ((r +ℤ pos n) ≤ℤ pos 0) ⊎ (pos c ≤ℤ r) → ((pos j +ℤ r *ℤ pos w) <ℤ pos 0) ⊎ (pos (c * w) ≤ℤ (pos j +ℤ r *ℤ pos w))
rows-out r n c w j less (inl h) = (let low = rows-below r n w h in inl (omega (arith, ints)))
rows-out r n c w j less (inr h) = (let high = rows-behind r c w h in inr (omega (arith, ints)))

-- so they name nothing of a path of all elements
pub slide-beyond : (of : Layout) (low high : ℤ) (z : Option ℤ) (n : ℕ) (up : Bool) (path : Window) (j : ℕ) → 1 ≤ n → AreAround low high of.left of.right (n - 1) → IsBeyond low high z
    → IsTight path (count_of of.left of.right * length of.element.two_state) → j < n * length of.element.two_state → picked (slide of up n z path) j ≡ None
slide-beyond of low high None n up path j some around beyond tight less = picks-nowhere j
slide-beyond of low high (Some k) n up path j some around beyond tight less =
    let l = lowest_index of up k n in
    let w = length of.element.two_state in
    let r = rank of (lowest_index of up k n) in
    let out : ((rank of (lowest_index of up k n) +ℤ pos n) ≤ℤ pos 0) ⊎ (pos (count_of of.left of.right) ≤ℤ rank of (lowest_index of up k n)) =
    subst (λ x. ((rank of x +ℤ pos n) ≤ℤ pos 0) ⊎ (pos (count_of of.left of.right) ≤ℤ rank of x)) (sym (lowest-is of low high k n some around up)) (ranks-out of low high k n some around up (falls of) refl beyond) in
    let turn : pos j +ℤ (path.shift +ℤ rank of (lowest_index of up k n) *ℤ pos (length of.element.two_state)) ≡ (pos j +ℤ rank of (lowest_index of up k n) *ℤ pos (length of.element.two_state)) +ℤ path.shift =
    turned (pos j) path.shift (rank of (lowest_index of up k n) *ℤ pos (length of.element.two_state)) in
    picked-slide (rank of (lowest_index of up k n) *ℤ pos (length of.element.two_state)) (n * length of.element.two_state) path j less
    ∙ ap (pick path.low path.high) turn
    ∙ pick-out path (count_of of.left of.right * length of.element.two_state) (pos j +ℤ rank of (lowest_index of up k n) *ℤ pos (length of.element.two_state)) tight
    (rows-out (rank of (lowest_index of up k n)) n (count_of of.left of.right) (length of.element.two_state) j less out)
  where
    turned : (a b c : ℤ) → a +ℤ (b +ℤ c) ≡ (a +ℤ c) +ℤ b
    turned a b c = omega (arith, ints)
