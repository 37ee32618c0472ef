-- An element of a part-select is one of what it selects from, or out of range.
use Rattle.std.proofs.Common.{◌≡◌, ◌⊎◌, inl, inr, ℕ, ◌+◌, ◌-◌, ◌*◌, ◌<◌, ◌≤◌, Bool, true, false, ◌&&◌, ◌||◌, cond, ℤ, pos, negsuc, ◌+ℤ◌, ◌-ℤ◌, ◌*ℤ◌, ◌≤ℤ◌, ◌<ℤ◌, length, Option, Some, None, refl, arith, ap, sym, ◌∙◌}
use Rattle.std.specs.Prelude.{int_le, int_lt, unsigned_abs}
use Rattle.std.proofs.lemmas.Int.{ints}
use Rattle.std.proofs.lemmas.Nat.{mul-le}
use Rattle.std.proofs.lemmas.Bool.Decides.{nat_tests}
use Rattle.picks.specs.Windows.{Window, nowhere, part, picked}
use Rattle.sv_types.specs.Layouts.{Layout, count_of}
use Rattle.sv_types.specs.Windows.{falls, rank, elements, element_of, between, slide, lowest_index}
use Rattle.sv_types.proofs.Picks.{pick, nothing-there, picked-part}
use Rattle.lowering_laws.proofs.AnyRank.{le-yes, le-no}
use Rattle.lowering_laws.proofs.Offsets.{and-cases, and-false}
use Rattle.lowering_laws.proofs.Slides.{picked-slide}
use Rattle.lowering_laws.proofs.WriteAt.{IsTight}
use Rattle.target_laws.specs.Elements.{lies_between, kept, far_from, gone_on, IsPartOf, IsSlideOf}
use Rattle.target_laws.proofs.Entire.{element-part}
use Rattle.target_laws.proofs.Rows.{rows}

-- whether an element is there
abbrev in-row : Layout → ℤ → Bool
in-row of k = int_le (pos 0) (rank of k) && int_lt (rank of k) (pos (count_of of.left of.right))

row-of : (m w : ℕ) → pos m *ℤ pos w ≡ pos (m * w)
row-of m w = grind (arith, ints)

rows-of : (l : ℤ) (m w : ℕ) → (l +ℤ pos m) *ℤ pos w ≡ l *ℤ pos w +ℤ pos (m * w)
rows-of l m w = sym (rows l w m)

-- what is out of range
lost : (of : Layout) (z : Option ℤ) (j : ℕ) → j < length of.element.two_state → picked (element_of of z nowhere) j ≡ None
lost of None j h = nothing-there (pos j +ℤ pos 0)
lost of (Some k) j h = by (in-row of k)
  where
    one : 1 * length of.element.two_state ≡ length of.element.two_state
    one = omega arith

    by : (b : Bool) → picked (cond b (elements of (rank of k) 1 nowhere) nowhere) j ≡ None
    by false = nothing-there (pos j +ℤ pos 0)
    by true =
        picked-slide (rank of k *ℤ pos (length of.element.two_state)) (1 * length of.element.two_state) nowhere j (omega arith)
        ∙ nothing-there (pos j +ℤ (pos 0 +ℤ rank of k *ℤ pos (length of.element.two_state)))

module _ (of eof : Layout) (path : Window) (tight : IsTight path (count_of of.left of.right * length of.element.two_state)) (same : length eof.element.two_state ≡ length of.element.two_state)
    (l : ℤ) (n : ℕ) (count : count_of eof.left eof.right ≡ n) where
  abbrev w : ℕ
  w = length of.element.two_state

  first-rank : (k : ℤ) → rank of (lowest_index of true k 1) ≡ rank of k
  first-rank k = ap (rank of) (by (falls of))
    where
      by : (b : Bool) → cond b k (k +ℤ pos 0) ≡ k
      by true = refl
      by false = omega (arith, ints)

  -- the element of the path
  right-side : (k : ℤ) (j : ℕ) → j < w → picked (element_of of (Some k) path) j ≡ pick path.low path.high (pos j +ℤ (path.shift +ℤ rank of k *ℤ pos w))
  right-side k j h =
      element-part of path tight (Some k) j h
      ∙ ap (λ r. picked (part (r *ℤ pos w) w path) j) (first-rank k)
      ∙ picked-slide (rank of k *ℤ pos w) w path j h

  -- the element of the part-select
  left-side : (m j : ℕ) → m < n → j < w → picked (part (pos m *ℤ pos w) w (part (l *ℤ pos w) (n * w) path)) j ≡ pick path.low path.high (pos (m * w + j) +ℤ (path.shift +ℤ l *ℤ pos w))
  left-side m j less h =
      let rows = mul-le (m + 1) w n w (omega arith) (omega arith) in
      let next : (m + 1) * w ≡ m * w + w = grind arith in
      ap (λ z. picked (part z w (part (l *ℤ pos w) (n * w) path)) j) (row-of m w)
      ∙ picked-part (m * w) w (part (l *ℤ pos w) (n * w) path) j h
      ∙ picked-slide (l *ℤ pos w) (n * w) path (m * w + j) (omega arith)

  both-sides : (k : ℤ) (m j : ℕ) → rank of k ≡ l +ℤ pos m → pos (m * w + j) +ℤ (path.shift +ℤ l *ℤ pos w) ≡ pos j +ℤ (path.shift +ℤ rank of k *ℤ pos w)
  both-sides k m j is = sums (m * w) j path.shift (l *ℤ pos w) (rank of k *ℤ pos w) (ap (λ (r : ℤ). r *ℤ pos w) is ∙ rows-of l m w)
    where
      sums : (x y : ℕ) (s p q : ℤ) → q ≡ p +ℤ pos x → pos (x + y) +ℤ (s +ℤ p) ≡ pos y +ℤ (s +ℤ q)
      sums x y s p q e = omega (arith, ints)

  one-by : (r : ℤ) (k : ℤ) (j : ℕ) → j < w → rank of k ≡ l +ℤ r → (int_le (pos 0) r && int_lt r (pos n)) ≡ true
      → picked (part (r *ℤ pos w) w (part (l *ℤ pos w) (n * w) path)) j ≡ picked (element_of of (Some k) path) j
  one-by (negsuc m) k j h is test = absurd (cc)
  one-by (pos m) k j h is test =
      let less : m < n = grind (arith, nat_tests) in
      left-side m j less h ∙ ap (pick path.low path.high) (both-sides k m j is) ∙ sym (right-side k j h)

  -- one that is there
  pub through-one : (k z : ℤ) (j : ℕ) → j < w → rank of z ≡ l +ℤ rank eof k → in-row eof k ≡ true
      → picked (element_of eof (Some k) (elements of l n path)) j ≡ picked (element_of of (Some z) path) j
  through-one k z j h is test =
      let one : 1 * length eof.element.two_state ≡ w = omega arith in
      ap (λ b. picked (cond b (elements eof (rank eof k) 1 (elements of l n path)) nowhere) j) test
      ∙ (λ i. picked (part (rank eof k *ℤ pos (same i)) (one i) (elements of l n path)) j)
      ∙ one-by (rank eof k) z j h is (ap (λ c. int_le (pos 0) (rank eof k) && int_lt (rank eof k) (pos c)) (sym count) ∙ test)

  -- and one that isn't
  pub through-none : (k : ℤ) (j : ℕ) → in-row eof k ≡ false → picked (element_of eof (Some k) (elements of l n path)) j ≡ picked nowhere j
  through-none k j test = ap (λ b. picked (cond b (elements eof (rank eof k) 1 (elements of l n path)) nowhere) j) test

-- comparisons
le-true : (x y : ℤ) → x ≤ℤ y → int_le x y ≡ true
le-true x y h = by (int_le x y) refl
  where
    by : (c : Bool) → int_le x y ≡ c → int_le x y ≡ true
    by true e = e
    by false e = (let more = le-no x y e in absurd (omega (arith, ints)))

le-false : (x y : ℤ) → y <ℤ x → int_le x y ≡ false
le-false x y h = by (int_le x y) refl
  where
    by : (c : Bool) → int_le x y ≡ c → int_le x y ≡ false
    by false e = e
    by true e = (let less = le-yes x y e in absurd (omega (arith, ints)))

row-true : (r : ℤ) (n : ℕ) → pos 0 ≤ℤ r → r <ℤ pos n → (int_le (pos 0) r && int_lt r (pos n)) ≡ true
row-true (pos m) n low high = (let less : m < n = omega (arith, ints) in grind (arith, nat_tests))
row-true (negsuc m) n low high = absurd (omega (arith, ints))

row-false : (r : ℤ) (n : ℕ) → (r <ℤ pos 0) ⊎ (pos n ≤ℤ r) → (int_le (pos 0) r && int_lt r (pos n)) ≡ false
row-false (negsuc m) n h = refl
row-false (pos m) n (inl h) = absurd (omega (arith, ints))
row-false (pos m) n (inr h) = (let more : n ≤ m = omega (arith, ints) in grind (arith, nat_tests))

count-falling : (left right : ℤ) → right ≤ℤ left → pos (count_of left right) ≡ (left -ℤ right) +ℤ pos 1
count-falling left right h = by (left -ℤ right) (omega (arith, ints))
  where
    by : (d : ℤ) → pos 0 ≤ℤ d → pos (unsigned_abs d + 1) ≡ d +ℤ pos 1
    by (pos m) g = omega (arith, ints)
    by (negsuc m) g = absurd (omega (arith, ints))

count-rising : (left right : ℤ) → left ≤ℤ right → pos (count_of left right) ≡ (right -ℤ left) +ℤ pos 1
count-rising left right h = by (left -ℤ right) (right -ℤ left) (omega (arith, ints)) (omega (arith, ints))
  where
    by : (d e : ℤ) → pos 0 ≤ℤ e → d ≡ pos 0 -ℤ e → pos (unsigned_abs d + 1) ≡ e +ℤ pos 1
    by (pos m) e g is = omega (arith, ints)
    by (negsuc m) e g is = omega (arith, ints)

-- an index between two bounds, or not
or-cases : (a b : Bool) → (a || b) ≡ true → (a ≡ true) ⊎ (b ≡ true)
or-cases true b h = inl refl
or-cases false b h = inr h

or-false : (a b : Bool) → (a || b) ≡ false → (a ≡ false) × (b ≡ false)
or-false true b h = absurd (cc)
or-false false b h = (refl, h)

pub lies-yes : (left right k : ℤ) → lies_between left right k ≡ true → ((right ≤ℤ k) × (k ≤ℤ left)) ⊎ ((left ≤ℤ k) × (k ≤ℤ right))
lies-yes left right k h =
    elim (or-cases (int_le right k && int_le k left) (int_le left k && int_le k right) h) [
      | inl g ↦ (let p = and-cases (int_le right k) (int_le k left) g in inl (le-yes right k p.0, le-yes k left p.1))
      | inr g ↦ (let p = and-cases (int_le left k) (int_le k right) g in inr (le-yes left k p.0, le-yes k right p.1))
    ]

outside-of : (low high k : ℤ) → (int_le low k && int_le k high) ≡ false → (k <ℤ low) ⊎ (high <ℤ k)
outside-of low high k h =
    elim (and-false (int_le low k) (int_le k high) h) [
      | inl g ↦ inl (le-no low k g)
      | inr g ↦ inr (le-no k high g.1)
    ]

pub lies-no : (left right k : ℤ) → lies_between left right k ≡ false → ((k <ℤ right) ⊎ (left <ℤ k)) × ((k <ℤ left) ⊎ (right <ℤ k))
lies-no left right k h =
    let p = or-false (int_le right k && int_le k left) (int_le left k && int_le k right) h in
    (outside-of right left k p.0, outside-of left right k p.1)

rank-by : (of : Layout) (k : ℤ) (b : Bool) → falls of ≡ b → rank of k ≡ cond b (k -ℤ of.right) (of.right -ℤ k)
rank-by of k b is = ap (λ c. cond c (k -ℤ of.right) (of.right -ℤ k)) is

-- part-selects with known bounds
module _ (of eof : Layout) (path : Window) (tight : IsTight path (count_of of.left of.right * length of.element.two_state)) (left right : ℤ) (is : IsPartOf eof of left right) where
  eof-falls : falls eof ≡ int_le right left
  eof-falls = λ i. int_le (is.right_is i) (is.left_is i)

  eof-count : count_of eof.left eof.right ≡ count_of left right
  eof-count = λ i. count_of (is.left_is i) (is.right_is i)

  rank-falling : (k : ℤ) → int_le right left ≡ true → rank eof k ≡ k -ℤ right
  rank-falling k d = rank-by eof k true (eof-falls ∙ d) ∙ ap (λ (x : ℤ). k -ℤ x) is.right_is

  rank-rising : (k : ℤ) → int_le right left ≡ false → rank eof k ≡ right -ℤ k
  rank-rising k d = rank-by eof k false (eof-falls ∙ d) ∙ ap (λ (x : ℤ). x -ℤ k) is.right_is

  in-by : (k r : ℤ) → rank eof k ≡ r → in-row eof k ≡ (int_le (pos 0) r && int_lt r (pos (count_of left right)))
  in-by k r same = λ i. int_le (pos 0) (same i) && int_lt (same i) (pos (eof-count i))

  there : (k : ℤ) (d : Bool) → int_le right left ≡ d → lies_between left right k ≡ true → in-row eof k ≡ true
  there k true d h =
      let order = le-yes right left d in
      let count = count-falling left right order in
      in-by k (k -ℤ right) (rank-falling k d) ∙ row-true (k -ℤ right) (count_of left right) (low order (lies-yes left right k h)) (high order (lies-yes left right k h) count)
    where
      low : right ≤ℤ left → ((right ≤ℤ k) × (k ≤ℤ left)) ⊎ ((left ≤ℤ k) × (k ≤ℤ right)) → pos 0 ≤ℤ (k -ℤ right)
      low o (inl (p, q)) = omega (arith, ints)
      low o (inr (p, q)) = omega (arith, ints)

      high : right ≤ℤ left → ((right ≤ℤ k) × (k ≤ℤ left)) ⊎ ((left ≤ℤ k) × (k ≤ℤ right)) → pos (count_of left right) ≡ (left -ℤ right) +ℤ pos 1 → (k -ℤ right) <ℤ pos (count_of left right)
      high o (inl (p, q)) c = omega (arith, ints)
      high o (inr (p, q)) c = omega (arith, ints)
  there k false d h =
      let order = le-no right left d in
      let count = count-rising left right (omega (arith, ints)) in
      in-by k (right -ℤ k) (rank-rising k d) ∙ row-true (right -ℤ k) (count_of left right) (low order (lies-yes left right k h)) (high order (lies-yes left right k h) count)
    where
      low : left <ℤ right → ((right ≤ℤ k) × (k ≤ℤ left)) ⊎ ((left ≤ℤ k) × (k ≤ℤ right)) → pos 0 ≤ℤ (right -ℤ k)
      low o (inl (p, q)) = omega (arith, ints)
      low o (inr (p, q)) = omega (arith, ints)

      high : left <ℤ right → ((right ≤ℤ k) × (k ≤ℤ left)) ⊎ ((left ≤ℤ k) × (k ≤ℤ right)) → pos (count_of left right) ≡ (right -ℤ left) +ℤ pos 1 → (right -ℤ k) <ℤ pos (count_of left right)
      high o (inl (p, q)) c = omega (arith, ints)
      high o (inr (p, q)) c = omega (arith, ints)

  gone : (k : ℤ) (d : Bool) → int_le right left ≡ d → lies_between left right k ≡ false → in-row eof k ≡ false
  gone k true d h =
      let order = le-yes right left d in
      let count = count-falling left right order in
      in-by k (k -ℤ right) (rank-falling k d) ∙ row-false (k -ℤ right) (count_of left right) (out (lies-no left right k h).0 count)
    where
      out : (k <ℤ right) ⊎ (left <ℤ k) → pos (count_of left right) ≡ (left -ℤ right) +ℤ pos 1 → ((k -ℤ right) <ℤ pos 0) ⊎ (pos (count_of left right) ≤ℤ (k -ℤ right))
      out (inl p) c = inl (omega (arith, ints))
      out (inr p) c = inr (omega (arith, ints))
  gone k false d h =
      let order = le-no right left d in
      let count = count-rising left right (omega (arith, ints)) in
      in-by k (right -ℤ k) (rank-rising k d) ∙ row-false (right -ℤ k) (count_of left right) (out (lies-no left right k h).1 count)
    where
      out : (k <ℤ left) ⊎ (right <ℤ k) → pos (count_of left right) ≡ (right -ℤ left) +ℤ pos 1 → ((right -ℤ k) <ℤ pos 0) ⊎ (pos (count_of left right) ≤ℤ (right -ℤ k))
      out (inl p) c = inr (omega (arith, ints))
      out (inr p) c = inl (omega (arith, ints))

  sums-down : (k : ℤ) → falls of ≡ true → rank of k ≡ rank of right +ℤ (k -ℤ right)
  sums-down k f = rank-by of k true f ∙ omega (arith, ints) ∙ sym (ap (λ (x : ℤ). x +ℤ (k -ℤ right)) (rank-by of right true f))

  sums-up : (k : ℤ) → falls of ≡ false → rank of k ≡ rank of right +ℤ (right -ℤ k)
  sums-up k f = rank-by of k false f ∙ omega (arith, ints) ∙ sym (ap (λ (x : ℤ). x +ℤ (right -ℤ k)) (rank-by of right false f))

  sums-one : (k : ℤ) → k ≡ right → rank of k ≡ rank of right +ℤ (k -ℤ right)
  sums-one k same = ap (rank of) same ∙ nothing_more (rank of right) (k -ℤ right) (omega (arith, ints))
    where
      nothing_more : (x y : ℤ) → y ≡ pos 0 → x ≡ x +ℤ y
      nothing_more x y e = omega (arith, ints)

  ranks : (k : ℤ) (d : Bool) → int_le right left ≡ d → lies_between left right k ≡ true → (falls eof ≡ falls of) ⊎ (left ≡ right) → rank of k ≡ rank of right +ℤ rank eof k
  ranks k true d h (inl same) = sums-down k (sym same ∙ eof-falls ∙ d) ∙ ap (λ (x : ℤ). rank of right +ℤ x) (sym (rank-falling k d))
  ranks k false d h (inl same) = sums-up k (sym same ∙ eof-falls ∙ d) ∙ ap (λ (x : ℤ). rank of right +ℤ x) (sym (rank-rising k d))
  ranks k true d h (inr one) = sums-one k (at (lies-yes left right k h)) ∙ ap (λ (x : ℤ). rank of right +ℤ x) (sym (rank-falling k d))
    where
      at : ((right ≤ℤ k) × (k ≤ℤ left)) ⊎ ((left ≤ℤ k) × (k ≤ℤ right)) → k ≡ right
      at (inl (p, q)) = omega (arith, ints)
      at (inr (p, q)) = omega (arith, ints)
  ranks k false d h (inr one) = (let order = le-no right left d in absurd (omega (arith, ints)))

  by-test : (k : ℤ) (j : ℕ) (b : Bool) → lies_between left right k ≡ b → j < length of.element.two_state
      → picked (element_of eof (Some k) (between of left right path)) j ≡ picked (element_of of (cond b (Some k) None) path) j
  by-test k j true h less =
      through-one of eof path tight is.element (rank of right) (count_of left right) eof-count k k j less (ranks k (int_le right left) refl h is.goes) (there k (int_le right left) refl h)
  by-test k j false h less = through-none of eof path tight is.element (rank of right) (count_of left right) eof-count k j (gone k (int_le right left) refl h)

  pub through-part : (z : Option ℤ) (j : ℕ) → j < length of.element.two_state → picked (element_of eof z (between of left right path)) j ≡ picked (element_of of (kept left right z) path) j
  through-part None j less = refl
  through-part (Some k) j less = by-test k j (lies_between left right k) refl less

-- and by an index
pub far-rank : (of : Layout) (up : Bool) (n : ℕ) (k j : ℤ) → rank of (k +ℤ far_from (falls of) up n j) ≡ rank of (lowest_index of up k n) +ℤ j
far-rank of true n k j = by (falls of)
  where
    by : (d : Bool) → cond d ((k +ℤ far_from d true n j) -ℤ of.right) (of.right -ℤ (k +ℤ far_from d true n j))
        ≡ cond d (cond d k (k +ℤ pos (n - 1)) -ℤ of.right) (of.right -ℤ cond d k (k +ℤ pos (n - 1))) +ℤ j
    by true = omega (arith, ints)
    by false = omega (arith, ints)
far-rank of false n k j = by (falls of)
  where
    by : (d : Bool) → cond d ((k +ℤ far_from d false n j) -ℤ of.right) (of.right -ℤ (k +ℤ far_from d false n j))
        ≡ cond d (cond d (k -ℤ pos (n - 1)) k -ℤ of.right) (of.right -ℤ cond d (k -ℤ pos (n - 1)) k) +ℤ j
    by true = omega (arith, ints)
    by false = omega (arith, ints)

module _ (of eof : Layout) (path : Window) (tight : IsTight path (count_of of.left of.right * length of.element.two_state)) (up : Bool) (n : ℕ) (is : IsSlideOf eof of n) where
  slide-count : count_of eof.left eof.right ≡ n
  slide-count = (λ i. count_of (is.left_is i) (is.right_is i)) ∙ by (count-falling (pos (n - 1)) (pos 0) (omega (arith, ints)))
    where
      by : pos (count_of (pos (n - 1)) (pos 0)) ≡ (pos (n - 1) -ℤ pos 0) +ℤ pos 1 → count_of (pos (n - 1)) (pos 0) ≡ n
      by e = (let some = is.some in omega (arith, ints))

  slide-rank : (j : ℤ) → rank eof j ≡ j
  slide-rank j =
      rank-by eof j true ((λ i. int_le (is.right_is i) (is.left_is i)) ∙ le-true (pos 0) (pos (n - 1)) (omega (arith, ints)))
      ∙ ap (λ (x : ℤ). j -ℤ x) is.right_is ∙ nothing_less j
    where
      nothing_less : (x : ℤ) → x -ℤ pos 0 ≡ x
      nothing_less x = omega (arith, ints)

  slide-in : (j : ℤ) → in-row eof j ≡ (int_le (pos 0) j && int_lt j (pos n))
  slide-in j = λ i. int_le (pos 0) (slide-rank j i) && int_lt (slide-rank j i) (pos (slide-count i))

  slide-test : (k j : ℤ) (i : ℕ) (b : Bool) → (int_le (pos 0) j && int_lt j (pos n)) ≡ b → i < length of.element.two_state
      → picked (element_of eof (Some j) (slide of up n (Some k) path)) i ≡ picked (element_of of (cond b (Some (k +ℤ far_from (falls of) up n j)) None) path) i
  slide-test k j i true h less =
      through-one of eof path tight is.element (rank of (lowest_index of up k n)) n slide-count j (k +ℤ far_from (falls of) up n j) i less
      (far-rank of up n k j ∙ ap (λ (x : ℤ). rank of (lowest_index of up k n) +ℤ x) (sym (slide-rank j))) (slide-in j ∙ h)
  slide-test k j i false h less = through-none of eof path tight is.element (rank of (lowest_index of up k n)) n slide-count j i (slide-in j ∙ h)

  pub through-slide : (base z : Option ℤ) (i : ℕ) → i < length of.element.two_state
      → picked (element_of eof z (slide of up n base path)) i ≡ picked (element_of of (gone_on (falls of) up n base z) path) i
  through-slide base None i less = refl
  through-slide None (Some j) i less = (let same = is.element in lost eof (Some j) i (omega arith) ∙ sym (nothing-there (pos i +ℤ pos 0)))
  through-slide (Some k) (Some j) i less = slide-test k j i (int_le (pos 0) j && int_lt j (pos n)) refl less
