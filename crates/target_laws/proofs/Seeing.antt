-- Steps of select paths, seen from a path that they go on from.
use Rattle.std.proofs.Common.{◌≡◌, ◌⊎◌, inl, inr, ℕ, ◌+◌, ◌-◌, ◌<◌, ◌≤◌, Bool, true, false, ◌&&◌, cond, ℤ, pos, negsuc, ◌+ℤ◌, ◌-ℤ◌, length, Option, Some, None, refl, arith, ap, sym, ◌∙◌}
use Rattle.std.specs.Prelude.{nat_lt, nat_le, int_le, int_lt}
use Rattle.std.proofs.lemmas.Int.{ints}
use Rattle.std.proofs.lemmas.Bool.Decides.{nat_tests}
use Rattle.picks.specs.Windows.{Window, whole, nowhere, part, picked, within, at_least_0}
use Rattle.sv_types.specs.Layouts.{Layout, Part, count_of}
use Rattle.sv_types.specs.Windows.{member_of, element_of, between, slide, rank}
use Rattle.sv_types.proofs.Picks.{pick, nothing-there}
use Rattle.lowering_laws.proofs.Slides.{picked-slide, far}
use Rattle.lowering_laws.proofs.WriteAt.{IsTight, whole-tight, part-tight}
use Rattle.target_laws.specs.Seeing.{bit_from, through, IsSeen, IsCut}

-- an integer is one of n numbers or none of them
data OneOf (n : ℕ) (d : ℤ) : Type 0 where
  inside : (j : ℕ) → d ≡ pos j → j < n → OneOf n d
  outside : ((m : ℕ) → d ≡ pos m → m < n → ⊥) → OneOf n d

one-of : (n : ℕ) (d : ℤ) → OneOf n d
one-of n (negsuc k) = outside (λ m e less. cc)
one-of n (pos j) = by (nat_lt j n) refl
  where
    by : (b : Bool) → nat_lt j n ≡ b → OneOf n (pos j)
    by true is = inside j refl (grind (arith, nat_tests))
    by false is = outside (λ m e less. apart m e less (grind (arith, nat_tests)))
      where
        apart : (m : ℕ) → pos j ≡ pos m → m < n → n ≤ j → ⊥
        apart m e less many = omega (arith, ints)

-- bit j of n bits from z on is bit j + z
part-bit : (p : Window) (z : ℤ) (n j : ℕ) → j < n → bit_from (part z n p) (pos j) ≡ bit_from p (pos j +ℤ z)
part-bit p z n j less =
    let moved : pos j +ℤ (p.shift +ℤ z) ≡ (pos j +ℤ z) +ℤ p.shift = omega (arith, ints) in
    picked-slide z n p j less ∙ ap (λ k. pick p.low p.high k) moved

seen-part : (p from q : Window) (z : ℤ) (n : ℕ) → IsSeen p from q → IsSeen (part z n p) from (part z n q)
seen-part p from q z n h d = by (one-of n d)
  where
    by : OneOf n d → bit_from (part z n p) d ≡ through from (bit_from (part z n q) d)
    by (inside j e less) =
        ap (bit_from (part z n p)) e ∙ part-bit p z n j less ∙ h (pos j +ℤ z) ∙ ap (through from) (sym (part-bit q z n j less) ∙ sym (ap (bit_from (part z n q)) e))
    by (outside out) = far (part z n p) n d (part-tight z n p) out ∙ sym (ap (through from) (far (part z n q) n d (part-tight z n q) out))

pub seen-nowhere : (from : Window) → IsSeen nowhere from nowhere
seen-nowhere from d = nothing-there (d +ℤ pos 0) ∙ sym (ap (through from) (nothing-there (d +ℤ pos 0)))

seen-test : (p from q : Window) (b : Bool) → IsSeen p from q → IsSeen (cond b p nowhere) from (cond b q nowhere)
seen-test p from q true h = h
seen-test p from q false h = seen-nowhere from

-- the steps
pub seen-member : (p from q : Window) (m : Option Part) → IsSeen p from q → IsSeen (member_of m p) from (member_of m q)
seen-member p from q None h = seen-nowhere from
seen-member p from q (Some m) h = seen-part p from q (pos m.below) (length m.two_state) h

pub seen-between : (p from q : Window) (of : Layout) (left right : ℤ) → IsSeen p from q → IsSeen (between of left right p) from (between of left right q)
seen-between p from q of left right h = seen-part p from q _ _ h

pub seen-element : (p from q : Window) (of : Layout) (z : Option ℤ) → IsSeen p from q → IsSeen (element_of of z p) from (element_of of z q)
seen-element p from q of None h = seen-nowhere from
seen-element p from q of (Some k) h = seen-test _ from _ (int_le (pos 0) (rank of k) && int_lt (rank of k) (pos (count_of of.left of.right))) (seen-part p from q _ _ h)

-- a path of n bits is all of them
pub seen-itself : (p : Window) (n : ℕ) → IsTight p n → IsSeen p p (whole n)
seen-itself p n tight d = by (one-of n d)
  where
    there : (j : ℕ) → j < n → bit_from (whole n) (pos j) ≡ Some j
    there j less =
        let zero_more : pos j +ℤ pos 0 ≡ pos j = omega (arith, ints) in
        let test : (int_le (pos 0) (pos j) && int_lt (pos j) (pos n)) ≡ true = grind (arith, nat_tests) in
        ap (pick 0 n) zero_more ∙ ap (λ b. cond b (Some j) None) test

    by : OneOf n d → bit_from p d ≡ through p (bit_from (whole n) d)
    by (inside j e less) = ap (bit_from p) e ∙ sym (ap (through p) (ap (bit_from (whole n)) e ∙ there j less))
    by (outside out) = far p n d tight out ∙ sym (ap (through p) (far (whole n) n d (whole-tight n) out))

-- what is cut out of a path of n bits by a window that has bits
module _ (path from inner : Window) (n : ℕ) (seen : IsSeen path from inner) (tight : IsTight inner n) (some : inner.low < inner.high) where
  abbrev k : ℕ
  k = at_least_0 (pos inner.low -ℤ inner.shift)

  abbrev m : ℕ
  m = inner.high - inner.low

  first-in : within inner inner.low ≡ true
  first-in = test inner.low inner.high some
    where
      test : (low high : ℕ) → low < high → (nat_le low low && nat_lt low high) ≡ true
      test low high less = grind (arith, nat_tests)

  last-in : within inner (inner.high - 1) ≡ true
  last-in = test inner.low inner.high some
    where
      test : (low high : ℕ) → low < high → (nat_le low (high - 1) && nat_lt (high - 1) high) ≡ true
      test low high less = grind (arith, nat_tests)

  first-at : pos k +ℤ inner.shift ≡ pos inner.low
  first-at = tight.at_it inner.low first-in

  last-is : at_least_0 (pos (inner.high - 1) -ℤ inner.shift) + 1 ≡ k + m
  last-is = sums inner.low inner.high k (at_least_0 (pos (inner.high - 1) -ℤ inner.shift)) inner.shift some first-at (tight.at_it (inner.high - 1) last-in)
    where
      sums : (low high x y : ℕ) (s : ℤ) → low < high → pos x +ℤ s ≡ pos low → pos y +ℤ s ≡ pos (high - 1) → y + 1 ≡ x + (high - low)
      sums low high x y s less e f = omega (arith, ints)

  at-bit : (j : ℕ) → pos (k + j) +ℤ inner.shift ≡ pos (inner.low + j)
  at-bit j = sums k j inner.low inner.shift first-at
    where
      sums : (x y l : ℕ) (s : ℤ) → pos x +ℤ s ≡ pos l → pos (x + y) +ℤ s ≡ pos (l + y)
      sums x y l s e = omega (arith, ints)

  bit-there : (j : ℕ) → j < m → bit_from inner (pos (k + j)) ≡ Some (inner.low + j)
  bit-there j less =
      ap (pick inner.low inner.high) (at-bit j) ∙ ap (λ b. cond b (Some (inner.low + j)) None) (test inner.low inner.high j less)
    where
      test : (low high i : ℕ) → i < high - low → (int_le (pos low) (pos (low + i)) && int_lt (pos (low + i)) (pos high)) ≡ true
      test low high i h = grind (arith, nat_tests)

  bit-out : (j : ℕ) → (j < k) ⊎ (k + m ≤ j) → bit_from inner (pos j) ≡ None
  bit-out j out = ap (λ b. cond b (Some (at_least_0 (pos j +ℤ inner.shift))) None) (by out (pos j +ℤ inner.shift) refl)
    where
      by : (j < k) ⊎ (k + m ≤ j) → (x : ℤ) → pos j +ℤ inner.shift ≡ x → (int_le (pos inner.low) x && int_lt x (pos inner.high)) ≡ false
      by h (negsuc x) e = refl
      by (inl h) (pos x) e = below inner.low inner.high x (less k j inner.low x inner.shift first-at e h)
        where
          less : (a b l y : ℕ) (s : ℤ) → pos a +ℤ s ≡ pos l → pos b +ℤ s ≡ pos y → b < a → y < l
          less a b l y s f g c = omega (arith, ints)

          below : (low high y : ℕ) → y < low → (int_le (pos low) (pos y) && int_lt (pos y) (pos high)) ≡ false
          below low high y c = grind (arith, nat_tests)
      by (inr h) (pos x) e = above inner.low inner.high x (more k j inner.low inner.high x inner.shift first-at e some h)
        where
          more : (a b l u y : ℕ) (s : ℤ) → pos a +ℤ s ≡ pos l → pos b +ℤ s ≡ pos y → l < u → a + (u - l) ≤ b → u ≤ y
          more a b l u y s f g d c = omega (arith, ints)

          above : (low high y : ℕ) → high ≤ y → (int_le (pos low) (pos y) && int_lt (pos y) (pos high)) ≡ false
          above low high y c = grind (arith, nat_tests)

  pub cut-out : IsCut path from n k inner.low m
  cut-out = record {
    within = (let l = tight.below (inner.high - 1) last-in in let e = last-is in omega arith);
    picks = λ j less. seen (pos (k + j)) ∙ ap (through from) (bit-there j less);
    outside = λ j less out. seen (pos j) ∙ ap (through from) (bit-out j out);
  }

-- a window without bits names nothing
pub nothing-seen : (path from inner : Window) → IsSeen path from inner → inner.high ≤ inner.low → (j : ℕ) → picked path j ≡ None
nothing-seen path from inner seen none j = seen (pos j) ∙ ap (through from) (ap (λ b. cond b (Some (at_least_0 (pos j +ℤ inner.shift))) None) (by (pos j +ℤ inner.shift) none))
  where
    by : (x : ℤ) → inner.high ≤ inner.low → (int_le (pos inner.low) x && int_lt x (pos inner.high)) ≡ false
    by (negsuc x) h = refl
    by (pos x) h = grind (arith, nat_tests)

pub seen-slide : (p from q : Window) (of : Layout) (up : Bool) (n : ℕ) (z : Option ℤ) → IsSeen p from q → IsSeen (slide of up n z p) from (slide of up n z q)
seen-slide p from q of up n None h = seen-nowhere from
seen-slide p from q of up n (Some k) h = seen-part p from q _ _ h

-- and what goes on from nothing
pub none-through : (path from inner : Window) (n : ℕ) → IsSeen path from inner → inner.high ≤ n → ((b : ℕ) → b < n → picked from b ≡ None) → (j : ℕ) → picked path j ≡ None
none-through path from inner n seen end none j = seen (pos j) ∙ by (pos j +ℤ inner.shift) _ refl
  where
    inside-high : (low high x : ℕ) → (int_le (pos low) (pos x) && int_lt (pos x) (pos high)) ≡ true → x < high
    inside-high low high x h = grind (arith, nat_tests)

    by : (k : ℤ) (b : Bool) → (int_le (pos inner.low) k && int_lt k (pos inner.high)) ≡ b → through from (cond (int_le (pos inner.low) k && int_lt k (pos inner.high)) (Some (at_least_0 k)) None) ≡ None
    by k false test = ap (λ c. through from (cond c (Some (at_least_0 k)) None)) test
    by (negsuc x) true test = absurd (cc)
    by (pos x) true test =
        let less = inside-high inner.low inner.high x test in
        ap (λ c. through from (cond c (Some x) None)) test ∙ none x (omega arith)
