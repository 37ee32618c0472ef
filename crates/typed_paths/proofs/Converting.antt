-- A two-state bit of what a typed path stands on is one of the path's type, so that what is written to it is converted.
use Rattle.std.proofs.Common.{◌≡◌, ℕ, zero, suc, ◌+◌, ◌-◌, ◌*◌, ◌<◌, ◌≤◌, Bool, true, false, ◌&&◌, cond, ℤ, pos, negsuc, ◌+ℤ◌, ◌-ℤ◌, ◌*ℤ◌, length, List, Option, Some, None, refl, arith, ap, sym, ◌∙◌, subst}
use Rattle.std.specs.Prelude.{int_le, int_lt, nat_le, nat_lt}
use Rattle.std.proofs.lemmas.Int.{ints}
use Rattle.std.proofs.lemmas.Nat.{mul-le}
use Rattle.std.proofs.lemmas.Bool.Decides.{nat_tests}
use Rattle.picks.specs.Windows.{Window, whole, nowhere, part, picked, within, at_least_0}
use Rattle.sv_types.specs.declared.expression.Expr.{Expr}
use Rattle.sv_types.specs.declared.types.SvType.{SvType}
use Rattle.sv_types.specs.Layouts.{Layout, Part, layout, count_of, repeated}
use Rattle.sv_types.specs.Windows.{member_of, element_of, elements, between, slide, rank, lowest_index}
use Rattle.sv_types.specs.Surroundings.{Around}
use Rattle.sv_types.specs.Meanings as S
use Rattle.sv_types.specs.Paths as P
use Rattle.sv_types.specs.Expressions.{meaning}
use Rattle.sv_types.proofs.Heads.{heads}
use Rattle.sv_types.proofs.Picks.{nothing-there}
use Rattle.sv_types.proofs.Widths.{has-bits}
use Rattle.eval_parts.proofs.Selecting.{same-Signal, same-Local, same-Member, same-Index, same-Part, same-Slide}
use Rattle.lowering_laws.specs.Held.{marked, IsConverted}
use Rattle.lowering_laws.proofs.Held.{element-marks}
use Rattle.lowering_laws.proofs.Slides.{picked-slide}
use Rattle.lowering_laws.proofs.Wholes.{IsWhole, type-whole}
use Rattle.lowering_laws.proofs.WriteAt.{IsTight, whole-tight, nowhere-tight, part-tight, tight-picked}
use Rattle.target_laws.proofs.Filling.{member-tight, element-stays}
use Rattle.target_laws.proofs.Rows.{rows}
use Rattle.typed_paths.specs.Typed.{Indexing, IsTypedPath, of_signal, of_local, of_member, of_index, of_part, of_slide, has_elements}
use Rattle.typed_paths.proofs.Keeping.{MembersKeep, ElementsKeep, type-keeps}
use Rattle.typed_paths.proofs.Marking.{sliding-marks, part-marks, index-marks, member-marks}

-- A bit in range of so many bits of a path from one on is a bit of the path.
record IsBitOf (path : Window) (w j k : ℕ) (o : ℤ) : Type 0 where
  pub bit : ℕ
  pub at : pos bit ≡ pos j +ℤ o
  pub below : bit < w
  pub is : picked path bit ≡ Some k

picked-by : (path : Window) (w j k : ℕ) (o z : ℤ) (c : Bool) → IsTight path w → z ≡ pos j +ℤ (path.shift +ℤ o) → (int_le (pos path.low) z && int_lt z (pos path.high)) ≡ c
    → cond c (Some (at_least_0 z)) None ≡ Some k → IsBitOf path w j k o
picked-by path w j k o z false tight place test is = absurd (cc)
picked-by path w j k o (negsuc m) true tight place test is = absurd (cc)
picked-by path w j k o (pos m) true tight place test is =
    record {
      bit = at_least_0 (pos m -ℤ path.shift);
      at = back (pos (at_least_0 (pos m -ℤ path.shift))) path.shift o (pos j) (pos m) (tight.at_it m inside) place;
      below = tight.below m inside;
      is = tight-picked path w m tight inside ∙ is;
    }
  where
    tests : (low high x : ℕ) → (int_le (pos low) (pos x) && int_lt (pos x) (pos high)) ≡ true → (nat_le low x && nat_lt x high) ≡ true
    tests low high x t = grind (arith, nat_tests)

    inside : within path m ≡ true
    inside = tests path.low path.high m test

    back : (b s o j m : ℤ) → b +ℤ s ≡ m → m ≡ j +ℤ (s +ℤ o) → b ≡ j +ℤ o
    back b s o j m e f = omega (arith, ints)

bit-of : (path : Window) (w n j k : ℕ) (o : ℤ) → IsTight path w → j < n → picked (part o n path) j ≡ Some k → IsBitOf path w j k o
bit-of path w n j k o tight less is = picked-by path w j k o (pos j +ℤ (path.shift +ℤ o)) _ tight refl refl (sym (picked-slide o n path j less) ∙ is)

-- A path whose bits are its own, and whose two-state bits are converted.
pub record Converts (two_state : ℕ → Bool) (m : S.Meaning) (a : Around) : Type 0 where
  pub tight : IsTight (m.window a) (S.wide m)
  pub converted : IsConverted two_state m a

nothing-picked : (j k : ℕ) → picked nowhere j ≡ Some k → ⊥
nothing-picked j k h = apart (sym (nothing-there (pos j +ℤ pos 0)) ∙ h)
  where
    apart : None ≡ Some k → ⊥
    apart e = cc

module _ (two_state : ℕ → Bool) (a : Around) where
  -- all of what is held
  whole-converts : (marks : List Bool) (w : ℕ) → ((j : ℕ) → j < w → two_state j ≡ marked marks j) → (j k : ℕ) → j < w → picked (whole w) j ≡ Some k → two_state k ≡ true → marked marks j ≡ true
  whole-converts marks w same j k less is mark =
      let it : k ≡ j = by (pos j +ℤ pos 0) _ (omega (arith, ints)) refl is in
      sym (same j less) ∙ ap two_state (sym it) ∙ mark
    where
      some-same : (x y : ℕ) → Some x ≡ Some y → x ≡ y
      some-same x y e = cc

      by : (z : ℤ) (c : Bool) → z ≡ pos j → (int_le (pos 0) z && int_lt z (pos w)) ≡ c → cond c (Some (at_least_0 z)) None ≡ Some k → k ≡ j
      by z false e t h = absurd (cc)
      by z true e t h = sym (some-same (at_least_0 z) k h) ∙ ap at_least_0 e

  -- so many bits of a path from one on
  part-converts : (from : S.Meaning) (marks : List Bool) (o : ℤ) (n : ℕ) → Converts two_state from a
      → ((j b : ℕ) → j < n → b < S.wide from → pos b ≡ pos j +ℤ o → marked from.of.two_state b ≡ true → marked marks j ≡ true)
      → (j k : ℕ) → j < n → picked (part o n (from.window a)) j ≡ Some k → two_state k ≡ true → marked marks j ≡ true
  part-converts from marks o n h keeps j k less is mark =
      let b = bit-of (from.window a) (S.wide from) n j k o h.tight less is in
      keeps j b.bit less b.below b.at (h.converted b.bit k b.below b.is mark)

  -- a member
  member-converts : (of : Layout) (at : ℕ) (from : S.Meaning) (k : ℕ) → (P.member of at from k).misfits ≡ 0 → MembersKeep from.of → Converts two_state from a
      → Converts two_state (P.member of at from k) a
  unfolding P.member
  member-converts of at from k typed keeps h =
      let m = member-marks of at from k typed in
      let n = length m.part.two_state in
      let wide : length of.two_state ≡ length m.part.two_state = ap length m.marks in
      record {
        tight = subst (λ p. IsTight (member_of p (from.window a)) (length of.two_state)) (sym m.there)
            (member-tight (Some m.part) (length of.two_state) (from.window a) (λ p is. wide ∙ ap (λ (x : Part). length x.two_state) (some-part m.part p is)));
        converted = λ j b less is mark.
            part-converts from of.two_state (pos m.part.below) n h
            (λ i c fits below place c_mark. (let same : c ≡ m.part.below + i = omega (arith, ints) in
            ap (λ (l : List Bool). marked l i) m.marks ∙ keeps k m.part i m.there fits (ap (marked from.of.two_state) (sym same) ∙ c_mark)))
            j b (omega arith) (ap (λ p. picked (member_of p (from.window a)) j) (sym m.there) ∙ is) mark;
      }
    where
      some-part : (x y : Part) → Some x ≡ Some y → x ≡ y
      some-part x y f = cc

  -- elements, of which the lowest has a rank
  next-row : (q w : ℕ) → suc q * w ≡ q * w + w
  next-row q w = grind arith

  record IsCell (w j : ℕ) (n : ℕ) : Type 0 where
    pub row : ℕ
    pub bit : ℕ
    pub is : j ≡ row * w + bit
    pub within : bit < w
    pub below : row < n

  cell-less : (n w j : ℕ) → j < suc n * w → w ≤ j → j - w < n * w
  cell-less n w j h more = (let f = next-row n w in omega arith)

  cell-next : (n w j : ℕ) → w ≤ j → IsCell w (j - w) n → IsCell w j (suc n)
  cell-next n w j more c =
      record { row = suc c.row; bit = c.bit; is = (let e = c.is in let f = next-row c.row w in omega arith); within = c.within; below = (let l = c.below in omega arith) }

  cell : (n w j : ℕ) → j < n * w → IsCell w j n
  cell zero w j h = absurd (omega arith)
  cell (suc n) w j h = by (nat_lt j w) refl (λ more. cell n w (j - w) (cell-less n w j h more))
    where
      by : (b : Bool) → nat_lt j w ≡ b → (w ≤ j → IsCell w (j - w) n) → IsCell w j (suc n)
      by true t rest = record { row = 0; bit = j; is = omega arith; within = grind (arith, nat_tests); below = omega arith }
      by false t rest = (let more : w ≤ j = grind (arith, nat_tests) in cell-next n w j more (rest more))

  row-below : (q c w i all : ℕ) → q * w + i < all → c * w ≡ all → i < w → q < c
  row-below q c w i all less is h = by (nat_lt q c) refl
    where
      by : (b : Bool) → nat_lt q c ≡ b → q < c
      by true t = grind (arith, nat_tests)
      by false t =
          let many : c ≤ q = grind (arith, nat_tests) in
          let most = mul-le c w q w (omega arith) (omega arith) in
          absurd (omega arith)

  -- the row of what it selects from
  record IsRow (b w i : ℕ) : Type 0 where
    pub row : ℕ
    pub is : b ≡ row * w + i

  row-of : (b w i q : ℕ) (r : ℤ) → i < w → pos b ≡ (r +ℤ pos q) *ℤ pos w +ℤ pos i → IsRow b w i
  row-of b w i q r h is = by (r +ℤ pos q) is
    where
      times : (m v : ℕ) → pos m *ℤ pos v ≡ pos (m * v)
      times m v = grind (arith, ints)

      times-neg : (m v : ℕ) → negsuc m *ℤ pos v ≡ pos 0 -ℤ pos (m * v + v)
      times-neg m v = grind (arith, ints)

      by : (z : ℤ) → pos b ≡ z *ℤ pos w +ℤ pos i → IsRow b w i
      by (pos m) e = record { row = m; is = (let t = times m w in omega (arith, ints)) }
      by (negsuc m) e = (let t = times-neg m w in absurd (omega (arith, ints)))

  sums : (r : ℤ) (q w i : ℕ) → pos (q * w + i) +ℤ r *ℤ pos w ≡ (r +ℤ pos q) *ℤ pos w +ℤ pos i
  sums r q w i = moved (q * w) i (r *ℤ pos w) ((r +ℤ pos q) *ℤ pos w) (rows r w q)
    where
      moved : (x k : ℕ) (y z : ℤ) → y +ℤ pos x ≡ z → pos (x + k) +ℤ y ≡ z +ℤ pos k
      moved x k y z e = omega (arith, ints)

  elements-keep : (from : S.Meaning) (marks : List Bool) (r : ℤ) (n : ℕ) → ElementsKeep from.of → count_of from.of.left from.of.right * length from.of.element.two_state ≡ S.wide from
      → marks ≡ repeated n from.of.element.two_state
      → (j b : ℕ) → j < n * length from.of.element.two_state → b < S.wide from → pos b ≡ pos j +ℤ r *ℤ pos (length from.of.element.two_state) → marked from.of.two_state b ≡ true → marked marks j ≡ true
  elements-keep from marks r n keeps all same j b less below place mark =
      let w = length from.of.element.two_state in
      let c = cell n w j less in
      let x = row-of b w c.bit c.row r c.within (place ∙ ap (λ m. pos m +ℤ r *ℤ pos w) c.is ∙ sums r c.row w c.bit) in
      let here : x.row * w + c.bit < S.wide from = (let e = x.is in omega arith) in
      let there = row-below x.row (count_of from.of.left from.of.right) w c.bit (S.wide from) here all c.within in
      ap (λ (l : List Bool). marked l j) same ∙ ap (marked (repeated n from.of.element.two_state)) c.is
      ∙ element-marks n from.of.element.two_state c.row c.bit c.below c.within
      ∙ keeps x.row c.bit there c.within (ap (marked from.of.two_state) (sym x.is) ∙ mark)

  -- elements from a rank on
  row-converts : (from : S.Meaning) (marks : List Bool) (r : ℤ) (n : ℕ) → ElementsKeep from.of → count_of from.of.left from.of.right * length from.of.element.two_state ≡ S.wide from
      → marks ≡ repeated n from.of.element.two_state → Converts two_state from a
      → (j k : ℕ) → j < n * length from.of.element.two_state → picked (elements from.of r n (from.window a)) j ≡ Some k → two_state k ≡ true → marked marks j ≡ true
  row-converts from marks r n keeps all same h =
      part-converts from marks (r *ℤ pos (length from.of.element.two_state)) (n * length from.of.element.two_state) h (elements-keep from marks r n keeps all same)

  -- the element with an index
  repeated-once : (x : List Bool) → x ≡ repeated 1 x
  unfolding repeated
  repeated-once x = refl

  element-by : (from : S.Meaning) (marks : List Bool) (z : Option ℤ) → ElementsKeep from.of → count_of from.of.left from.of.right * length from.of.element.two_state ≡ S.wide from
      → marks ≡ from.of.element.two_state → Converts two_state from a
      → (j k : ℕ) → j < length marks → picked (element_of from.of z (from.window a)) j ≡ Some k → two_state k ≡ true → marked marks j ≡ true
  element-by from marks None keeps all same h j k less is mark = absurd (nothing-picked j k is)
  element-by from marks (Some i) keeps all same h j k less is mark =
      by (int_le (pos 0) (rank from.of i) && int_lt (rank from.of i) (pos (count_of from.of.left from.of.right))) is
    where
      one : j < 1 * length from.of.element.two_state
      one = (let e = ap (λ (l : List Bool). length l) same in omega arith)

      by : (b : Bool) → picked (cond b (elements from.of (rank from.of i) 1 (from.window a)) nowhere) j ≡ Some k → marked marks j ≡ true
      by true p = row-converts from marks (rank from.of i) 1 keeps all (same ∙ repeated-once from.of.element.two_state) h j k one p mark
      by false p = absurd (nothing-picked j k p)

  index-converts : (of : Layout) (at : ℕ) (from i : S.Meaning) → (P.index of at from i).misfits ≡ 0 → ElementsKeep from.of
      → count_of from.of.left from.of.right * length from.of.element.two_state ≡ S.wide from → Converts two_state from a → Converts two_state (P.index of at from i) a
  unfolding P.index
  index-converts of at from i typed keeps all h =
      let m = index-marks of at from i typed in
      let wide : length from.of.element.two_state ≡ length of.two_state = sym (ap length m.marks) in
      record {
        tight = subst (IsTight (element_of from.of (P.index_of i a) (from.window a))) wide (element-stays from.of (P.index_of i a) (from.window a));
        converted = element-by from of.two_state (P.index_of i a) keeps all m.marks h;
      }

  -- part-selects
  part-select-converts : (of : Layout) (at : ℕ) (from : S.Meaning) (left right : ℤ) → (P.part_select of at from left right).misfits ≡ 0 → ElementsKeep from.of
      → count_of from.of.left from.of.right * length from.of.element.two_state ≡ S.wide from → Converts two_state from a → Converts two_state (P.part_select of at from left right) a
  unfolding P.part_select P.sliding
  part-select-converts of at from left right typed keeps all h =
      let m = part-marks of at from left right typed in
      let n = count_of left right in
      record {
        tight = subst (IsTight (between from.of left right (from.window a))) (sym m.wide) (part-tight _ (n * length from.of.element.two_state) (from.window a));
        converted = λ j k less is mark. row-converts from of.two_state (rank from.of right) n keeps all m.marks h j k (let e = m.wide in omega arith) is mark;
      }

  slide-tight : (of : Layout) (up : Bool) (n : ℕ) (z : Option ℤ) (path : Window) → IsTight (slide of up n z path) (n * length of.element.two_state)
  slide-tight of up n None path = nowhere-tight (n * length of.element.two_state)
  slide-tight of up n (Some k) path = part-tight _ (n * length of.element.two_state) path

  slide-by : (from : S.Meaning) (marks : List Bool) (up : Bool) (n : ℕ) (z : Option ℤ) → ElementsKeep from.of
      → count_of from.of.left from.of.right * length from.of.element.two_state ≡ S.wide from → marks ≡ repeated n from.of.element.two_state → Converts two_state from a
      → (j k : ℕ) → j < n * length from.of.element.two_state → picked (slide from.of up n z (from.window a)) j ≡ Some k → two_state k ≡ true → marked marks j ≡ true
  slide-by from marks up n None keeps all same h j k less is mark = absurd (nothing-picked j k is)
  slide-by from marks up n (Some i) keeps all same h j k less is mark = row-converts from marks (rank from.of (lowest_index from.of up i n)) n keeps all same h j k less is mark

  slide-converts : (of : Layout) (at : ℕ) (from i : S.Meaning) (n : ℕ) (up : Bool) → (P.sliding of at from i n up).misfits ≡ 0 → ElementsKeep from.of
      → count_of from.of.left from.of.right * length from.of.element.two_state ≡ S.wide from → Converts two_state from a → Converts two_state (P.sliding of at from i n up) a
  unfolding P.sliding
  slide-converts of at from i n up typed keeps all h =
      let m = sliding-marks of at from i n up typed in
      record {
        tight = subst (IsTight (slide from.of up n (P.index_of i a) (from.window a))) (sym m.wide) (slide-tight from.of up n (P.index_of i a) (from.window a));
        converted = λ j k less is mark. slide-by from of.two_state up n (P.index_of i a) keeps all m.marks h j k (let e = m.wide in omega arith) is mark;
      }

  -- signals and locals
  signal-converts : (of : Layout) (at n : ℕ) → ((j : ℕ) → j < length of.two_state → two_state j ≡ marked of.two_state j) → Converts two_state (P.signal of at n) a
  unfolding P.signal
  signal-converts of at n same = record { tight = whole-tight (length of.two_state); converted = whole-converts of.two_state (length of.two_state) same }

  local-converts : (of : Layout) (at n : ℕ) → ((j : ℕ) → j < length of.two_state → two_state j ≡ marked of.two_state j) → Converts two_state (P.local of at n) a
  unfolding P.local
  local-converts of at n same = record { tight = whole-tight (length of.two_state); converted = whole-converts of.two_state (length of.two_state) same }

  -- what is known of what a step selects from
  members-of : (e : Expr) → MembersKeep (meaning e).of
  members-of e = subst MembersKeep (sym (heads e).kind) (type-keeps e.of).members

  elements-of : (e : Expr) → has_elements e.of ≡ true → ElementsKeep (meaning e).of
  elements-of e has = subst ElementsKeep (sym (heads e).kind) ((type-keeps e.of).each has)

  all-of : (e : Expr) → (meaning e).misfits ≡ 0 → count_of (meaning e).of.left (meaning e).of.right * length (meaning e).of.element.two_state ≡ S.wide (meaning e)
  all-of e typed =
      let kind = (heads e).kind in
      let some = has-bits e typed in
      (subst (λ (l : Layout). 1 ≤ length l.two_state → IsWhole l) (sym kind) (type-whole e.of) (omega arith)).elements

  misfits-as : (e : Expr) (m : S.Meaning) → meaning e ≡ m → (meaning e).misfits ≡ 0 → m.misfits ≡ 0
  misfits-as e m same typed = ap (λ (x : S.Meaning). x.misfits) (sym same) ∙ typed

  as-meant : (e : Expr) (m : S.Meaning) → meaning e ≡ m → Converts two_state m a → Converts two_state (meaning e) a
  as-meant e m same h = subst (λ x. Converts two_state x a) (sym same) h

  -- step by step
  path-converts : (number : ℕ) (t : SvType) → ((j : ℕ) → j < length (layout t).two_state → two_state j ≡ marked (layout t).two_state j)
      → (e : Expr) (xs : List Indexing) (part : Bool) → IsTypedPath number t e xs part → (meaning e).misfits ≡ 0 → Converts two_state (meaning e) a
  path-converts number t same e xs b (of_signal x n is it of) typed =
      as-meant x _ (same-Signal x n is) (signal-converts (layout x.of) x.spot.at n (subst (λ (u : SvType). (j : ℕ) → j < length (layout u).two_state → two_state j ≡ marked (layout u).two_state j) (sym of) same))
  path-converts number t same e xs b (of_local x n is it of) typed =
      as-meant x _ (same-Local x n is) (local-converts (layout x.of) x.spot.at n (subst (λ (u : SvType). (j : ℕ) → j < length (layout u).two_state → two_state j ≡ marked (layout u).two_state j) (sym of) same))
  path-converts number t same e xs b (of_member x from k ys is path) typed =
      let here = misfits-as x _ (same-Member x from k is) typed in
      let below = (member-marks (layout x.of) x.spot.at (meaning from) k here).typed in
      as-meant x _ (same-Member x from k is)
      (member-converts (layout x.of) x.spot.at (meaning from) k here (members-of from) (path-converts number t same from ys false path below))
  path-converts number t same e xs b (of_index x from i ys c is has path) typed =
      let here = misfits-as x _ (same-Index x from i is) typed in
      let below = (index-marks (layout x.of) x.spot.at (meaning from) (meaning i) here).typed in
      as-meant x _ (same-Index x from i is)
      (index-converts (layout x.of) x.spot.at (meaning from) (meaning i) here (elements-of from has) (all-of from below) (path-converts number t same from ys c path below))
  path-converts number t same e xs b (of_part x from left right ys c is has bounds path) typed =
      let here = misfits-as x _ (same-Part x from left right is) typed in
      let below = (part-marks (layout x.of) x.spot.at (meaning from) left right here).typed in
      as-meant x _ (same-Part x from left right is)
      (part-select-converts (layout x.of) x.spot.at (meaning from) left right here (elements-of from has) (all-of from below) (path-converts number t same from ys c path below))
  path-converts number t same e xs b (of_slide x from i n up ys c is has bounds path) typed =
      let here = misfits-as x _ (same-Slide x from i n up is) typed in
      let below = (sliding-marks (layout x.of) x.spot.at (meaning from) (meaning i) n up here).typed in
      as-meant x _ (same-Slide x from i n up is)
      (slide-converts (layout x.of) x.spot.at (meaning from) (meaning i) n up here (elements-of from has) (all-of from below) (path-converts number t same from ys c path below))

-- what is written to a typed path is converted
pub converted : (two_state : ℕ → Bool) (number : ℕ) (t : SvType) (e : Expr) (xs : List Indexing) (part : Bool) (a : Around) → IsTypedPath number t e xs part → (meaning e).misfits ≡ 0
    → ((j : ℕ) → two_state j ≡ marked (layout t).two_state j) → IsConverted two_state (meaning e) a
converted two_state number t e xs part a path typed same = (path-converts two_state a number t (λ j less. same j) e xs part path typed).converted

-- what a typed path stands on has bits
misfits-at : (e : Expr) (m : S.Meaning) → meaning e ≡ m → (meaning e).misfits ≡ 0 → m.misfits ≡ 0
misfits-at e m same typed = ap (λ (x : S.Meaning). x.misfits) (sym same) ∙ typed

root-bits : (e : Expr) (t : SvType) → e.of ≡ t → (meaning e).misfits ≡ 0 → 1 ≤ length (layout t).two_state
root-bits e t of typed =
    let some = has-bits e typed in
    let kind = ap (λ (l : Layout). length l.two_state) ((heads e).kind ∙ ap layout of) in
    omega arith

pub holds-bits : (number : ℕ) (t : SvType) (e : Expr) (xs : List Indexing) (part : Bool) → IsTypedPath number t e xs part → (meaning e).misfits ≡ 0 → 1 ≤ length (layout t).two_state
holds-bits number t e xs b (of_signal x n is it of) typed = root-bits x t of typed
holds-bits number t e xs b (of_local x n is it of) typed = root-bits x t of typed
holds-bits number t e xs b (of_member x from k ys is path) typed =
    holds-bits number t from ys false path (member-marks (layout x.of) x.spot.at (meaning from) k (misfits-at x _ (same-Member x from k is) typed)).typed
holds-bits number t e xs b (of_index x from i ys c is has path) typed =
    holds-bits number t from ys c path (index-marks (layout x.of) x.spot.at (meaning from) (meaning i) (misfits-at x _ (same-Index x from i is) typed)).typed
holds-bits number t e xs b (of_part x from left right ys c is has bounds path) typed =
    holds-bits number t from ys c path (part-marks (layout x.of) x.spot.at (meaning from) left right (misfits-at x _ (same-Part x from left right is) typed)).typed
holds-bits number t e xs b (of_slide x from i n up ys c is has bounds path) typed =
    holds-bits number t from ys c path (sliding-marks (layout x.of) x.spot.at (meaning from) (meaning i) n up (misfits-at x _ (same-Slide x from i n up is) typed)).typed
