-- Selects by an index of a path that is all of its image: bits out of range are out of range in the image too.
use Rattle.std.proofs.Common.{◌≡◌, ℕ, ◌+◌, ◌*◌, ◌<◌, ◌≤◌, Bool, true, false, ◌&&◌, cond, ℤ, pos, negsuc, ◌+ℤ◌, ◌-ℤ◌, ◌*ℤ◌, length, List, [], ◌∷◌, Option, Some, None, refl, arith, ap, sym, ◌∙◌, subst}
use Rattle.std.specs.Prelude.{int_le, int_lt}
use Rattle.std.proofs.lemmas.Int.{ints}
use Rattle.std.proofs.lemmas.Nat.{mul-le}
use Rattle.std.proofs.lemmas.Bool.Decides.{nat_tests}
use Rattle.row_machine.specs.Valuation.{Valuation}
use Rattle.picks.specs.Windows.{Window, whole, nowhere, part, picked}
use Rattle.sv_types.specs.Layouts.{Layout, count_of}
use Rattle.sv_types.specs.Windows.{falls, rank, elements, element_of, slide, lowest_index}
use Rattle.sv_types.specs.Surroundings.{Around}
use Rattle.sv_types.specs.Meanings as S
use Rattle.sv_types.proofs.Picks.{pick, nothing-there}
use Rattle.v_tree.specs.Names.{Name}
use Rattle.v_meaning.specs.Scopes.{Scope, named}
use Rattle.v_meaning.specs.Values as T
use Rattle.v_meaning.specs.Values.{number_of}
use Rattle.lowering_laws.specs.Images.{IsSlide, Names}
use Rattle.lowering_laws.specs.Reached.{Piece, IsWritten}
use Rattle.lowering_laws.specs.Slid.{begins}
use Rattle.lowering_laws.specs.Terms as terms
use Rattle.lowering_laws.proofs.Paths.{one-window, one-width}
use Rattle.lowering_laws.proofs.References.{NamesSame, slide-names}
use Rattle.lowering_laws.proofs.Slides.{picked-slide, far}
use Rattle.lowering_laws.proofs.Targets.{all-of, select-tight, names-written}
use Rattle.lowering_laws.proofs.WriteAt.{IsTight, nowhere-tight, part-tight, same-written-at}
use Rattle.target_laws.specs.Standing.{IsVectorOf}

-- A part-select as a part from a number of bits on, and an element as such a part where the path is tight.
pub slide-part : (of : Layout) (up : Bool) (n : ℕ) (z : Option ℤ) (path : Window)
    → slide of up n z path ≡ elim (begins of up n z) [ None ↦ nowhere | Some k ↦ part k (n * length of.element.two_state) path ]
slide-part of up n None path = refl
slide-part of up n (Some k) path = refl

next-row : (k w : ℕ) → negsuc k *ℤ pos w ≡ pos 0 -ℤ pos (k * w + w)
next-row k w = grind (arith, ints)

row-of : (q w : ℕ) → pos q *ℤ pos w ≡ pos (q * w)
row-of q w = grind (arith, ints)

outside-row : (r : ℤ) (w n j m : ℕ) → j < w → (int_le (pos 0) r && int_lt r (pos n)) ≡ false → pos j +ℤ r *ℤ pos w ≡ pos m → m < n * w → ⊥
outside-row (negsuc k) w n j m h out is less =
    let same : pos j +ℤ (pos 0 -ℤ pos (k * w + w)) ≡ pos m = ap (λ z. pos j +ℤ z) (sym (next-row k w)) ∙ is in
    apart j (k * w) m h same
  where
    apart : (x y z : ℕ) → x < w → pos x +ℤ (pos 0 -ℤ pos (y + w)) ≡ pos z → ⊥
    apart x y z f g = omega (arith, ints)
outside-row (pos q) w n j m h out is less =
    let many : n ≤ q = grind (arith, nat_tests) in
    let rows = mul-le n w q w many (omega arith) in
    let same : j + q * w ≡ m = numbers j (q * w) m (ap (λ z. pos j +ℤ z) (sym (row-of q w)) ∙ is) in
    absurd (omega arith)
  where
    numbers : (x y z : ℕ) → pos x +ℤ pos y ≡ pos z → x + y ≡ z
    numbers x y z g = omega (arith, ints)

module _ (of : Layout) (path : Window) (tight : IsTight path (count_of of.left of.right * length of.element.two_state)) where
  abbrev w : ℕ
  w = length of.element.two_state

  none-there : (r : ℤ) (j : ℕ) → j < w → (int_le (pos 0) r && int_lt r (pos (count_of of.left of.right))) ≡ false → picked (part (r *ℤ pos w) w path) j ≡ None
  none-there r j h out =
      let same : pos j +ℤ (path.shift +ℤ r *ℤ pos w) ≡ (pos j +ℤ r *ℤ pos w) +ℤ path.shift = omega (arith, ints) in
      picked-slide (r *ℤ pos w) w path j h ∙ ap (pick path.low path.high) same
      ∙ far path (count_of of.left of.right * w) (pos j +ℤ r *ℤ pos w) tight (λ m is less. outside-row r w (count_of of.left of.right) j m h out is less)

  rank-by : (r : ℤ) (j : ℕ) (b : Bool) → j < w → (int_le (pos 0) r && int_lt r (pos (count_of of.left of.right))) ≡ b → picked (cond b (elements of r 1 path) nowhere) j ≡ picked (part (r *ℤ pos w) w path) j
  rank-by r j true h is = (let one : 1 * w ≡ w = omega arith in ap (λ k. picked (part (r *ℤ pos w) k path) j) one)
  rank-by r j false h is = nothing-there (pos j +ℤ pos 0) ∙ sym (none-there r j h is)

  first-rank : (k : ℤ) → lowest_index of true k 1 ≡ k
  first-rank k = by (falls of)
    where
      by : (b : Bool) → cond b k (k +ℤ pos 0) ≡ k
      by true = refl
      by false = omega (arith, ints)

  pub element-part : (z : Option ℤ) (j : ℕ) → j < w → picked (element_of of z path) j ≡ picked (elim (begins of true 1 z) [ None ↦ nowhere | Some k ↦ part k w path ]) j
  element-part None j h = refl
  element-part (Some k) j h =
      rank-by (rank of k) j (int_le (pos 0) (rank of k) && int_lt (rank of k) (pos (count_of of.left of.right))) h refl
      ∙ ap (λ x. picked (part (rank of x *ℤ pos w) w path) j) (sym (first-rank k))

-- Selects of the image.
module _ (e from : S.Meaning) (a : Around) (z : Option ℤ) (o : T.Meaning) (name : Name) (bits : ℕ) (sc : Scope) (v : Valuation) (vector : IsVectorOf name bits sc) (is : IsSlide e from a z)
    (number : number_of o.signed (T.alone o sc v) ≡ z) (all : S.wide from ≡ bits) (tight : IsTight (from.window a) (S.wide from)) (names : Names from a 0 (S.wide from)) where
  abbrev image : ℕ
  image = (named sc.names name).number

  part-stays : (y : Option ℤ) → IsTight (elim y [ None ↦ nowhere | Some k ↦ part k (S.wide e) (from.window a) ]) (S.wide e)
  part-stays None = nowhere-tight (S.wide e)
  part-stays (Some k) = part-tight k (S.wide e) (from.window a)

  e-tight : IsTight (e.window a) (S.wide e)
  e-tight = subst (λ p. IsTight p (S.wide e)) (sym is.window) (part-stays z)

  slides : NamesSame e a None name (terms.slide o (S.wide e) ∷ []) sc v
  slides = slide-names e from a z o name sc v vector.vector is number (all ∙ sym vector.width) tight names

  pub slide-written : IsWritten (e.window a) (S.wide e) image (all-of None name (terms.slide o (S.wide e) ∷ []) (S.wide e) ∷ []) sc v
  slide-written =
      names-written e a None name (terms.slide o (S.wide e) ∷ []) sc v slides e-tight
      (subst (IsTight (T.path_of (named sc.names name) (terms.slide o (S.wide e) ∷ []) sc v).window) (sym (one-width (named sc.names name) (terms.slide o (S.wide e)) vector.vector))
      (select-tight (named sc.names name) (terms.slide o (S.wide e)) sc v vector.vector))

  bit-window : S.wide e ≡ 1 → (T.path_of (named sc.names name) (terms.slide o (S.wide e) ∷ []) sc v).window ≡ (T.path_of (named sc.names name) (terms.bit_at_offset o ∷ []) sc v).window
  bit-window one =
      one-window (named sc.names name) (terms.slide o (S.wide e)) sc v vector.vector
      ∙ ap (λ k. elim (number_of o.signed (T.alone o sc v)) [ None ↦ nowhere | Some y ↦ part y k (whole (named sc.names name).width) ]) one
      ∙ sym (one-window (named sc.names name) (terms.bit_at_offset o) sc v vector.vector)

  bits-same : S.wide e ≡ 1 → NamesSame e a None name (terms.bit_at_offset o ∷ []) sc v
  bits-same one = record {
    width = one-width (named sc.names name) (terms.bit_at_offset o) vector.vector ∙ sym one;
    yes = λ h j less. slides.yes h j less ∙ ap (λ x. picked x j) (bit-window one);
    no = slides.no;
  }

  pub slide-bit-written : S.wide e ≡ 1 → IsWritten (e.window a) (S.wide e) image (all-of None name (terms.bit_at_offset o ∷ []) (S.wide e) ∷ []) sc v
  slide-bit-written one =
      names-written e a None name (terms.bit_at_offset o ∷ []) sc v (bits-same one) e-tight
      (subst (IsTight (T.path_of (named sc.names name) (terms.bit_at_offset o ∷ []) sc v).window) (sym (one-width (named sc.names name) (terms.bit_at_offset o) vector.vector))
      (select-tight (named sc.names name) (terms.bit_at_offset o) sc v vector.vector))

-- a path that names the same bits is written alike
pub same-path : (path other : Window) (n image : ℕ) (ps : List Piece) (sc : Scope) (v : Valuation) → IsTight path n → IsTight other n → ((j : ℕ) → j < n → picked path j ≡ picked other j)
    → IsWritten other n image ps sc v → IsWritten path n image ps sc v
same-path path other n image ps sc v tight other_tight same h = record {
  wide = h.wide;
  below = h.below;
  puts = λ bits long q. h.puts bits long q ∙ same-written-at image path other n tight other_tight same bits q;
}
