-- A part-select that is written and may be partly out of range: element by element, each under the guard of its own index.
use Rattle.std.proofs.Common.{◌≡◌, ℕ, suc, ◌+◌, ◌*◌, ◌<◌, ◌≤◌, Bool, true, false, ◌&&◌, cond, ℤ, pos, negsuc, ◌+ℤ◌, ◌-ℤ◌, ◌*ℤ◌, length, List, [], ◌∷◌, ◌++◌, Option, Some, None, refl, arith, sym, ◌∙◌, subst, ap}
use Rattle.std.specs.Prelude.{int_le, int_lt, unsigned_abs}
use Rattle.std.proofs.lemmas.Int.{ints}
use Rattle.std.proofs.lemmas.Nat.{mul-le}
use Rattle.std.proofs.lemmas.Bool.Decides.{nat_tests}
use Rattle.row_machine.specs.Valuation.{Valuation}
use Rattle.picks.specs.Windows.{Window, nowhere, part, picked}
use Rattle.sv_types.specs.Layouts.{Layout, count_of}
use Rattle.sv_types.specs.Windows.{rank, elements, element_of, slide, lowest_index}
use Rattle.sv_types.proofs.Picks.{pick, nothing-there}
use Rattle.v_meaning.specs.Scopes.{Scope}
use Rattle.v_meaning.specs.Values as T
use Rattle.lowering_laws.specs.Placed.{HasRank, NoRank, unknown, outside, IsRank}
use Rattle.lowering_laws.specs.Reached.{Piece, IsWritten}
use Rattle.lowering_laws.proofs.AnyRank.{le-yes, le-no}
use Rattle.lowering_laws.proofs.Changes.{raised}
use Rattle.lowering_laws.proofs.Slides.{picked-slide, far}
use Rattle.lowering_laws.proofs.Splits.{part-split, split-pieces}
use Rattle.lowering_laws.proofs.WriteAt.{IsTight, nowhere-tight, part-tight, same-written-at, none-written-at}

next-row : (r : ℤ) (w : ℕ) → (r +ℤ pos 1) *ℤ pos w ≡ r *ℤ pos w +ℤ pos w
next-row r w = grind (arith, ints)

below-row : (k w : ℕ) → negsuc k *ℤ pos w ≡ pos 0 -ℤ pos (k * w + w)
below-row k w = grind (arith, ints)

row-of : (q w : ℕ) → pos q *ℤ pos w ≡ pos (q * w)
row-of q w = grind (arith, ints)

-- An element with an index out of range is no bit of the path, whose bits are those of all elements.
outside-row : (r : ℤ) (w n j m : ℕ) → j < w → (int_le (pos 0) r && int_lt r (pos n)) ≡ false → pos j +ℤ r *ℤ pos w ≡ pos m → m < n * w → ⊥
outside-row (negsuc k) w n j m h out is less =
    let e = below-row k w in
    let same : pos j +ℤ (pos 0 -ℤ pos (k * w + w)) ≡ pos m = ap (λ z. pos j +ℤ z) (sym e) ∙ is in
    apart j (k * w) m h same
  where
    apart : (x y z : ℕ) → x < w → pos x +ℤ (pos 0 -ℤ pos (y + w)) ≡ pos z → ⊥
    apart x y z f g = omega (arith, ints)
outside-row (pos q) w n j m h out is less =
    let many : n ≤ q = grind (arith, nat_tests) in
    let rows = mul-le n w q w many (omega arith) in
    let same : j + q * w ≡ m = numbers j (q * w) m (ap (λ z. pos j +ℤ z) (sym (row-of q w)) ∙ is) in
    absurd (omega arith)
  where
    numbers : (x y z : ℕ) → pos x +ℤ pos y ≡ pos z → x + y ≡ z
    numbers x y z g = omega (arith, ints)

module _ (of : Layout) (path : Window) (tight : IsTight path (count_of of.left of.right * length of.element.two_state)) where
  abbrev w : ℕ
  w = length of.element.two_state

  none-there : (r : ℤ) (j : ℕ) → j < 1 * w → (int_le (pos 0) r && int_lt r (pos (count_of of.left of.right))) ≡ false → picked (elements of r 1 path) j ≡ None
  none-there r j h out =
      let same : pos j +ℤ (path.shift +ℤ r *ℤ pos w) ≡ (pos j +ℤ r *ℤ pos w) +ℤ path.shift = omega (arith, ints) in
      picked-slide (r *ℤ pos w) (1 * w) path j h ∙ ap (pick path.low path.high) same
      ∙ far path (count_of of.left of.right * w) (pos j +ℤ r *ℤ pos w) tight (λ m is less. outside-row r w (count_of of.left of.right) j m (omega arith) out is less)

  -- an element by its rank is the one by its index
  rank-by : (r : ℤ) (j : ℕ) (b : Bool) → j < 1 * w → (int_le (pos 0) r && int_lt r (pos (count_of of.left of.right))) ≡ b → picked (cond b (elements of r 1 path) nowhere) j ≡ picked (elements of r 1 path) j
  rank-by r j true h is = refl
  rank-by r j false h is = nothing-there (pos j +ℤ pos 0) ∙ sym (none-there r j h is)

  element-same : (k : ℤ) (j : ℕ) → j < 1 * w → picked (element_of of (Some k) path) j ≡ picked (elements of (rank of k) 1 path) j
  element-same k j h = rank-by (rank of k) j _ h refl

  element-tight-by : (r : ℤ) (b : Bool) → IsTight (cond b (elements of r 1 path) nowhere) (1 * w)
  element-tight-by r true = part-tight (r *ℤ pos w) (1 * w) path
  element-tight-by r false = nowhere-tight (1 * w)

  pub element-tight : (z : Option ℤ) → IsTight (element_of of z path) (1 * w)
  element-tight None = nowhere-tight (1 * w)
  element-tight (Some k) = element-tight-by (rank of k) (int_le (pos 0) (rank of k) && int_lt (rank of k) (pos (count_of of.left of.right)))

  pub one-element : (k r : ℤ) (image : ℕ) (ps : List Piece) (sc : Scope) (v : Valuation) → rank of k ≡ r → IsWritten (element_of of (Some k) path) (1 * w) image ps sc v
      → IsWritten (elements of r 1 path) (1 * w) image ps sc v
  one-element k r image ps sc v is h = record {
    wide = h.wide;
    below = h.below;
    puts = λ bits long q.
        h.puts bits long q
        ∙ sym (same-written-at image (element_of of (Some k) path) (elements of r 1 path) (1 * w) (element-tight (Some k)) (part-tight (r *ℤ pos w) (1 * w) path)
        (λ j less. element-same k j less ∙ ap (λ x. picked (elements of x 1 path) j) is) bits q);
  }

-- Pieces of elements, the lowest element first.
abbrev pub element_pieces : ℕ → List (List Piece) → List Piece
element_pieces w [] = []
element_pieces w (ps ∷ pss) = ps ++ raised w (element_pieces w pss)

-- each element has its rank from one on
abbrev pub AllWritten : Layout → Window → ℤ → ℕ → List (List Piece) → Scope → Valuation → Type 0
AllWritten of path r image [] sc v = Unit {0}
AllWritten of path r image (ps ∷ pss) sc v =
    ((k : ℤ) × (rank of k ≡ r) × IsWritten (element_of of (Some k) path) (1 * length of.element.two_state) image ps sc v) × AllWritten of path (r +ℤ pos 1) image pss sc v

module _ (of : Layout) (path : Window) (tight : IsTight path (count_of of.left of.right * length of.element.two_state)) (image : ℕ) (sc : Scope) (v : Valuation) where
  abbrev e : ℕ
  e = length of.element.two_state

  pub elements-written : (r : ℤ) (pss : List (List Piece)) → AllWritten of path r image pss sc v
      → IsWritten (elements of r (length pss) path) (length pss * e) image (element_pieces e pss) sc v
  elements-written r [] h = record {
    wide = tt;
    below = tt;
    puts = λ bits long q. sym (none-written-at image (elements of r 0 path) (0 * e) (part-tight (r *ℤ pos e) (0 * e) path) (λ j less. absurd (omega arith)) bits q);
  }
  elements-written r (ps ∷ pss) h =
      let n = length pss in
      let one : 1 * e ≡ e = omega arith in
      let sum : e + length pss * e ≡ suc (length pss) * e = grind arith in
      let k = h.0 in
      let low = one-element of path tight k.0 r image ps sc v k.1 k.2 in
      let first : IsWritten (part (r *ℤ pos e) e path) e image ps sc v = subst (λ x. IsWritten (part (r *ℤ pos e) x path) x image ps sc v) one low in
      let rest : IsWritten (part (r *ℤ pos e +ℤ pos e) (length pss * e) path) (length pss * e) image (element_pieces e pss) sc v = subst (λ (z : ℤ). IsWritten (part z (length pss * e) path) (length pss * e) image (element_pieces e pss) sc v) (next-row r e) (elements-written (r +ℤ pos 1) pss h.1) in
      subst (λ x. IsWritten (part (r *ℤ pos e) x path) x image (element_pieces e (ps ∷ pss)) sc v) sum
      (split-pieces (part (r *ℤ pos e) (e + length pss * e) path) (part (r *ℤ pos e) e path) (part (r *ℤ pos e +ℤ pos e) (length pss * e) path) e (length pss * e) image ps (element_pieces e pss) sc v
      (part-split (r *ℤ pos e) e (length pss * e) path) first rest)

  -- so `[k +: n]` and `[k -: n]` are written by the pieces of their elements
  pub slide-written : (up : Bool) (k : ℤ) (pss : List (List Piece)) → AllWritten of path (rank of (lowest_index of up k (length pss))) image pss sc v
      → IsWritten (slide of up (length pss) (Some k) path) (length pss * e) image (element_pieces e pss) sc v
  slide-written up k pss h = elements-written (rank of (lowest_index of up k (length pss))) pss h

-- The element that lies so far from an index has the rank that the index has between shifted bounds.
abbrev pub shifted : Layout → ℤ → Layout
shifted of d = record of { left = of.left -ℤ d; right = of.right -ℤ d }

le-shifted : (a b d : ℤ) → int_le (a -ℤ d) (b -ℤ d) ≡ int_le a b
le-shifted a b d = by (int_le a b) (int_le (a -ℤ d) (b -ℤ d)) refl refl
  where
    by : (p q : Bool) → int_le a b ≡ p → int_le (a -ℤ d) (b -ℤ d) ≡ q → int_le (a -ℤ d) (b -ℤ d) ≡ int_le a b
    by true true h g = g ∙ sym h
    by false false h g = g ∙ sym h
    by true false h g = (let x = le-yes a b h in let y = le-no (a -ℤ d) (b -ℤ d) g in absurd (omega (arith, ints)))
    by false true h g = (let x = le-no a b h in let y = le-yes (a -ℤ d) (b -ℤ d) g in absurd (omega (arith, ints)))

pub shifted-count : (of : Layout) (d : ℤ) → count_of (of.left -ℤ d) (of.right -ℤ d) ≡ count_of of.left of.right
shifted-count of d = ap (λ z. unsigned_abs z + 1) (same of.left of.right)
  where
    same : (a b : ℤ) → (a -ℤ d) -ℤ (b -ℤ d) ≡ a -ℤ b
    same a b = omega (arith, ints)

pub shifted-rank : (of : Layout) (d k : ℤ) → rank (shifted of d) k ≡ rank of (k +ℤ d)
shifted-rank of d k =
    (λ i. cond (le-shifted of.right of.left d i) (falling of.right i) (rising of.right i))
  where
    falling : (b : ℤ) → k -ℤ (b -ℤ d) ≡ (k +ℤ d) -ℤ b
    falling b = omega (arith, ints)

    rising : (b : ℤ) → (b -ℤ d) -ℤ k ≡ b -ℤ (k +ℤ d)
    rising b = omega (arith, ints)

abbrev pub moved_by : Option ℤ → ℤ → Option ℤ
moved_by None d = None
moved_by (Some k) d = Some (k +ℤ d)

pub shifted-has : (of : Layout) (d : ℤ) (i : Option ℤ) (q : ℕ) → HasRank (shifted of d) i q → HasRank of (moved_by i d) q
shifted-has of d i q h =
    let count = shifted-count of d in
    let below = h.below in
    record {
      index = h.index +ℤ d;
      known_there = ap (λ (o : Option ℤ). moved_by o d) h.known_there;
      rank_is = sym (shifted-rank of d h.index) ∙ h.rank_is;
      below = omega arith;
    }

pub shifted-none : (of : Layout) (d : ℤ) (i : Option ℤ) → NoRank (shifted of d) i → NoRank of (moved_by i d)
shifted-none of d None unknown = unknown
shifted-none of d (Some k) (outside _ h) =
    outside (k +ℤ d) ((λ i. int_le (pos 0) (sym (shifted-rank of d k) i) && int_lt (sym (shifted-rank of d k) i) (pos (sym (shifted-count of d) i))) ∙ h)

pub shifted-is-rank : (of : Layout) (d : ℤ) (i : Option ℤ) (g : Option T.Meaning) (r : T.Meaning) (w : ℕ) (sc : Scope) (v : Valuation) → IsRank (shifted of d) i g r w sc v → IsRank of (moved_by i d) g r w sc v
shifted-is-rank of d i g r w sc v h = record {
  width = h.width;
  unsigned = h.unsigned;
  yes = λ f k. shifted-has of d i _ (h.yes f k);
  no = λ f. shifted-none of d i (h.no f);
  lost = λ f k. shifted-none of d i (h.lost f k);
}
