-- A part-select by an index is written element by element, the lowest one first.
use Rattle.std.proofs.Common.{◌≡◌, ℕ, zero, suc, ◌+◌, ◌-◌, ◌*◌, ◌<◌, ◌≤◌, ◌^◌, Bool, true, false, cond, ℤ, pos, ◌+ℤ◌, ◌-ℤ◌, ◌*ℤ◌, length, List, [], ◌++◌, Option, Some, None, refl, arith, ap, sym, ◌∙◌, subst}
use Rattle.std.proofs.lemmas.Int.{ints}
use Rattle.row_machine.specs.Valuation.{Valuation}
use Rattle.picks.specs.Windows.{Window, nowhere, part}
use Rattle.sv_types.specs.Layouts.{Layout, count_of}
use Rattle.sv_types.specs.Windows.{falls, rank, elements, element_of, slide, lowest_index}
use Rattle.sv_types.specs.Surroundings.{Around}
use Rattle.sv_types.specs.Meanings as S
use Rattle.sv_types.proofs.Picks.{nothing-there}
use Rattle.v_meaning.specs.Scopes.{Scope}
use Rattle.v_meaning.specs.Values as T
use Rattle.lowering_laws.specs.Placed.{IsRank, IsPlaced}
use Rattle.lowering_laws.specs.Reached.{Piece, IsWritten}
use Rattle.lowering_laws.specs.Terms.{and_guard, moved}
use Rattle.lowering_laws.proofs.Changes.{raised}
use Rattle.lowering_laws.proofs.Offsets.{index-placed}
use Rattle.lowering_laws.proofs.SlideTargets.{one-element}
use Rattle.lowering_laws.proofs.Splits.{IsSplit, split-pieces, part-split}
use Rattle.lowering_laws.proofs.WriteAt.{IsTight, nowhere-tight, part-tight}
use Rattle.target_laws.specs.Distances.{moved_by, distance, lowest_elements}
use Rattle.target_laws.proofs.Clipping.{none-clipped}

-- the rank of element t
pub distance-rank : (of : Layout) (up : Bool) (n t : ℕ) (k : ℤ) → rank of (k +ℤ distance (falls of) up n t) ≡ rank of (lowest_index of up k n) +ℤ pos t
distance-rank of true n t k = by (falls of)
  where
    by : (d : Bool) → cond d ((k +ℤ distance d true n t) -ℤ of.right) (of.right -ℤ (k +ℤ distance d true n t))
        ≡ cond d (cond d k (k +ℤ pos (n - 1)) -ℤ of.right) (of.right -ℤ cond d k (k +ℤ pos (n - 1))) +ℤ pos t
    by true = omega (arith, ints)
    by false = omega (arith, ints)
distance-rank of false n t k = by (falls of)
  where
    by : (d : Bool) → cond d ((k +ℤ distance d false n t) -ℤ of.right) (of.right -ℤ (k +ℤ distance d false n t))
        ≡ cond d (cond d (k -ℤ pos (n - 1)) k -ℤ of.right) (of.right -ℤ cond d (k -ℤ pos (n - 1)) k) +ℤ pos t
    by true = omega (arith, ints)
    by false = omega (arith, ints)

-- no elements
pub none-written : (of : Layout) (up : Bool) (n : ℕ) (z : Option ℤ) (path : Window) (image : ℕ) (sc : Scope) (v : Valuation)
    → IsWritten (lowest_elements of up n z 0 path) (0 * length of.element.two_state) image [] sc v
none-written of up n z path image sc v = none-clipped (lowest_elements of up n z 0 path) (0 * length of.element.two_state) image sc v (tight z) (λ j less. absurd (omega arith))
  where
    tight : (y : Option ℤ) → IsTight (lowest_elements of up n y 0 path) (0 * length of.element.two_state)
    tight None = nowhere-tight (0 * length of.element.two_state)
    tight (Some k) = part-tight (rank of (lowest_index of up k n) *ℤ pos (length of.element.two_state)) (0 * length of.element.two_state) path

next-row : (r : ℤ) (w : ℕ) → (r +ℤ pos 1) *ℤ pos w ≡ r *ℤ pos w +ℤ pos w
next-row r w = grind (arith, ints)

pub rows : (r : ℤ) (w t : ℕ) → r *ℤ pos w +ℤ pos (t * w) ≡ (r +ℤ pos t) *ℤ pos w
rows r w zero =
    let none : 0 * w ≡ 0 = grind arith in
    let same : r *ℤ pos w +ℤ pos 0 ≡ r *ℤ pos w = nothing_more (r *ℤ pos w) in
    ap (λ x. r *ℤ pos w +ℤ pos x) none ∙ same ∙ ap (λ (x : ℤ). x *ℤ pos w) (sym (nothing_more r))
  where
    nothing_more : (x : ℤ) → x +ℤ pos 0 ≡ x
    nothing_more x = omega (arith, ints)
rows r w (suc t) =
    let all : suc t * w ≡ t * w + w = grind arith in
    ap (λ x. r *ℤ pos w +ℤ pos x) all ∙ split (r *ℤ pos w) (t * w) w ∙ ap (λ x. x +ℤ pos w) (rows r w t) ∙ sym (next-row (r +ℤ pos t) w) ∙ ap (λ (x : ℤ). x *ℤ pos w) (one_more r t)
  where
    split : (x : ℤ) (a b : ℕ) → x +ℤ pos (a + b) ≡ (x +ℤ pos a) +ℤ pos b
    split x a b = omega (arith, ints)

    one_more : (x : ℤ) (a : ℕ) → (x +ℤ pos a) +ℤ pos 1 ≡ x +ℤ pos (suc a)
    one_more x a = omega (arith, ints)

-- one more
nothing-split : (m n : ℕ) → IsSplit nowhere nowhere nowhere m n
nothing-split m n = record {
  tight = nowhere-tight (m + n);
  low_tight = nowhere-tight m;
  high_tight = nowhere-tight n;
  lower = λ j less. refl;
  upper = λ j less. nothing-there (pos (m + j) +ℤ pos 0) ∙ sym (nothing-there (pos j +ℤ pos 0));
}

module _ (of : Layout) (up : Bool) (n t : ℕ) (path : Window) (tight : IsTight path (count_of of.left of.right * length of.element.two_state)) (image : ℕ) (ps qs : List Piece) (sc : Scope) (v : Valuation) where
  abbrev w : ℕ
  w = length of.element.two_state

  all : t * w + w ≡ suc t * w
  all = grind arith

  one : 1 * w ≡ w
  one = omega arith

  row : (r : ℤ) → r *ℤ pos w +ℤ pos (t * w) ≡ (r +ℤ pos t) *ℤ pos w
  row r = rows r w t

  pub next-written : (z : Option ℤ) → IsWritten (lowest_elements of up n z t path) (t * w) image ps sc v
      → IsWritten (element_of of (moved_by z (distance (falls of) up n t)) path) w image qs sc v
      → IsWritten (lowest_elements of up n z (suc t) path) (suc t * w) image (ps ++ raised (t * w) qs) sc v
  next-written None below above =
      subst (λ k. IsWritten nowhere k image (ps ++ raised (t * w) qs) sc v) all
      (split-pieces nowhere nowhere nowhere (t * w) w image ps qs sc v (nothing-split (t * w) w) below above)
  next-written (Some k) below above =
      let r = rank of (lowest_index of up k n) in
      let above_one : IsWritten (element_of of (Some (k +ℤ distance (falls of) up n t)) path) (1 * w) image qs sc v =
      subst (λ x. IsWritten (element_of of (Some (k +ℤ distance (falls of) up n t)) path) x image qs sc v) (sym one) above in
      let by_rank : IsWritten (elements of (r +ℤ pos t) 1 path) (1 * w) image qs sc v =
      one-element of path tight (k +ℤ distance (falls of) up n t) (r +ℤ pos t) image qs sc v (distance-rank of up n t k) above_one in
      let high : IsWritten (part (r *ℤ pos w +ℤ pos (t * w)) w path) w image qs sc v =
      subst (λ (x : ℤ). IsWritten (part x w path) w image qs sc v) (sym (row r)) (subst (λ x. IsWritten (part ((r +ℤ pos t) *ℤ pos w) x path) x image qs sc v) one by_rank) in
      subst (λ x. IsWritten (part (r *ℤ pos w) x path) x image (ps ++ raised (t * w) qs) sc v) all
      (split-pieces (part (r *ℤ pos w) (t * w + w) path) (part (r *ℤ pos w) (t * w) path) (part (r *ℤ pos w +ℤ pos (t * w)) w path) (t * w) w image ps qs sc v
      (part-split (r *ℤ pos w) (t * w) w path) below high)

-- all of them
pub all-written : (of : Layout) (up : Bool) (n : ℕ) (z : Option ℤ) (path : Window) (m image : ℕ) (ps : List Piece) (sc : Scope) (v : Valuation)
    → IsWritten (lowest_elements of up n z n path) m image ps sc v → IsWritten (slide of up n z path) m image ps sc v
all-written of up n None path m image ps sc v h = h
all-written of up n (Some k) path m image ps sc v h = h

-- The element with an index of a path that is placed.
module _ (from : S.Meaning) (a : Around) (z : Option ℤ) (g c : Option T.Meaning) (o r : T.Meaning) (w bits : ℕ) (sc : Scope) (v : Valuation)
    (some : 1 ≤ w) (narrow : w ≤ 128) (small : bits < 2 ^ w) (all : count_of from.of.left from.of.right * length from.of.element.two_state ≡ S.wide from)
    (placed : IsPlaced from a g o w bits sc v) (is_rank : IsRank from.of z c r w sc v) (long : length (r.value w false sc v) ≡ w) where
  abbrev pub element : S.Meaning
  element = record from { of = record from.of { two_state = from.of.element.two_state }; window = λ (b : Around). element_of from.of z (from.window b) }

  pub element-placed : IsPlaced element a (and_guard g c) (moved o r (length from.of.element.two_state) w) w bits sc v
  element-placed = index-placed element from a z g c o r w bits sc v some narrow small (record { window = refl; wide = refl; all = all }) long placed is_rank
