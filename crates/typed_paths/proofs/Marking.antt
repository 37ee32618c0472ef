-- The marks of a typed step are those of what it selects.
use Rattle.std.proofs.Common.{◌≡◌, ℕ, ◌*◌, Bool, true, false, ◌&&◌, cond, ℤ, length, List, [], ◌∷◌, Option, Some, None, refl, arith, ap, sym, ◌∙◌, true≢false}
use Rattle.std.specs.Prelude.{slice_get}
use Rattle.sv_types.specs.Layouts.{Layout, Part, count_of, repeated}
use Rattle.sv_types.specs.Meanings as S
use Rattle.sv_types.specs.Meanings.{same_sign}
use Rattle.sv_types.specs.Paths as P
use Rattle.sv_types.specs.Paths.{same_marks, unlike, unlike_part, elements_marks}
use Rattle.sv_types.proofs.Lengths.{length-repeated}

both : (a b : Bool) → (a && b) ≡ true → (a ≡ true) × (b ≡ true)
both true b h = (refl, h)
both false b h = absurd (true≢false (sym h))

one-sign : (a b : Bool) → same_sign a b ≡ true → a ≡ b
one-sign true true h = refl
one-sign true false h = absurd (true≢false (sym h))
one-sign false true h = absurd (true≢false (sym h))
one-sign false false h = refl

one-list : (xs ys : List Bool) → same_marks xs ys ≡ true → xs ≡ ys
one-list [] [] h = refl
one-list [] (y ∷ ys) h = absurd (true≢false (sym h))
one-list (x ∷ xs) [] h = absurd (true≢false (sym h))
one-list (x ∷ xs) (y ∷ ys) h =
    let parts = both (same_sign x y) (same_marks xs ys) h in
    let first = one-sign x y parts.0 in
    let rest = one-list xs ys parts.1 in
    λ i. first i ∷ rest i

yes-by : (b : Bool) → cond {A = ℕ} b 0 1 ≡ 0 → b ≡ true
yes-by true h = refl
yes-by false h = absurd (omega arith)

alike : (of : Layout) (bits : List Bool) (s : Bool) → unlike of bits s ≡ 0 → of.two_state ≡ bits
alike of bits s h = one-list of.two_state bits (both (same_marks of.two_state bits) (same_sign of.signed s) (yes-by _ h)).0

-- so many elements
pub record MarksOf (of : Layout) (from : S.Meaning) (n : ℕ) : Type 0 where
  pub marks : of.two_state ≡ repeated n from.of.element.two_state
  pub wide : length of.two_state ≡ n * length from.of.element.two_state
  pub typed : from.misfits ≡ 0

marks-of : (of : Layout) (from : S.Meaning) (n : ℕ) → of.two_state ≡ repeated n from.of.element.two_state → from.misfits ≡ 0 → MarksOf of from n
marks-of of from n is typed = record { marks = is; wide = ap length is ∙ length-repeated n from.of.element.two_state; typed = typed }

pub sliding-marks : (of : Layout) (at : ℕ) (from i : S.Meaning) (n : ℕ) (up : Bool) → (P.sliding of at from i n up).misfits ≡ 0 → MarksOf of from n
unfolding P.sliding
sliding-marks of at from i n up none = marks-of of from n (alike of (elements_marks from.of n) false (omega arith)) (omega arith)

pub part-marks : (of : Layout) (at : ℕ) (from : S.Meaning) (left right : ℤ) → (P.part_select of at from left right).misfits ≡ 0 → MarksOf of from (count_of left right)
unfolding P.part_select
part-marks of at from left right none = marks-of of from (count_of left right) (alike of (elements_marks from.of (count_of left right)) false (omega arith)) (omega arith)

-- an element
pub record MarksOfElement (of : Layout) (from : S.Meaning) : Type 0 where
  pub marks : of.two_state ≡ from.of.element.two_state
  pub typed : from.misfits ≡ 0

pub index-marks : (of : Layout) (at : ℕ) (from i : S.Meaning) → (P.index of at from i).misfits ≡ 0 → MarksOfElement of from
unfolding P.index
index-marks of at from i none = record { marks = alike of from.of.element.two_state from.of.element.signed (omega arith); typed = omega arith }

-- a member
pub record MarksOfMember (of : Layout) (from : S.Meaning) (k : ℕ) : Type 0 where
  pub part : Part
  pub there : slice_get from.of.members k ≡ Some part
  pub marks : of.two_state ≡ part.two_state
  pub typed : from.misfits ≡ 0

member-by : (of : Layout) (from : S.Meaning) (k : ℕ) (m : Option Part) → slice_get from.of.members k ≡ m → unlike_part of m ≡ 0 → from.misfits ≡ 0 → MarksOfMember of from k
member-by of from k None is none typed = absurd (omega arith)
member-by of from k (Some p) is none typed = record { part = p; there = is; marks = alike of p.two_state p.signed none; typed = typed }

pub member-marks : (of : Layout) (at : ℕ) (from : S.Meaning) (k : ℕ) → (P.member of at from k).misfits ≡ 0 → MarksOfMember of from k
unfolding P.member
member-marks of at from k none = member-by of from k (slice_get from.of.members k) refl (omega arith) (omega arith)
