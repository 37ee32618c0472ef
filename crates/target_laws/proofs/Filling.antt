-- Steps of select paths that keep all bits in range, or none.
use Rattle.std.proofs.Common.{◌≡◌, inl, inr, ℕ, ◌+◌, ◌*◌, ◌<◌, ◌≤◌, max, min, Bool, true, false, ◌&&◌, cond, ℤ, pos, negsuc, ◌+ℤ◌, ◌-ℤ◌, ◌*ℤ◌, length, Option, Some, None, refl, arith, ap, sym, ◌∙◌, subst}
use Rattle.std.specs.Prelude.{nat_lt, int_le, int_lt}
use Rattle.std.proofs.lemmas.Int.{ints}
use Rattle.std.proofs.lemmas.Bool.Decides.{nat_tests}
use Rattle.picks.specs.Windows.{Window, whole, nowhere, part, picked, at_least_0}
use Rattle.sv_types.specs.Layouts.{Layout, Part, count_of}
use Rattle.sv_types.specs.Windows.{member_of, element_of, elements, rank}
use Rattle.sv_types.specs.Surroundings.{Around}
use Rattle.sv_types.specs.Meanings as S
use Rattle.lowering_laws.proofs.PathSteps.{rows-fit}
use Rattle.lowering_laws.proofs.WriteAt.{IsTight, nowhere-tight, part-tight}
use Rattle.target_laws.specs.Seeing.{IsSeen, IsFull}
use Rattle.target_laws.specs.Standing.{IsInside}
use Rattle.target_laws.proofs.Seeing.{cut-out}

-- all bits of a path that goes on from another one
pub full-inside : (e from : S.Meaning) (a : Around) (inner : Window) → IsSeen (e.window a) (from.window a) inner → IsTight inner (S.wide e) → inner.low < inner.high
    → inner.shift ≡ pos inner.low → inner.high ≡ inner.low + S.wide e → inner.high ≤ S.wide from → IsInside e from a inner.low
full-inside e from a inner seen tight some shift end fits =
    let cut = cut-out (e.window a) (from.window a) inner (S.wide e) seen tight some in
    let first : at_least_0 (pos inner.low -ℤ inner.shift) ≡ 0 = ap (λ s. at_least_0 (pos inner.low -ℤ s)) shift ∙ nothing_off inner.low in
    record {
      picks = λ j less.
          (let same : j ≡ at_least_0 (pos inner.low -ℤ inner.shift) + j = omega arith in ap (picked (e.window a)) same)
          ∙ cut.picks j (omega arith);
      fits = omega arith;
    }
  where
    nothing_off : (n : ℕ) → at_least_0 (pos n -ℤ pos n) ≡ 0
    nothing_off n = (let zero_off : pos n -ℤ pos n ≡ pos 0 = omega (arith, ints) in ap at_least_0 zero_off)

-- a part in range is full
trimmed-full : (b m n : ℕ) (s : ℤ) (low high : ℕ) (t : Bool) → nat_lt low high ≡ t → s ≡ pos low → high ≡ low + m → IsFull (cond t (record { shift = s; low = low; high = high }) nowhere) m
trimmed-full b m n s low high true test shift end = inr (shift, end)
trimmed-full b m n s low high false test shift end = inl (omega arith)

pub part-full : (b m n : ℕ) → b + m ≤ n → IsFull (part (pos b) m (whole n)) m
part-full b m n fits =
    trimmed-full b m n (pos 0 +ℤ pos b) (max 0 (at_least_0 (pos 0 +ℤ pos b))) (min n (at_least_0 (pos 0 +ℤ pos b +ℤ pos m))) _ refl (low b) (high b m n fits)
  where
    low : (x : ℕ) → pos 0 +ℤ pos x ≡ pos (max 0 (at_least_0 (pos 0 +ℤ pos x)))
    low x = (let is : pos 0 +ℤ pos x ≡ pos x = omega (arith, ints) in is ∙ sym (ap (λ z. pos (max 0 (at_least_0 z))) is ∙ ap pos (omega arith)))

    high : (x y k : ℕ) → x + y ≤ k → min k (at_least_0 (pos 0 +ℤ pos x +ℤ pos y)) ≡ max 0 (at_least_0 (pos 0 +ℤ pos x)) + y
    high x y k h =
        let is : pos 0 +ℤ pos x ≡ pos x = omega (arith, ints) in
        let sum : pos 0 +ℤ pos x +ℤ pos y ≡ pos (x + y) = omega (arith, ints) in
        ap (λ z. min k (at_least_0 z)) sum ∙ omega arith ∙ sym (ap (λ z. max 0 (at_least_0 z) + y) is)

-- and ends in the whole
trimmed-end : (p : Window) (n : ℕ) (t : Bool) → p.high ≤ n → (cond t p nowhere).high ≤ n
trimmed-end p n true h = h
trimmed-end p n false h = omega arith

pub part-end : (z : ℤ) (m n : ℕ) → (part z m (whole n)).high ≤ n
part-end z m n =
    let low = max 0 (at_least_0 (pos 0 +ℤ z)) in
    let high = min n (at_least_0 (pos 0 +ℤ z +ℤ pos m)) in
    trimmed-end (record { shift = pos 0 +ℤ z; low = low; high = high }) n (nat_lt low high) (omega arith)

-- a member
pub member-full : (m : Option Part) (k n : ℕ) → ((p : Part) → m ≡ Some p → p.below + length p.two_state ≤ n) → ((p : Part) → m ≡ Some p → k ≡ length p.two_state) → IsFull (member_of m (whole n)) k
member-full None k n fits wide = inl (omega arith)
member-full (Some p) k n fits wide = subst (IsFull (part (pos p.below) (length p.two_state) (whole n))) (sym (wide p refl)) (part-full p.below (length p.two_state) n (fits p refl))

pub member-end : (m : Option Part) (n : ℕ) → (member_of m (whole n)).high ≤ n
member-end None n = omega arith
member-end (Some p) n = part-end (pos p.below) (length p.two_state) n

pub member-tight : (m : Option Part) (k : ℕ) (path : Window) → ((p : Part) → m ≡ Some p → k ≡ length p.two_state) → IsTight (member_of m path) k
member-tight None k path wide = nowhere-tight k
member-tight (Some p) k path wide = subst (IsTight (part (pos p.below) (length p.two_state) path)) (sym (wide p refl)) (part-tight (pos p.below) (length p.two_state) path)

-- an element
element-by : (of : Layout) (r : ℤ) (n : ℕ) (b : Bool) → count_of of.left of.right * length of.element.two_state ≡ n
    → (int_le (pos 0) r && int_lt r (pos (count_of of.left of.right))) ≡ b → IsFull (cond b (elements of r 1 (whole n)) nowhere) (length of.element.two_state)
element-by of (pos q) n true all test =
    let w = length of.element.two_state in
    let less : q < count_of of.left of.right = grind (arith, nat_tests) in
    let row : pos q *ℤ pos (length of.element.two_state) ≡ pos (q * length of.element.two_state) = grind (arith, ints) in
    let one : 1 * length of.element.two_state ≡ length of.element.two_state = omega arith in
    subst (λ z. IsFull (part z (1 * w) (whole n)) w) (sym row)
    (subst (λ k. IsFull (part (pos (q * w)) k (whole n)) w) (sym one)
    (part-full (q * w) w n (rows-fit q (count_of of.left of.right) w n less all)))
element-by of (negsuc q) n true all test = absurd (cc)
element-by of r n false all test = inl (omega arith)

pub element-full : (of : Layout) (z : Option ℤ) (n : ℕ) → count_of of.left of.right * length of.element.two_state ≡ n → IsFull (element_of of z (whole n)) (length of.element.two_state)
element-full of None n all = inl (omega arith)
element-full of (Some k) n all = element-by of (rank of k) n _ all refl

pub element-end : (of : Layout) (z : Option ℤ) (n : ℕ) → (element_of of z (whole n)).high ≤ n
element-end of None n = omega arith
element-end of (Some k) n =
    trimmed-end (elements of (rank of k) 1 (whole n)) n (int_le (pos 0) (rank of k) && int_lt (rank of k) (pos (count_of of.left of.right)))
    (part-end (rank of k *ℤ pos (length of.element.two_state)) (1 * length of.element.two_state) n)

cond-tight : (p : Window) (n : ℕ) (b : Bool) → IsTight p n → IsTight (cond b p nowhere) n
cond-tight p n true h = h
cond-tight p n false h = nowhere-tight n

pub element-stays : (of : Layout) (z : Option ℤ) (path : Window) → IsTight (element_of of z path) (length of.element.two_state)
element-stays of None path = nowhere-tight (length of.element.two_state)
element-stays of (Some k) path =
    let one : 1 * length of.element.two_state ≡ length of.element.two_state = omega arith in
    cond-tight (elements of (rank of k) 1 path) (length of.element.two_state) _
    (subst (IsTight (elements of (rank of k) 1 path)) one (part-tight (rank of k *ℤ pos (length of.element.two_state)) (1 * length of.element.two_state) path))
