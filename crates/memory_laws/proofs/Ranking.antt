-- Elements of an array and the words of a memory that hold them.
use Rattle.std.proofs.Common.{◌≡◌, ◌⊎◌, inl, inr, ℕ, suc, ◌+◌, ◌-◌, ◌*◌, ◌<◌, ◌≤◌, Bool, true, false, ◌&&◌, ◌==◌, cond, ℤ, pos, negsuc, ◌-ℤ◌, ◌*ℤ◌, ◌<ℤ◌, length, Option, Some, refl, arith, ap, sym, ◌∙◌}
use Rattle.std.specs.Prelude.{int_le, int_lt, unsigned_abs}
use Rattle.std.proofs.lemmas.Int.{ints}
use Rattle.std.proofs.lemmas.Bool.Decides.{nat_tests}
use Rattle.picks.specs.Windows.{Window, nowhere, part}
use Rattle.sv_types.specs.Layouts.{Layout, count_of}
use Rattle.sv_types.specs.Windows.{falls, rank, element_of, elements}
use Rattle.lowering_laws.specs.Placed.{NoRank, unknown, outside}
use Rattle.lowering_laws.specs.Words.{lower}
use Rattle.lowering_laws.proofs.AnyRank.{le-no}

-- An element that has a word has a rank.
pub record HasRankBelow (of : Layout) (k : ℤ) : Type 0 where
  pub q : ℕ
  pub is : rank of k ≡ pos q
  pub below : q < count_of of.left of.right

rising-rank : (left right k d z : ℤ) (x : ℕ) → left -ℤ right ≡ d → right -ℤ k ≡ z → left <ℤ right → k -ℤ left ≡ pos x → x < unsigned_abs d + 1
    → (q : ℕ) × ((z ≡ pos q) × (q < unsigned_abs d + 1))
rising-rank left right k (pos d) z x e f less is few = absurd (omega (arith, ints))
rising-rank left right k (negsuc d) (pos z) x e f less is few = (z, (refl, omega (arith, ints)))
rising-rank left right k (negsuc d) (negsuc z) x e f less is few =
    let abs : unsigned_abs (negsuc d) ≡ suc d = refl in
    absurd (omega (arith, ints))

pub rank-below : (of : Layout) (k : ℤ) (x : ℕ) → k -ℤ lower of ≡ pos x → x < count_of of.left of.right → HasRankBelow of k
rank-below of k x is few = by (falls of) refl
  where
    by : (down : Bool) → falls of ≡ down → HasRankBelow of k
    by true h = record {
      q = x;
      is = ap (λ b. cond b (k -ℤ of.right) (of.right -ℤ k)) h ∙ sym (ap (λ b. k -ℤ cond b of.right of.left) h) ∙ is;
      below = few;
    }
    by false h =
        let r = rising-rank of.left of.right k (of.left -ℤ of.right) (of.right -ℤ k) x refl refl (le-no of.right of.left h) (sym (ap (λ b. k -ℤ cond b of.right of.left) h) ∙ is) few in
        record { q = r.0; is = ap (λ b. cond b (k -ℤ of.right) (of.right -ℤ k)) h ∙ r.1.0; below = r.1.1 }

-- no two elements have one rank, or one word
pub one-rank : (of : Layout) (k l : ℤ) → rank of k ≡ rank of l → k ≡ l
one-rank of k l same = by (falls of) same
  where
    by : (b : Bool) → cond b (k -ℤ of.right) (of.right -ℤ k) ≡ cond b (l -ℤ of.right) (of.right -ℤ l) → k ≡ l
    by true e = omega (arith, ints)
    by false e = omega (arith, ints)

pub one-word : (low k l : ℤ) → k -ℤ low ≡ l -ℤ low → k ≡ l
one-word low k l e = omega (arith, ints)

-- where an element stands
pub element-here : (of : Layout) (k : ℤ) (q : ℕ) (path : Window) → rank of k ≡ pos q → q < count_of of.left of.right → element_of of (Some k) path ≡ part (pos (q * length of.element.two_state)) (length of.element.two_state) path
element-here of k q path is below =
    ap (λ b. cond b (elements of (rank of k) 1 path) nowhere) (ap (λ z. int_le (pos 0) z && int_lt z (pos (count_of of.left of.right))) is ∙ inside q (count_of of.left of.right) below)
    ∙ (λ i. part (is i *ℤ pos (length of.element.two_state)) (one (length of.element.two_state) i) path)
    ∙ ap (λ z. part z (length of.element.two_state) path) (row q (length of.element.two_state))
  where
    inside : (x n : ℕ) → x < n → (int_le (pos 0) (pos x) && int_lt (pos x) (pos n)) ≡ true
    inside x n less = grind (arith, nat_tests)

    one : (n : ℕ) → 1 * n ≡ n
    one n = omega arith

    row : (x n : ℕ) → pos x *ℤ pos n ≡ pos (x * n)
    row x n = grind (arith, ints)

pub no-element : (of : Layout) (i : Option ℤ) (path : Window) → NoRank of i → element_of of i path ≡ nowhere
no-element of i path unknown = refl
no-element of i path (outside k h) = ap (λ b. cond b (elements of (rank of k) 1 path) nowhere) h

-- Rows of w bits don't meet.
row-before : (x y w j : ℕ) → x < y → j < w → x * w + j < y * w
row-before x y w j less few =
    let d = y - suc x in
    let e : y ≡ suc x + d = omega arith in
    let all : y * w ≡ x * w + w + d * w = ap (λ k. k * w) e ∙ sums x d w in
    omega arith
  where
    sums : (a b c : ℕ) → (suc a + b) * c ≡ a * c + c + b * c
    sums a b c = grind arith

pub rows-apart : (x y w j : ℕ) → (x ≡ y → ⊥) → j < w → (x * w + j < y * w) ⊎ (y * w + w ≤ x * w + j)
rows-apart x y w j apart few = by (x == y) refl
  where
    after : (a b : ℕ) → a < b → a * w + w ≤ b * w + j
    after a b less = let r = row-before a b w (w - 1) less (omega arith) in omega arith

    by : (b : Bool) → (x == y) ≡ b → (x * w + j < y * w) ⊎ (y * w + w ≤ x * w + j)
    by true h = absurd (apart (grind (arith, nat_tests)))
    by false h = order (nat-order x y (grind (arith, nat_tests)))
      where
        nat-order : (a b : ℕ) → (a ≡ b → ⊥) → (a < b) ⊎ (b < a)
        nat-order a b f = search arith

        order : (x < y) ⊎ (y < x) → (x * w + j < y * w) ⊎ (y * w + w ≤ x * w + j)
        order (inl l) = inl (row-before x y w j l few)
        order (inr l) = inr (after y x l)

pub row-inside : (x count w : ℕ) → x < count → x * w + w ≤ count * w
row-inside x count w less =
    let d = count - suc x in
    let e : count ≡ suc x + d = omega arith in
    let all : count * w ≡ x * w + w + d * w = ap (λ k. k * w) e ∙ sums x d w in
    omega arith
  where
    sums : (a b c : ℕ) → (suc a + b) * c ≡ a * c + c + b * c
    sums a b c = grind arith
