-- Which bits of its image a select path names, step by step.
use Rattle.std.proofs.Common.{◌≡◌, ◌⊎◌, inl, inr, ℕ, suc, ◌+◌, ◌*◌, ◌<◌, ◌≤◌, Bool, true, false, ◌&&◌, cond, ℤ, pos, negsuc, ◌+ℤ◌, ◌*ℤ◌, length, Option, Some, None, refl, arith, ◌∙◌, ap}
use Rattle.std.specs.Prelude.{slice_get, int_le, int_lt}
use Rattle.std.proofs.lemmas.Nat.{mul-le}
use Rattle.std.proofs.lemmas.Bool.Decides.{nat_tests}
use Rattle.picks.specs.Windows.{Window, whole, nowhere, part, picked}
use Rattle.sv_types.specs.Layouts.{Layout, Part, count_of}
use Rattle.sv_types.specs.Windows.{member_of, element_of, elements, rank}
use Rattle.sv_types.specs.Surroundings.{Around}
use Rattle.sv_types.specs.Meanings as S
use Rattle.sv_types.specs.Paths as P
use Rattle.sv_types.proofs.Picks.{picked-part, nothing-there}
use Rattle.lowering_laws.specs.Images.{Names, NamesNone}
use Rattle.lowering_laws.specs.Placed.{HasRank, NoRank, unknown, outside}
pub use Rattle.lowering_laws.specs.Steps.{IsElement}

-- a whole signal or local
pub signal-names : (of : Layout) (at n : ℕ) (a : Around) → Names (P.signal of at n) a 0 (length of.two_state)
unfolding P.signal
signal-names of at n a j h = ap (picked (whole (length of.two_state))) (omega arith)

pub local-names : (of : Layout) (at n : ℕ) (a : Around) → Names (P.local of at n) a 0 (length of.two_state)
unfolding P.local
local-names of at n a j h = ap (picked (whole (length of.two_state))) (omega arith)

-- so many bits from the bit o on of a path
pub part-names : (from : S.Meaning) (a : Around) (low w o n : ℕ) → Names from a low w → o + n ≤ S.wide from
    → (j : ℕ) → j < n → picked (part (pos o) n (from.window a)) j ≡ picked (whole w) ((low + o) + j)
part-names from a low w o n names fits j h =
    let same : low + (o + j) ≡ (low + o) + j = omega arith in
    picked-part o n (from.window a) j h ∙ names (o + j) (omega arith) ∙ ap (picked (whole w)) same

-- the member that lies so far from the bottom
pub member-names : (of : Layout) (at : ℕ) (from : S.Meaning) (k : ℕ) (p : Part) (a : Around) (low w : ℕ)
    → slice_get from.of.members k ≡ Some p → length of.two_state ≡ length p.two_state → p.below + length p.two_state ≤ S.wide from
    → Names from a low w → Names (P.member of at from k) a (low + p.below) w
unfolding P.member
member-names of at from k p a low w is wide fits names j h =
    ap (λ (o : Option Part). picked (member_of o (from.window a)) j) is
    ∙ part-names from a low w p.below (length p.two_state) names fits j (omega arith)

-- the element with a rank
in-range : (q n : ℕ) → q < n → (int_le (pos 0) (pos q) && int_lt (pos q) (pos n)) ≡ true
in-range q n h = grind (arith, nat_tests)

element-window : (of : Layout) (i : Option ℤ) (q : ℕ) (path : Window) → HasRank of i q
    → element_of of i path ≡ part (pos q *ℤ pos (length of.element.two_state)) (1 * length of.element.two_state) path
element-window of i q path h =
    let w = length of.element.two_state in
    ap (λ o. element_of of o path) h.known_there
    ∙ ap (λ r. cond (int_le (pos 0) r && int_lt r (pos (count_of of.left of.right))) (elements of r 1 path) nowhere) h.rank_is
    ∙ ap (λ b. cond b (elements of (pos q) 1 path) nowhere) (in-range q (count_of of.left of.right) h.below)

-- elements lie one above the other
pub rows-fit : (q n w all : ℕ) → q < n → n * w ≡ all → q * w + w ≤ all
rows-fit q n w all h is =
    let step : suc q * w ≡ q * w + w = grind arith in
    let most = mul-le (suc q) w n w (omega arith) (omega arith) in
    omega arith

pub index-is-element : (of : Layout) (at : ℕ) (from i : S.Meaning) (a : Around) → length of.two_state ≡ length from.of.element.two_state
    → count_of from.of.left from.of.right * length from.of.element.two_state ≡ S.wide from → IsElement (P.index of at from i) from a (P.index_of i a)
unfolding P.index
index-is-element of at from i a wide all = record { window = refl; wide = wide; all = all }

pub element-names : (e from : S.Meaning) (a : Around) (z : Option ℤ) (q low w : ℕ) → IsElement e from a z → HasRank from.of z q
    → Names from a low w → Names e a (low + q * length from.of.element.two_state) w
element-names e from a z q low w is has names j h =
    let n = length from.of.element.two_state in
    let fits = rows-fit q (count_of from.of.left from.of.right) n (S.wide from) has.below is.all in
    let wide = is.wide in
    ap (λ x. picked x j) (is.window ∙ element-window from.of z q (from.window a) has)
    ∙ ap (λ k. picked (part (pos (q * n)) k (from.window a)) j) (omega arith)
    ∙ part-names from a low w (q * n) n names fits j (omega arith)

-- no element
no-element : (of : Layout) (i : Option ℤ) (path : Window) (j : ℕ) → NoRank of i → picked (element_of of i path) j ≡ None
no-element of None path j unknown = nothing-there (pos j +ℤ pos 0)
no-element of (Some k) path j (outside _ h) = ap (λ b. picked (cond b (elements of (rank of k) 1 path) nowhere) j) h ∙ nothing-there (pos j +ℤ pos 0)

pub element-names-none : (e from : S.Meaning) (a : Around) (z : Option ℤ) → IsElement e from a z → NoRank from.of z → NamesNone e a
element-names-none e from a z is none j h = ap (λ x. picked x j) is.window ∙ no-element from.of z (from.window a) j none

-- an index has a rank or none
ranked-by : (of : Layout) (k r : ℤ) → rank of k ≡ r → (b : Bool) → (int_le (pos 0) r && int_lt r (pos (count_of of.left of.right))) ≡ b
    → ((q : ℕ) × HasRank of (Some k) q) ⊎ NoRank of (Some k)
ranked-by of k (pos q) is true h = inl (q, record { index = k; known_there = refl; rank_is = is; below = grind (arith, nat_tests) })
ranked-by of k (negsuc q) is true h = absurd (cc)
ranked-by of k r is false h = inr (outside k (ap (λ x. int_le (pos 0) x && int_lt x (pos (count_of of.left of.right))) is ∙ h))

pub ranked : (of : Layout) (i : Option ℤ) → ((q : ℕ) × HasRank of i q) ⊎ NoRank of i
ranked of None = inr unknown
ranked of (Some k) = ranked-by of k (rank of k) refl _ refl

-- a step from nothing names nothing
pub step-from-none : (e from : S.Meaning) (a : Around) (z : Option ℤ) → IsElement e from a z → NamesNone from a → NamesNone e a
step-from-none e from a z is none j h = ap (λ x. picked x j) is.window ∙ by_rank (ranked from.of z)
  where
    by_rank : ((q : ℕ) × HasRank from.of z q) ⊎ NoRank from.of z → picked (element_of from.of z (from.window a)) j ≡ None
    by_rank (inr k) = no-element from.of z (from.window a) j k
    by_rank (inl (q, has)) =
        let n = length from.of.element.two_state in
        let fits = rows-fit q (count_of from.of.left from.of.right) n (S.wide from) has.below is.all in
        let wide = is.wide in
        ap (λ x. picked x j) (element-window from.of z q (from.window a) has)
        ∙ ap (λ k. picked (part (pos (q * n)) k (from.window a)) j) (omega arith)
        ∙ picked-part (q * n) n (from.window a) j (omega arith)
        ∙ none (q * n + j) (omega arith)
