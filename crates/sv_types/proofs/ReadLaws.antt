-- What select paths read: the laws of the crate's contracts.
use Rattle.std.proofs.Common.{◌≡◌, inl, inr, ℕ, zero, suc, ◌+◌, ◌*◌, ◌<◌, ◌≤◌, Bool, true, false, ◌&&◌, cond, ℤ, pos, ◌+ℤ◌, ◌-ℤ◌, List, [], ◌∷◌, length, map, take, drop, replicate, Some, None, refl, arith, ap, sym, ◌∙◌, subst}
use Rattle.std.specs.Prelude.{slice_get, slice_index_or, unsigned_abs, int_le, int_lt}
use Rattle.std.proofs.lemmas.Int.{ints}
use Rattle.std.proofs.lemmas.Bool.Decides.{nat_tests}
use Rattle.b4_core.specs.declared.bit.Bit4.{Bit4}
use Rattle.b4_core.specs.declared.bit.Bit4.TheVariants.{X}
use Rattle.sv_types.specs.declared.types.SvType.TheVariants.{Struct}
use Rattle.sv_types.specs.declared.types.Value.{Value}
use Rattle.sv_types.specs.declared.types.Value.TheVariants.{Items}
use Rattle.sv_types.specs.Layouts.{Layout, layout, stacked, count_of}
use Rattle.sv_types.specs.Values.{bits}
use Rattle.sv_types.specs.Windows.{Window, whole, nowhere, seen, picked, bit_at, tabulated, part, member_of, element_of, elements, rank, falls}
use Rattle.sv_types.specs.Laws.{Reads, Between, WholeIsRead, MemberIsRead, ElementIsRead, OutsideIsUnknown}
use Rattle.sv_types.proofs.Lengths.{layout-Struct}
use Rattle.sv_types.proofs.Cuts.{bits-Items}
use Rattle.sv_types.proofs.Picks.{seen-part, tabulated-same, nothing-there}
use Rattle.sv_types.proofs.Components.{member-there, element-there}

pub tabulated-list : (xs : List Bit4) → tabulated (length xs) (λ j. slice_index_or xs j X) ≡ xs
tabulated-list [] = refl
tabulated-list (x ∷ xs) = ap (λ ys. x ∷ ys) (tabulated-list xs)

picked-whole : (held : List Bit4) (n j : ℕ) → j < n → bit_at held (picked (whole n) j) ≡ slice_index_or held j X
picked-whole held n j h =
    let e : j + 0 ≡ j = omega arith in
    let test : (int_le (pos 0) (pos (j + 0)) && int_lt (pos (j + 0)) (pos n)) ≡ true = grind (arith, nat_tests) in
    ap (λ b. bit_at held (cond b (Some (j + 0)) None)) test ∙ ap (λ k. slice_index_or held k X) e

pub whole_is_read : WholeIsRead
whole_is_read v =
    tabulated-same (length (bits v)) (λ j. bit_at (bits v) (picked (whole (length (bits v))) j)) (λ j. slice_index_or (bits v) j X) (picked-whole (bits v) (length (bits v)))
    ∙ tabulated-list (bits v)

read-there : (held : List Bit4) (path : Window) (vs : List Value) (o w : ℕ) (v : List Bit4) → Reads held path (Items vs) → o + w ≤ length (stacked (map bits vs)) → take w (drop o (stacked (map bits vs))) ≡ v
    → seen held (part (pos o) w path) w ≡ v
read-there held path vs o w v reads inside there =
    let e = bits-Items vs in
    seen-part held path o w (length (stacked (map bits vs))) inside ∙ ap (λ s. take w (drop o s)) (ap (λ s. seen held path (length s)) (sym e) ∙ reads ∙ e) ∙ there

pub member_is_read : MemberIsRead
member_is_read id packed s ms vs held path k v fits reads is =
    let found = member-there ms vs k v fits is in
    let p = found.0 in
    let c = found.2 in
    let members : slice_get (layout (Struct id packed s ms)).members k ≡ Some p = ap (λ (l : Layout). slice_get l.members k) (layout-Struct id packed s ms) ∙ found.1 in
    ap (λ m. seen held (member_of m path) (length (bits v))) members
    ∙ ap (λ w. seen held (part (pos p.below) w path) (length (bits v))) c.width
    ∙ read-there held path vs p.below (length (bits v)) (bits v) reads c.inside c.there

-- how many elements lie below the one with an index between the bounds
pub record Ranked (of : Layout) (i : ℤ) : Type 0 where
  pub below : ℕ
  pub is : rank of i ≡ pos below
  pub count : unsigned_abs (of.left -ℤ i) + below + 1 ≡ count_of of.left of.right

pub ranked-by : (b : Bool) (of : Layout) (i : ℤ) → falls of ≡ b → Between of i → Ranked of i
ranked-by true of i is between = record {
  below = unsigned_abs (i -ℤ of.right);
  is = ap (λ b. cond b (i -ℤ of.right) (of.right -ℤ i)) is ∙ grind (arith, ints);
  count = grind (arith, ints);
}
ranked-by false of i is between = record {
  below = unsigned_abs (of.right -ℤ i);
  is = ap (λ b. cond b (i -ℤ of.right) (of.right -ℤ i)) is ∙ grind (arith, ints);
  count = grind (arith, ints);
}

pub element_is_read : ElementIsRead
element_is_read of vs held path i v each count between reads is =
    let r = ranked-by (falls of) of i refl between in
    let w = length of.element.two_state in
    let e = element-there w vs (unsigned_abs (of.left -ℤ i)) r.below v each is (r.count ∙ count) in
    let test : (int_le (pos 0) (pos r.below) && int_lt (pos r.below) (pos (count_of of.left of.right))) ≡ true = grind (arith, nat_tests, r.count) in
    let one : 1 * w ≡ w = omega arith in
    ap (λ z. seen held (cond (int_le (pos 0) z && int_lt z (pos (count_of of.left of.right))) (elements of z 1 path) nowhere) (length (bits v))) r.is
    ∙ ap (λ b. seen held (cond b (elements of (pos r.below) 1 path) nowhere) (length (bits v))) test
    ∙ ap (λ n. seen held (part (pos (r.below * w)) n path) (length (bits v))) one
    ∙ ap (λ n. seen held (part (pos (r.below * w)) w path) n) e.width
    ∙ read-there held path vs (r.below * w) w (bits v) reads e.inside e.there

tabulated-constant : (n : ℕ) → tabulated n (λ j. X) ≡ replicate n X
tabulated-constant zero = refl
tabulated-constant (suc n) = ap (λ xs. X ∷ xs) (tabulated-constant n)

nowhere-read : (held : List Bit4) (n : ℕ) → seen held nowhere n ≡ replicate n X
nowhere-read held n =
    tabulated-same n (λ j. bit_at held (picked nowhere j)) (λ j. X) (λ j h. ap (bit_at held) (nothing-there (pos j +ℤ pos 0))) ∙ tabulated-constant n

-- an index whose element is there lies between the bounds
between-by : (b : Bool) (of : Layout) (i : ℤ) → falls of ≡ b → (int_le (pos 0) (rank of i) && int_lt (rank of i) (pos (count_of of.left of.right))) ≡ true → Between of i
between-by true of i is there =
    let e : rank of i ≡ i -ℤ of.right = ap (λ b. cond b (i -ℤ of.right) (of.right -ℤ i)) is in
    let t : (int_le (pos 0) (i -ℤ of.right) && int_lt (i -ℤ of.right) (pos (count_of of.left of.right))) ≡ true =
    subst (λ z. (int_le (pos 0) z && int_lt z (pos (count_of of.left of.right))) ≡ true) e there in
    inl (grind (arith, ints), grind (arith, ints))
between-by false of i is there =
    let e : rank of i ≡ of.right -ℤ i = ap (λ b. cond b (i -ℤ of.right) (of.right -ℤ i)) is in
    let t : (int_le (pos 0) (of.right -ℤ i) && int_lt (of.right -ℤ i) (pos (count_of of.left of.right))) ≡ true =
    subst (λ z. (int_le (pos 0) z && int_lt z (pos (count_of of.left of.right))) ≡ true) e there in
    inr (grind (arith, ints), grind (arith, ints))

outside-by : (b : Bool) (of : Layout) (held : List Bit4) (path : Window) (n : ℕ) (i : ℤ) → (Between of i → ⊥)
    → (int_le (pos 0) (rank of i) && int_lt (rank of i) (pos (count_of of.left of.right))) ≡ b
    → seen held (cond b (elements of (rank of i) 1 path) nowhere) n ≡ replicate n X
outside-by true of held path n i out is = absurd (out (between-by (falls of) of i refl is))
outside-by false of held path n i out is = nowhere-read held n

nowhere-by : (b : Bool) (of : Layout) (path : Window) (i : ℤ) → (Between of i → ⊥)
    → (int_le (pos 0) (rank of i) && int_lt (rank of i) (pos (count_of of.left of.right))) ≡ b → cond b (elements of (rank of i) 1 path) nowhere ≡ nowhere
nowhere-by true of path i out is = absurd (out (between-by (falls of) of i refl is))
nowhere-by false of path i out is = refl

pub outside-nowhere : (of : Layout) (path : Window) (i : ℤ) → (Between of i → ⊥) → element_of of (Some i) path ≡ nowhere
outside-nowhere of path i out = nowhere-by (int_le (pos 0) (rank of i) && int_lt (rank of i) (pos (count_of of.left of.right))) of path i out refl

pub outside_is_unknown : OutsideIsUnknown
outside_is_unknown of held path n =
    (nowhere-read held n, λ i out. outside-by (int_le (pos 0) (rank of i) && int_lt (rank of i) (pos (count_of of.left of.right))) of held path n i out refl)
