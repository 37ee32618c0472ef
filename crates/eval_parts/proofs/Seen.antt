-- What select paths read, from what they stand on.
use Rattle.std.proofs.Common.{◌≡◌, ℕ, zero, suc, ◌+◌, ◌<◌, ◌≤◌, max, min, Bool, true, false, ◌&&◌, cond, ℤ, pos, negsuc, ◌+ℤ◌, List, [], ◌∷◌, ◌++◌, length, Option, Some, None, refl, arith, ap, sym, ◌∙◌, subst}
use Rattle.std.specs.Prelude.{slice_index_or, nat_lt, int_le, int_lt}
use Rattle.std.proofs.lemmas.Bool.Decides.{nat_tests}
use Rattle.b4_core.specs.declared.bit.Bit4.{Bit4}
use Rattle.b4_core.specs.declared.bit.Bit4.TheVariants.{X}
use Rattle.sv_types.specs.RowMachine.{Valuation}
use Rattle.sv_types.specs.RowMachine.{bits_from}
use Rattle.sv_types.specs.Layouts.{Layout, Part}
use Rattle.sv_types.specs.Windows.{Window, nowhere, trimmed, part, picked, bit_at, tabulated, seen, at_least_0, member_of, element_of, between, slide, elements, rank, lowest_index}
use Rattle.sv_types.proofs.Picks.{tabulated-same}
use Rattle.eval_parts.specs.Places.{bit_or_x}

index-bits : (v : Valuation) (n from w k : ℕ) → k < w → slice_index_or (bits_from v n from w) k X ≡ v (record { signal = n; bit = from + k })
index-bits v n from zero k h = absurd (omega arith)
index-bits v n from (suc w) zero h = ap (λ j. v (record { signal = n; bit = j })) (omega arith)
index-bits v n from (suc w) (suc k) h = index-bits v n (suc from) w k (omega arith) ∙ ap (λ j. v (record { signal = n; bit = j })) (omega arith)

-- a bit of the vector that a signal holds
pub index-vector : (v : Valuation) (n w k : ℕ) → k < w → slice_index_or (bits_from v n 0 w) k X ≡ v (record { signal = n; bit = k })
index-vector v n w k h = index-bits v n 0 w k h ∙ ap (λ j. v (record { signal = n; bit = j })) (omega arith)

trimmed-high-by : (b : Bool) (path : Window) → (cond b path nowhere).high ≤ path.high
trimmed-high-by true path = omega arith
trimmed-high-by false path = omega arith

-- no step reaches above what it goes from
pub part-high : (o : ℤ) (w : ℕ) (path : Window) → (part o w path).high ≤ path.high
part-high o w path =
    let h = trimmed-high-by (nat_lt (max path.low (at_least_0 (path.shift +ℤ o))) (min path.high (at_least_0 (path.shift +ℤ o +ℤ pos w)))) (record {
      shift = path.shift +ℤ o;
      low = max path.low (at_least_0 (path.shift +ℤ o));
      high = min path.high (at_least_0 (path.shift +ℤ o +ℤ pos w));
    }) in
    omega arith

pub member-high : (p : Option Part) (path : Window) → (member_of p path).high ≤ path.high
member-high None path = omega arith
member-high (Some p) path = part-high (pos p.below) (length p.two_state) path

pub elements-high : (of : Layout) (lowest : ℤ) (n : ℕ) (path : Window) → (elements of lowest n path).high ≤ path.high
elements-high of lowest n path = part-high _ _ path

element-high-by : (b : Bool) (of : Layout) (r : ℤ) (path : Window) → (cond b (elements of r 1 path) nowhere).high ≤ path.high
element-high-by true of r path = elements-high of r 1 path
element-high-by false of r path = omega arith

pub element-high : (of : Layout) (i : Option ℤ) (path : Window) → (element_of of i path).high ≤ path.high
element-high of None path = omega arith
element-high of (Some k) path = element-high-by _ of (rank of k) path

pub between-high : (of : Layout) (left right : ℤ) (path : Window) → (between of left right path).high ≤ path.high
between-high of left right path = elements-high of (rank of right) _ path

pub slide-high : (of : Layout) (up : Bool) (n : ℕ) (i : Option ℤ) (path : Window) → (slide of up n i path).high ≤ path.high
slide-high of up n None path = omega arith
slide-high of up n (Some k) path = elements-high of (rank of (lowest_index of up k n)) n path

-- a bit that is in range lies below the upper end
abbrev IsBelow : ℕ → Option ℕ → Type 0
IsBelow high None = Unit {0}
IsBelow high (Some k) = k < high

below-by : (b : Bool) (low high : ℕ) (k : ℤ) → (int_le (pos low) k && int_lt k (pos high)) ≡ b → IsBelow high (cond b (Some (at_least_0 k)) None)
below-by true low high (pos n) is = grind (arith, nat_tests)
below-by true low high (negsuc n) is = absurd (cc)
below-by false low high k is = tt

picked-below : (path : Window) (j : ℕ) → IsBelow path.high (picked path j)
picked-below path j = below-by _ path.low path.high (pos j +ℤ path.shift) refl

bit-same : (held : List Bit4) (f : ℕ → Bit4) (high : ℕ) (o : Option ℕ) → IsBelow high o → ((k : ℕ) → k < high → slice_index_or held k X ≡ f k) → bit_at held o ≡ bit_or_x f o
bit-same held f high None below same = refl
bit-same held f high (Some k) below same = same k below

-- what a path reads hangs only on the bits below its upper end
pub seen-below : (held : List Bit4) (f : ℕ → Bit4) (path : Window) (w : ℕ) → ((k : ℕ) → k < path.high → slice_index_or held k X ≡ f k)
    → seen held path w ≡ tabulated w (λ j. bit_or_x f (picked path j))
seen-below held f path w same =
    tabulated-same w (λ j. bit_at held (picked path j)) (λ j. bit_or_x f (picked path j)) (λ j h. bit-same held f path.high (picked path j) (picked-below path j) same)

pub tabulated-more : {A : Type 0} (n : ℕ) (f : ℕ → A) → tabulated (n + 1) f ≡ tabulated n f ++ f n ∷ []
tabulated-more zero f = refl
tabulated-more (suc n) f =
    let e : suc n + 1 ≡ suc (n + 1) = omega arith in
    ap (λ k. tabulated k f) e ∙ ap (λ xs. f 0 ∷ xs) (tabulated-more n (λ k. f (suc k)))

pub ruleset reading = (tabulated-more)

trimmed-kept : (path : Window) → path.low < path.high → trimmed path ≡ path
trimmed-kept path h = let test : nat_lt path.low path.high ≡ true = grind (arith, nat_tests) in ap (λ b. cond b path nowhere) test

-- a part with a bit in range
pub part-is : (o : ℤ) (w : ℕ) (path : Window) (shift : ℤ) (low high : ℕ) → shift ≡ path.shift +ℤ o → low ≡ max path.low (at_least_0 (path.shift +ℤ o)) → high ≡ min path.high (at_least_0 (path.shift +ℤ o +ℤ pos w)) → low < high
    → record { shift = shift; low = low; high = high } ≡ part o w path
part-is o w path shift low high at from to some =
    let all : Window = record { shift = path.shift +ℤ o; low = max path.low (at_least_0 (path.shift +ℤ o)); high = min path.high (at_least_0 (path.shift +ℤ o +ℤ pos w)) } in
    ap (λ k. record { shift = k; low = low; high = high }) at ∙ ap (λ k. record { shift = path.shift +ℤ o; low = k; high = high }) from
    ∙ ap (λ k. record { shift = path.shift +ℤ o; low = max path.low (at_least_0 (path.shift +ℤ o)); high = k }) to ∙ sym (trimmed-kept all (subst (λ k. k < all.high) from (subst (λ k. low < k) to some)))

pub trimmed-some : (path : Window) → path.low < path.high → trimmed path ≡ path
trimmed-some path h = trimmed-kept path h

pub trimmed-none : (path : Window) → path.high ≤ path.low → trimmed path ≡ nowhere
trimmed-none path h = let test : nat_lt path.low path.high ≡ false = grind (arith, nat_tests) in ap (λ b. cond b path nowhere) test

pub ruleset trimming = (trimmed-some, trimmed-none)
