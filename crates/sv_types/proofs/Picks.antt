-- The bits that a part of a path names are those that the path names there.
use Rattle.std.proofs.Common.{◌≡◌, ℕ, zero, suc, ◌+◌, ◌<◌, ◌≤◌, max, min, Bool, true, false, ◌&&◌, cond, ℤ, pos, negsuc, ◌+ℤ◌, ◌≤ℤ◌, ◌<ℤ◌, List, ◌∷◌, length, take, drop, Option, Some, None, refl, arith, ap, sym, ◌∙◌}
use Rattle.std.specs.Prelude.{nat_lt, int_le, int_lt, leb, ltb}
use Rattle.std.proofs.lemmas.Int.{ints}
use Rattle.std.proofs.lemmas.Bool.Decides.{nat_tests}
use Rattle.b4_core.specs.declared.bit.Bit4.{Bit4}
use Rattle.sv_types.specs.Windows.{Window, nowhere, trimmed, part, picked, bit_at, tabulated, seen, at_least_0}

abbrev pub in_range : ℕ → ℕ → ℤ → Bool
in_range low high k = int_le (pos low) k && int_lt k (pos high)

abbrev pub pick : ℕ → ℕ → ℤ → Option ℕ
pick low high k = cond (in_range low high k) (Some (at_least_0 k)) None

below-start : (s : ℤ) (n : ℕ) → s ≤ℤ pos n → at_least_0 s ≤ n
below-start (pos s) n h = omega (arith, ints)
below-start (negsuc s) n h = omega arith

above-end : (e : ℤ) (n : ℕ) → pos n <ℤ e → n < at_least_0 e
above-end (pos e) n h = omega (arith, ints)
above-end (negsuc e) n h = absurd (omega (arith, ints))

low-same : (low a n : ℕ) → a ≤ n → leb (max low a) n ≡ leb low n
low-same low a n h = grind (arith, nat_tests)

high-same : (high b n : ℕ) → n < b → ltb n (min high b) ≡ ltb n high
high-same high b n h = grind (arith, nat_tests)

pub range-same : (low high : ℕ) (s e k : ℤ) → s ≤ℤ k → k <ℤ e → in_range (max low (at_least_0 s)) (min high (at_least_0 e)) k ≡ in_range low high k
range-same low high s e (negsuc n) h g = refl
range-same low high s e (pos n) h g =
    ap (λ b. b && ltb n (min high (at_least_0 e))) (low-same low (at_least_0 s) n (below-start s n h))
    ∙ ap (λ b. leb low n && b) (high-same high (at_least_0 e) n (above-end e n g))

empty-range : (low high : ℕ) (k : ℤ) → high ≤ low → in_range low high k ≡ false
empty-range low high (negsuc n) h = refl
empty-range low high (pos n) h = grind (arith, nat_tests)

pub nothing-there : (k : ℤ) → pick 0 0 k ≡ None
nothing-there k = ap (λ b. cond b (Some (at_least_0 k)) None) (empty-range 0 0 k (omega arith))

trimmed-by : (b : Bool) (r : Window) (j : ℕ) → nat_lt r.low r.high ≡ b → picked (cond b r nowhere) j ≡ picked r j
trimmed-by true r j is = refl
trimmed-by false r j is =
    nothing-there (pos j +ℤ pos 0) ∙ sym (ap (λ b. cond b (Some (at_least_0 (pos j +ℤ r.shift))) None) (empty-range r.low r.high (pos j +ℤ r.shift) (grind (arith, nat_tests))))

pub picked-trimmed : (r : Window) (j : ℕ) → picked (trimmed r) j ≡ picked r j
picked-trimmed r j = trimmed-by (nat_lt r.low r.high) r j refl

-- bit j of w bits from o on is bit o + j
pub picked-part : (o w : ℕ) (path : Window) (j : ℕ) → j < w → picked (part (pos o) w path) j ≡ picked path (o + j)
picked-part o w path j h =
    let s = path.shift +ℤ pos o in
    let k = pos j +ℤ s in
    let e = s +ℤ pos w in
    let at : k ≡ pos (o + j) +ℤ path.shift = omega (arith, ints) in
    picked-trimmed (record { shift = s; low = max path.low (at_least_0 s); high = min path.high (at_least_0 e) }) j
    ∙ ap (λ b. cond b (Some (at_least_0 k)) None) (range-same path.low path.high s e k (omega (arith, ints)) (omega (arith, ints)))
    ∙ ap (pick path.low path.high) at

pub tabulated-same : {A : Type 0} (n : ℕ) (f g : ℕ → A) → ((j : ℕ) → j < n → f j ≡ g j) → tabulated n f ≡ tabulated n g
tabulated-same zero f g same = refl
tabulated-same (suc n) f g same =
    ap (λ x. x ∷ tabulated n (λ k. f (suc k))) (same 0 (omega arith)) ∙ ap (λ xs. g 0 ∷ xs) (tabulated-same n (λ k. f (suc k)) (λ k. g (suc k)) (λ j h. same (suc j) (omega arith)))

pub length-tabulated : {A : Type 0} (n : ℕ) (f : ℕ → A) → length (tabulated n f) ≡ n
length-tabulated zero f = refl
length-tabulated (suc n) f = ap suc (length-tabulated n (λ k. f (suc k)))

take-tabulated : {A : Type 0} (w n : ℕ) (f : ℕ → A) → w ≤ n → take w (tabulated n f) ≡ tabulated w f
take-tabulated zero n f h = refl
take-tabulated (suc w) zero f h = absurd (omega arith)
take-tabulated (suc w) (suc n) f h = ap (λ xs. f 0 ∷ xs) (take-tabulated w n (λ k. f (suc k)) (omega arith))

pub part-tabulated : {A : Type 0} (o w n : ℕ) (f : ℕ → A) → o + w ≤ n → take w (drop o (tabulated n f)) ≡ tabulated w (λ j. f (o + j))
part-tabulated zero w n f h = take-tabulated w n f (omega arith) ∙ tabulated-same w f (λ j. f (0 + j)) (λ j g. ap f (omega arith))
part-tabulated (suc o) w zero f h = absurd (omega arith)
part-tabulated (suc o) w (suc n) f h =
    part-tabulated o w n (λ k. f (suc k)) (omega arith) ∙ tabulated-same w (λ j. f (suc (o + j))) (λ j. f (suc o + j)) (λ j g. ap f (omega arith))

-- what a part of a path reads is that part of what the path reads
pub seen-part : (held : List Bit4) (path : Window) (o w n : ℕ) → o + w ≤ n → seen held (part (pos o) w path) w ≡ take w (drop o (seen held path n))
seen-part held path o w n h =
    tabulated-same w (λ j. bit_at held (picked (part (pos o) w path) j)) (λ j. bit_at held (picked path (o + j))) (λ j g. ap (bit_at held) (picked-part o w path j g))
    ∙ sym (part-tabulated o w n (λ j. bit_at held (picked path j)) h)
