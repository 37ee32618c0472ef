-- Vectors that are extended and cut.
use Rattle.std.proofs.Common.{◌≡◌, ℕ, zero, suc, ◌-◌, ◌<◌, ◌≤◌, max, Bool, true, false, length, take, replicate, List, [], ◌∷◌, ◌++◌, refl, arith, sym, ◌∙◌, ap, append-nil}
use Rattle.std.specs.Prelude.{nat_le}
use Rattle.std.proofs.lemmas.Bool.Decides.{nat_tests}
use Rattle.b4_core.specs.declared.bit.Bit4.{Bit4}
use Rattle.b4_core.specs.declared.bit.Bit4.TheVariants.{Zero}
use Rattle.b4_core.specs.Vectors.{ext, top_bit}
use Rattle.sv_types.proofs.OperatorLengths.{length-ext}

pub take-whole : {A : Type 0} (n : ℕ) (v : List A) → length v ≤ n → take n v ≡ v
take-whole zero [] h = refl
take-whole (suc n) [] h = refl
take-whole zero (b ∷ v) h = absurd (omega arith)
take-whole (suc n) (b ∷ v) h = ap (λ x. b ∷ x) (take-whole n v (omega arith))

-- filled up with so many bits
abbrev filled : ℕ → List Bit4 → Bit4 → List Bit4
filled w v b = take w v ++ replicate (w - length v) b

filled-short : (w : ℕ) (v : List Bit4) (b : Bit4) → w ≤ length v → filled w v b ≡ take w v
filled-short w v b h = (let none : w - length v ≡ 0 = omega arith in ap (λ k. take w v ++ replicate k b) none ∙ append-nil (take w v))

-- a vector that is long enough is cut, whatever the sign
pub ext-cut : (w : ℕ) (s : Bool) (v : List Bit4) → w ≤ length v → ext w s v ≡ take w v
ext-cut w true v h = filled-short w v (top_bit v) h
ext-cut w false v h = filled-short w v Zero h

-- a vector of this width is itself
pub ext-at : (w : ℕ) (s : Bool) (v : List Bit4) → length v ≡ w → ext w s v ≡ v
ext-at w s v h = ext-cut w s v (omega arith) ∙ take-whole w v (omega arith)

pub ext-again : (w : ℕ) (s t : Bool) (v : List Bit4) → ext w s (ext w t v) ≡ ext w t v
ext-again w s t v = ext-at w s (ext w t v) (length-ext w t v)

-- extended to the larger width and cut
cut-by : (n k : ℕ) (s : Bool) (v : List Bit4) (short : Bool) → length v ≡ k → nat_le n k ≡ short → take n (ext (max n k) s v) ≡ ext n s v
cut-by n k s v true is h =
    let few : n ≤ k = grind (arith, nat_tests) in
    let larger : max n k ≡ k = omega arith in
    ap (λ w. take n (ext w s v)) larger ∙ ap (take n) (ext-at k s v is) ∙ sym (ext-cut n s v (omega arith))
cut-by n k s v false is h =
    let many : k < n = grind (arith, nat_tests) in
    let larger : max n k ≡ n = omega arith in
    let long = length-ext n s v in
    ap (λ w. take n (ext w s v)) larger ∙ take-whole n (ext n s v) (omega arith)

pub ext-then-cut : (n k : ℕ) (s : Bool) (v : List Bit4) → length v ≡ k → take n (ext (max n k) s v) ≡ ext n s v
ext-then-cut n k s v is = cut-by n k s v (nat_le n k) is refl

-- extended to the larger width, and then cut or not
larger-by : (w : ℕ) (s t : Bool) (v : List Bit4) (short : Bool) → nat_le w (length v) ≡ short → ext w s (ext (max w (length v)) t v) ≡ ext w t v
larger-by w s t v true h =
    let few : w ≤ length v = grind (arith, nat_tests) in
    let larger : max w (length v) ≡ length v = omega arith in
    ap (λ k. ext w s (ext k t v)) larger ∙ ap (ext w s) (ext-at (length v) t v refl) ∙ ext-cut w s v few ∙ sym (ext-cut w t v few)
larger-by w s t v false h =
    let many : length v < w = grind (arith, nat_tests) in
    let larger : max w (length v) ≡ w = omega arith in
    ap (λ k. ext w s (ext k t v)) larger ∙ ext-again w s t v

pub ext-larger : (w : ℕ) (s t : Bool) (v : List Bit4) → ext w s (ext (max w (length v)) t v) ≡ ext w t v
ext-larger w s t v = larger-by w s t v (nat_le w (length v)) refl
