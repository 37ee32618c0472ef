-- Slices of vectors.
use Rattle.std.proofs.Common.{◌≡◌, ℕ, zero, suc, ◌+◌, ◌-◌, ◌*◌, ◌<◌, ◌≤◌, List, [], ◌∷◌, ◌++◌, length, take, drop, true, min, inl, inr, refl, arith, ap, sym, ◌∙◌}
use Rattle.std.proofs.lemmas.List.{length-drop, drop-drop, take_all}
use Rattle.std.proofs.Math.Nat.{suc-mul}
use Rattle.std.proofs.lemmas.Bool.{cases_lt}
use Rattle.std.proofs.Math.Seq.{drop-length}
use Rattle.std.proofs.Math.ListN.{drop_of_length-le}
use Rattle.b4_core.specs.declared.bit.Bit4.{Bit4}
use Rattle.sv_types.specs.Layouts.{stacked}
use Rattle.sv_types.specs.Operators.{slices, streamed}

-- slices without bits
empty-by : (steps : ℕ) (v : List Bit4) → stacked (slices steps 0 v) ≡ []
empty-by zero v = refl
empty-by (suc steps) [] = refl
empty-by (suc steps) (b ∷ v) = ap (λ xs. xs ++ []) (empty-by steps (b ∷ v))

pub no-slices : (v : List Bit4) → streamed true 0 v ≡ []
no-slices v = empty-by (length v) v

pub ruleset empty = (no-slices)

-- more steps than there are bits change nothing
steps-enough : (steps more n : ℕ) (v : List Bit4) → 0 < n → length v ≤ steps → length v ≤ more → slices steps n v ≡ slices more n v
steps-enough zero zero n v some h g = refl
steps-enough zero (suc more) n [] some h g = refl
steps-enough zero (suc more) n (b ∷ v) some h g = absurd (omega arith)
steps-enough (suc steps) zero n [] some h g = refl
steps-enough (suc steps) zero n (b ∷ v) some h g = absurd (omega arith)
steps-enough (suc steps) (suc more) n [] some h g = refl
steps-enough (suc steps) (suc more) n (b ∷ v) some h g =
    let less : length (drop n (b ∷ v)) ≤ length v = omega (arith, length-drop n (b ∷ v)) in
    ap (λ xs. take n (b ∷ v) ∷ xs) (steps-enough steps more n (drop n (b ∷ v)) some (omega arith) (omega arith))

-- the stream of what is left, with the slice below it
front : (n : ℕ) (v : List Bit4) → 0 < n → 0 < length v → streamed true n v ≡ streamed true n (drop n v) ++ take n v
front n [] some h = absurd (omega arith)
front n (b ∷ v) some h =
    let less : length (drop n (b ∷ v)) ≤ length v = omega (arith, length-drop n (b ∷ v)) in
    ap (λ xs. stacked xs ++ take n (b ∷ v)) (steps-enough (length v) (length (drop n (b ∷ v))) n (drop n (b ∷ v)) some less (omega arith))

pub next-slice : (n from : ℕ) (v : List Bit4) → 0 < n → from < length v → streamed true n (drop from v) ≡ streamed true n (drop (from + n) v) ++ take n (drop from v)
next-slice n from v some h =
    front n (drop from v) some (omega (arith, length-drop from v)) ∙ ap (λ xs. streamed true n xs ++ take n (drop from v)) (drop-drop n from v)

nothing-left : (steps n : ℕ) → stacked (slices steps n []) ≡ []
nothing-left zero n = refl
nothing-left (suc steps) n = refl

-- the next slice behind what is made
pub made-next : (n from : ℕ) (v old new : List Bit4) → 0 < n → n ≤ from → from ≤ length v → old ≡ streamed true n (drop from v) → new ≡ old ++ take (from - n + n - (from - n)) (drop (from - n) v) → new ≡ streamed true n (drop (from - n) v)
made-next n from v old new some most within before more =
    let width : from - n + n - (from - n) ≡ n = omega arith in
    let back : from - n + n ≡ from = omega arith in
    more ∙ ap (λ k. old ++ take k (drop (from - n) v)) width ∙ ap (λ xs. xs ++ take n (drop (from - n) v)) (before ∙ ap (λ k. streamed true n (drop k v)) (sym back))
    ∙ sym (next-slice n (from - n) v some (omega arith))

pub fewer : (c s : ℕ) → 0 < c → c * s ≡ (c - 1) * s + s
fewer c s h = let e : c ≡ suc (c - 1) = omega arith in ap (λ k. k * s) e ∙ omega (arith, suc-mul (c - 1) s)

-- a vector shorter than a slice
pub short : (n : ℕ) (v : List Bit4) → 0 < n → length v < n → v ≡ streamed true n v
short n [] some h = refl
short n (b ∷ v) some h =
    let none : drop n (b ∷ v) ≡ [] = drop_of_length-le (b ∷ v) (omega arith) in
    sym (ap (λ xs. stacked (slices (length v) n xs) ++ take n (b ∷ v)) none ∙ ap (λ xs. xs ++ take n (b ∷ v)) (nothing-left (length v) n) ∙ take_all n (b ∷ v) (omega arith))

-- what is made first
pub made-first : (n from : ℕ) (v old new : List Bit4) → 0 < n → length v - from < n → old ≡ [] → new ≡ old ++ take (length v - from) (drop from v) → new ≡ streamed true n (drop from v)
made-first n from v old new some last none more =
    more ∙ ap (λ o. o ++ take (length v - from) (drop from v)) none ∙ take_all (length v - from) (drop from v) (omega (arith, length-drop from v))
    ∙ short n (drop from v) some (omega (arith, length-drop from v))

pub top-less : (n w : ℕ) (v : List Bit4) → drop (min (w - n) (length v)) v ≡ drop (w - n) v
top-less n w v = elim (cases_lt (length v) (w - n)) [
  | inl h ↦ let e : min (w - n) (length v) ≡ length v = omega arith in ap (λ k. drop k v) e ∙ drop-length v ∙ sym (drop_of_length-le v (omega arith))
  | inr h ↦ let e : min (w - n) (length v) ≡ w - n = omega arith in ap (λ k. drop k v) e
]

pub ruleset tops = (top-less)
