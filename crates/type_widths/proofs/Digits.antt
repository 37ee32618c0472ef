-- Numbers limb by limb.
use Rattle.std.proofs.Common.{◌≡◌, ◌≤◌, ℕ, zero, suc, ◌+◌, ◌*◌, List, [], ◌∷◌, ◌++◌, length, drop, refl, ap, ◌∙◌, sym, arith}
use Rattle.type_widths.specs.Limbs.{limb_at, number, onto}

add-one : (i : ℕ) → i + 1 ≡ suc i
add-one i = omega arith

-- the limbs from one on
pub number-drop : (xs : List ℕ) (i : ℕ) → number (drop i xs) ≡ limb_at xs i + 4294967296 * number (drop (i + 1) xs)
number-drop [] zero = refl
number-drop [] (suc i) = ap (λ k. 0 + 4294967296 * number (drop {A = ℕ} k [])) (sym (add-one (suc i)))
number-drop (x ∷ xs) zero = refl
number-drop (x ∷ xs) (suc i) =
    let e : suc (i + 1) ≡ suc i + 1 = omega arith in
    number-drop xs i ∙ ap (λ k. limb_at xs i + 4294967296 * number (drop k (x ∷ xs))) e

pub number-none : (xs : List ℕ) (i : ℕ) → length xs ≤ i → number (drop i xs) ≡ 0
number-none [] zero h = refl
number-none [] (suc i) h = refl
number-none (x ∷ xs) zero h = absurd (omega arith)
number-none (x ∷ xs) (suc i) h = number-none xs i (omega arith)

pub onto-push : (xs : List ℕ) (y r : ℕ) → onto (xs ++ y ∷ []) r ≡ onto xs (y + 4294967296 * r)
onto-push [] y r = refl
onto-push (x ∷ xs) y r = ap (λ k. x + 4294967296 * k) (onto-push xs y r)

pub number-push : (xs : List ℕ) (y : ℕ) → number (xs ++ y ∷ []) ≡ onto xs y
number-push [] y = omega arith
number-push (x ∷ xs) y = ap (λ k. x + 4294967296 * k) (number-push xs y)
