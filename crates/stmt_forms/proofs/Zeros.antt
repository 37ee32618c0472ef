-- A vector of zeros.
use Rattle.std.proofs.Common.{◌≡◌, ◌≤◌, ℕ, suc, zero, List, ◌∷◌, ◌++◌, refl, arith, sym, ap, ◌∙◌}
use Rattle.std.proofs.lemmas.List.{append-nil}
use Rattle.std.specs.Prelude.{pos, replicate}
use Rattle.b4_core.specs.declared.bit.Bit4.{Bit4}
use Rattle.b4_core.specs.declared.bit.Bit4.TheVariants.{Zero}
use Rattle.b4_core.specs.Vectors.{digits, vec}
use Rattle.b4_core.proofs.Digits.{digits_remainder}

no-digits : (w : ℕ) → replicate w Zero ≡ digits w 0
no-digits zero = refl
no-digits (suc w) = ap (λ (bs : List Bit4). Zero ∷ bs) (no-digits w)

pub zeros-are : (w : ℕ) → replicate w Zero ≡ vec w (pos 0)
zeros-are w = no-digits w ∙ sym (digits_remainder w 0)

-- when none is left
pub zeros-end : (bs : List Bit4) (n w : ℕ) → n ≤ 0 → bs ++ replicate n Zero ≡ replicate w Zero → bs ≡ vec w (pos 0)
zeros-end bs zero w l e = sym (append-nil bs) ∙ e ∙ zeros-are w
zeros-end bs (suc n) w l e = absurd (omega arith)

pub ruleset zeros = (zeros-are)
