-- Bits, digit by digit.
use Rattle.std.proofs.Common.{◌≡◌, ℕ, suc, ◌+◌, ◌-◌, ◌/◌, ◌%◌, ◌==◌, ◌<◌, List, [], ◌∷◌, ◌++◌, length, get_or, drop, sym, ap, ◌∙◌, arith, drop-cons, reverse, append-nil, append_assoc}
use Rattle.std.specs.List.{flat_map}
use Rattle.std.proofs.lemmas.Grind.{flat_map-append}
use Rattle.std.proofs.lemmas.List.{reverse-append}
use Rattle.b4_core.specs.declared.bit.Bit4.{Bit4}
use Rattle.b4_core.specs.Bits.{bit_of}
use Rattle.b4_core.specs.Vectors.{digits}
use Rattle.expr_type.specs.Literals.{digit_bits}

with_last : (f : ℕ → List Bit4) (c : ℕ) (r : List ℕ) → flat_map f (reverse (c ∷ r)) ≡ flat_map f (reverse r) ++ f c
with_last f c r =
    ap (flat_map f) (reverse-append (c ∷ []) r) ∙ flat_map-append f (reverse r) (c ∷ []) ∙ ap (λ z. flat_map f (reverse r) ++ z) (append-nil (f c))

pub last_digit : (each : ℕ) (ds : List ℕ) (i : ℕ) (c : ℕ) → i < length ds → get_or ds i 0 ≡ c
    → flat_map (digit_bits each) (reverse (drop i ds)) ≡ flat_map (digit_bits each) (reverse (drop (i + 1) ds)) ++ digit_bits each c
last_digit each ds i c h e =
    let s : drop i ds ≡ c ∷ drop (i + 1) ds = grind (arith, drop-cons ds i 0) in
    ap (λ z. flat_map (digit_bits each) (reverse z)) s ∙ with_last (digit_bits each) c (drop (i + 1) ds)

-- the lowest digit, and those above it
pub pushed : (xs : List Bit4) (w n : ℕ) → 0 < w → (xs ++ bit_of (n % 2 == 1) ∷ []) ++ digits (w - 1) (n / 2) ≡ xs ++ digits w n
pushed xs w n h =
    let s : w ≡ suc (w - 1) = omega arith in
    let d : digits w n ≡ bit_of (n % 2 == 1) ∷ digits (w - 1) (n / 2) = ap (λ v. digits v n) s in
    append_assoc xs (bit_of (n % 2 == 1) ∷ []) (digits (w - 1) (n / 2)) ∙ ap (λ z. xs ++ z) (sym d)
