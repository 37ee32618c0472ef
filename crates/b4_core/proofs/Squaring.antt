-- Powers by repeated squaring, and the power of a word's room.
use Rattle.std.proofs.Common.{◌≡◌, ℕ, suc, ◌+◌, ◌*◌, ◌/◌, ◌%◌, ◌^◌, sym, ap, ◌∙◌, arith}
use Rattle.std.proofs.Math.Nat.{pow-suc, mul_assoc, mul_comm}
use Rattle.std.proofs.lemmas.Nat.{pow-mod, mul-mod_first, mul-mod_second, mul-pow, pow-add}

-- a factor and a power whose base is cut to m
power_of_cut : (p b e m : ℕ) → (p * (b % m) ^ e) % m ≡ (p * b ^ e) % m
power_of_cut p b e m =
    sym (mul-mod_second p ((b % m) ^ e) m) ∙ ap (λ x. (p * x) % m) (pow-mod b e m) ∙ mul-mod_second p (b ^ e) m

squared : (b k : ℕ) → (b * b) ^ k ≡ b ^ (k + k)
squared b k = mul-pow b b k ∙ sym (pow-add b k k)

-- a turn of squaring where the exponent is even
pub even_turn : (p b e m : ℕ) → (e % 2 ≡ 1 → ⊥) → (p * ((b * b) % m) ^ (e / 2)) % m ≡ (p * b ^ e) % m
even_turn p b e m h =
    let half : e / 2 + e / 2 ≡ e = omega arith in
    power_of_cut p (b * b) (e / 2) m ∙ ap (λ x. (p * x) % m) (squared b (e / 2) ∙ ap (λ k. b ^ k) half)

-- and where it is odd
pub odd_turn : (p b e m : ℕ) → e % 2 ≡ 1 → ((p * b) % m * ((b * b) % m) ^ (e / 2)) % m ≡ (p * b ^ e) % m
odd_turn p b e m h =
    let half : suc (e / 2 + e / 2) ≡ e = omega arith in
    let power : b * b ^ (e / 2 + e / 2) ≡ b ^ e = mul_comm b (b ^ (e / 2 + e / 2)) ∙ sym (pow-suc b (e / 2 + e / 2)) ∙ ap (λ k. b ^ k) half in
    mul-mod_first (p * b) (((b * b) % m) ^ (e / 2)) m
    ∙ power_of_cut (p * b) (b * b) (e / 2) m
    ∙ ap (λ x. (p * b * x) % m) (squared b (e / 2))
    ∙ ap (λ x. x % m) (mul_assoc p b (b ^ (e / 2 + e / 2)) ∙ ap (λ x. p * x) power)
