-- Numbers by powers of 2.
use Rattle.std.proofs.Common.{◌≡◌, ℕ, zero, suc, ◌+◌, ◌-◌, ◌*◌, ◌^◌, ◌<◌, ◌≤◌, Bool, true, false, cond, pos, List, length, drop, get_or, refl, arith, ap, sym, ◌∙◌, subst, inl, inr, ◌⊎◌}
use Rattle.std.specs.Prelude.{nat_le}
use Rattle.std.proofs.Math.Pow.{pow_mono}
use Rattle.std.proofs.lemmas.Nat.{pow_pos}
use Rattle.std.proofs.lemmas.Bool.{cases_lt}
use Rattle.std.proofs.lemmas.Bool.Decides.{nat_tests}
use Rattle.b4_core.specs.declared.bit.Bit4.{Bit4}
use Rattle.b4_core.specs.declared.bit.Bit4.TheVariants as B
use Rattle.b4_core.specs.Bits.{is_one}
use Rattle.b4_core.specs.Vectors.{num, digit, known, unknown, vec}
use Rattle.sv_types.specs.Operators.{log_from, clog2_of}
use Rattle.eval_parts.specs.declared.powers.Log.{Log}
use Rattle.eval_parts.specs.declared.powers.Log.TheVariants as L
use Rattle.eval_parts.specs.Logs.{IsLog, HasRoom, Ceils, more}
use Rattle.eval_parts.proofs.Products.{pow-more, next-num}

pub double : (k : ℕ) → 2 ^ (k + 1) ≡ 2 * 2 ^ k
double k = omega (arith, pow-more k)

pub double-again : (k : ℕ) → 2 ^ (k + 2) ≡ 2 * (2 * 2 ^ k)
double-again k = let e : k + 2 ≡ k + 1 + 1 = omega arith in ap (λ j. 2 ^ j) e ∙ omega (arith, pow-more (k + 1), pow-more k)

-- one more digit
power-even : (k n bits : ℕ) → IsLog (L.Power k) n bits → IsLog (L.Power (k + 1)) (0 + 2 * n) (bits + 1)
power-even k n bits h = let e = double k in (omega (arith, h.0), omega (arith, h.1))

next-power : (k : ℕ) → 2 ^ (k + 1 + 1) ≡ 2 * (2 * 2 ^ k)
next-power k = let e : k + 1 + 1 ≡ k + 2 = omega arith in ap (λ j. 2 ^ j) e ∙ double-again k

power-odd : (k n bits : ℕ) → IsLog (L.Power k) n bits → IsLog (L.Above (k + 1)) (1 + 2 * n) (bits + 1)
power-odd k n bits h = let e = double k in let f = next-power k in let p : 0 < 2 ^ k = pow_pos k in (omega (arith, h.0), omega (arith, h.0), omega (arith, h.1))

above-digit : (d k n bits : ℕ) → d ≤ 1 → IsLog (L.Above k) n bits → IsLog (L.Above (k + 1)) (d + 2 * n) (bits + 1)
above-digit d k n bits z h = let e = double k in let f = next-power k in (omega (arith, h.0), omega (arith, h.1), omega (arith, h.2))

one-more : (log : Log) (one : Bool) (d n bits : ℕ) → d ≡ cond {A = ℕ} one 1 0 → IsLog log n bits → IsLog (more log one) (d + 2 * n) (bits + 1)
one-more L.Nothing true d n bits is h = (omega (arith, h), omega arith)
one-more L.Nothing false d n bits is h = omega (arith, h)
one-more (L.Power k) true d n bits is h = subst (λ j. IsLog (L.Above (k + 1)) (j + 2 * n) (bits + 1)) (sym is) (power-odd k n bits h)
one-more (L.Power k) false d n bits is h = subst (λ j. IsLog (L.Power (k + 1)) (j + 2 * n) (bits + 1)) (sym is) (power-even k n bits h)
one-more (L.Above k) true d n bits is h = above-digit d k n bits (omega arith) h
one-more (L.Above k) false d n bits is h = above-digit d k n bits (omega arith) h

digit-is : (b : Bit4) → digit b ≡ cond {A = ℕ} (is_one b) 1 0
digit-is B.Zero = refl
digit-is B.One = refl
digit-is B.X = refl
digit-is B.Z = refl

pub log-next : (v : List Bit4) (i : ℕ) (d : Bit4) (log : Log) (one : Bool) → 0 < i → i ≤ length v → one ≡ is_one (get_or v (i - 1) d) → IsLog log (num (drop i v)) (length v - i)
    → IsLog (more log one) (num (drop (i - 1) v)) (length v - (i - 1))
log-next v i d log one some within is h =
    let same : i - 1 + 1 ≡ i = omega arith in
    let later : num (drop (i - 1 + 1) v) ≡ num (drop i v) = ap (λ k. num (drop k v)) same in
    let here : num (drop (i - 1) v) ≡ digit (get_or v (i - 1) d) + 2 * num (drop i v) = next-num v (i - 1) d (omega arith) ∙ ap (λ n. digit (get_or v (i - 1) d) + 2 * n) later in
    let bits : length v - i + 1 ≡ length v - (i - 1) = omega arith in
    let step = one-more log one (digit (get_or v (i - 1) d)) (num (drop i v)) (length v - i) (digit-is (get_or v (i - 1) d) ∙ ap (λ b. cond {A = ℕ} b 1 0) (sym is)) h in
    subst (λ n. IsLog (more log one) n (length v - (i - 1))) (sym here) (subst (IsLog (more log one) (digit (get_or v (i - 1) d) + 2 * num (drop i v))) bits step)

equal-or : (k c : ℕ) → k ≤ c → (k ≡ c) ⊎ (k < c)
equal-or k c h = elim (cases_lt k c) [ inl l ↦ inr l | inr g ↦ inl (omega arith) ]

not-less : (k c n : ℕ) → k < c → n ≤ 2 ^ k → ((d : ℕ) → c ≡ d + 1 → 2 ^ d < n) → ⊥
not-less k c n h small below =
    let g : 2 ^ (c - 1) < n = below (c - 1) (omega arith) in
    let p : 2 ^ k ≤ 2 ^ (c - 1) = pow_mono (omega arith) in
    omega arith

above : (k n c : ℕ) → 2 ^ k < n → k ≤ c → n ≤ 2 ^ c → suc k ≤ c
above k n c large low enough = elim (equal-or k c low) [ inl e ↦ absurd (omega (arith, ap (λ j. 2 ^ j) e)) | inr h ↦ omega arith ]

-- the least power is the one below which none is enough
log-by : (b : Bool) (steps k n c : ℕ) → nat_le n (2 ^ k) ≡ b → k ≤ c → c ≤ k + suc steps → n ≤ 2 ^ c → ((d : ℕ) → c ≡ d + 1 → 2 ^ d < n)
    → ((j : ℕ) → j ≤ c → c ≤ j + steps → log_from steps j n ≡ c) → cond b k (log_from steps (suc k) n) ≡ c
log-by true steps k n c is low high enough below rest =
    let small : n ≤ 2 ^ k = grind (arith, nat_tests) in
    elim (equal-or k c low) [ inl e ↦ e | inr h ↦ absurd (not-less k c n h small below) ]
log-by false steps k n c is low high enough below rest =
    let large : 2 ^ k < n = grind (arith, nat_tests) in
    rest (suc k) (above k n c large low enough) (omega arith)

log-is : (steps k n c : ℕ) → k ≤ c → c ≤ k + steps → n ≤ 2 ^ c → ((d : ℕ) → c ≡ d + 1 → 2 ^ d < n) → log_from steps k n ≡ c
log-is zero k n c low high enough below = omega arith
log-is (suc steps) k n c low high enough below = log-by (nat_le n (2 ^ k)) steps k n c refl low high enough below (λ j l h. log-is steps j n c l h enough below)

pub ceiling-is : (log : Log) (n bits c : ℕ) → IsLog log n bits → Ceils log c → c ≡ log_from bits 0 n
ceiling-is L.Nothing n bits c h is =
    sym (log-is bits 0 n c (omega arith) (omega (arith, is)) (omega (arith, h, is)) (λ d e. absurd (omega (arith, is))))
ceiling-is (L.Power k) n bits c h is =
    sym (log-is bits 0 n c (omega arith) (omega (arith, is, h.1)) (omega (arith, h.0, ap (λ j. 2 ^ j) is)) (λ d e. let p = pow-more d in let f : k ≡ d + 1 = omega (arith, is) in omega (arith, h.0, ap (λ j. 2 ^ j) f, pow_pos d)))
ceiling-is (L.Above k) n bits c h is =
    sym (log-is bits 0 n c (omega arith) (omega (arith, is, h.2)) (omega (arith, h.1, ap (λ j. 2 ^ j) is)) (λ d e. let f : d ≡ k = omega (arith, is) in omega (arith, h.0, ap (λ j. 2 ^ j) f)))

pub room : (log : Log) (n bits : ℕ) → IsLog log n bits → bits ≤ 4194304 → HasRoom log
room L.Nothing n bits h few = tt
room (L.Power k) n bits h few = omega (arith, h.1)
room (L.Above k) n bits h few = omega (arith, h.2)

pub clog-known : (v : List Bit4) (log : Log) (c : ℕ) → known v ≡ true → IsLog log (num v) (length v) → Ceils log c → vec 32 (pos c) ≡ clog2_of v
clog-known v log c sure is ceils =
    ap (λ k. vec 32 (pos k)) (ceiling-is log (num v) (length v) c is ceils) ∙ ap (λ b. cond b (vec 32 (pos (log_from (length v) 0 (num v)))) (unknown 32)) (sym sure)

pub clog-unknown : (v : List Bit4) → known v ≡ false → unknown 32 ≡ clog2_of v
clog-unknown v unsure = ap (λ b. cond b (vec 32 (pos (log_from (length v) 0 (num v)))) (unknown 32)) (sym unsure)
