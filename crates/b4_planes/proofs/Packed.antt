-- Words made of bits, and bits made of words.
use Rattle.std.proofs.Common.{◌≡◌, ℕ, zero, suc, ◌+◌, ◌-◌, ◌*◌, ◌/◌, ◌%◌, ◌^◌, ◌<◌, ◌≤◌, List, [], ◌∷◌, ◌++◌, length, take, drop, get_or, replicate, refl, sym, ap, ◌∙◌, arith, append_assoc, length-append, length-take, length-drop, min}
use Rattle.std.proofs.Math.Nat.{pow-suc}
use Rattle.std.proofs.lemmas.List.{drop_more}
use Rattle.b4_core.specs.declared.bit.Bit4.{Bit4}
use Rattle.b4_core.specs.declared.bit.Bit4.TheVariants.{Zero, One, X, Z}
use Rattle.b4_planes.specs.Planes.{plane_bit, odd, word_bits, plane_bits, words_for, value_digit, unknown_digit}

-- ---- one word

pub zero_bits : (k : ℕ) → word_bits k 0 0 ≡ replicate k Zero
unfolding word_bits odd
zero_bits zero = refl
zero_bits (suc k) = ap (λ l. Zero ∷ l) (zero_bits k)

digit_bits : (b : Bit4) (k v u : ℕ) → word_bits (suc k) (2 * v + value_digit b) (2 * u + unknown_digit b) ≡ b ∷ word_bits k v u
unfolding word_bits odd
digit_bits Zero k v u =
    let a : (2 * v + 0) % 2 ≡ 0 = omega arith in let c : (2 * v + 0) / 2 ≡ v = omega arith in
    let d : (2 * u + 0) % 2 ≡ 0 = omega arith in let e : (2 * u + 0) / 2 ≡ u = omega arith in rw (a, c, d, e) refl
digit_bits One k v u =
    let a : (2 * v + 1) % 2 ≡ 1 = omega arith in let c : (2 * v + 1) / 2 ≡ v = omega arith in
    let d : (2 * u + 0) % 2 ≡ 0 = omega arith in let e : (2 * u + 0) / 2 ≡ u = omega arith in rw (a, c, d, e) refl
digit_bits X k v u =
    let a : (2 * v + 1) % 2 ≡ 1 = omega arith in let c : (2 * v + 1) / 2 ≡ v = omega arith in
    let d : (2 * u + 1) % 2 ≡ 1 = omega arith in let e : (2 * u + 1) / 2 ≡ u = omega arith in rw (a, c, d, e) refl
digit_bits Z k v u =
    let a : (2 * v + 0) % 2 ≡ 0 = omega arith in let c : (2 * v + 0) / 2 ≡ v = omega arith in
    let d : (2 * u + 1) % 2 ≡ 1 = omega arith in let e : (2 * u + 1) / 2 ≡ u = omega arith in rw (a, c, d, e) refl

-- one bit more, below those that are packed
pub pack_more : (bits : List Bit4) (i v u x y : ℕ) (zeros : List Bit4) → 0 < i → i ≤ length bits → i ≤ 64 → x ≡ value_digit (get_or bits (i - 1) Zero) → y ≡ unknown_digit (get_or bits (i - 1) Zero) → word_bits (64 - i) v u ≡ drop i bits ++ zeros → word_bits (64 - (i - 1)) (2 * v + x) (2 * u + y) ≡ drop (i - 1) bits ++ zeros
pack_more bits i v u x y zeros some within small ex ey e =
    let k : 64 - (i - 1) ≡ suc (64 - i) = omega arith in
    let j : i - 1 + 1 ≡ i = omega arith in
    let more : drop (i - 1) bits ≡ get_or bits (i - 1) Zero ∷ drop i bits = drop_more bits (i - 1) Zero (omega arith) ∙ ap (λ n. get_or bits (i - 1) Zero ∷ drop n bits) j in
    rw (k, ex, ey, more) (digit_bits (get_or bits (i - 1) Zero) (64 - i) v u ∙ ap (λ l. get_or bits (i - 1) Zero ∷ l) e)

-- a word with room for one digit more
pub digit_fits : (i v x : ℕ) → 0 < i → i ≤ 64 → v < 2 ^ (64 - i) → x ≤ 1 → 2 * v + x < 2 ^ (64 - (i - 1))
digit_fits i v x some small fits bit =
    let k : 64 - (i - 1) ≡ suc (64 - i) = omega arith in
    rw k (omega (arith, pow-suc 2 (64 - i)))

pub value_le : (b : Bit4) → value_digit b ≤ 1
value_le Zero = omega arith
value_le One = omega arith
value_le X = omega arith
value_le Z = omega arith

pub unknown_le : (b : Bit4) → unknown_digit b ≤ 1
unknown_le Zero = omega arith
unknown_le One = omega arith
unknown_le X = omega arith
unknown_le Z = omega arith

-- the lowest bit of a word, and those above it
pub word_bits_next : (i v u : ℕ) → i < 64 → word_bits (64 - i) v u ≡ plane_bit (odd v) (odd u) ∷ word_bits (64 - (i + 1)) (v / 2) (u / 2)
unfolding word_bits
word_bits_next i v u h =
    let e : 64 - i ≡ suc (64 - (i + 1)) = omega arith in
    rw e refl

-- ---- all words

pub record Packed (at : ℕ) (bits : List Bit4) (values unknowns : List ℕ) : Type 0 where
  pub within : at ≤ length bits
  pub same : length unknowns ≡ length values
  pub count : length values ≡ words_for at
  pub whole : at < length bits → at ≡ 64 * length values
  pub packed : plane_bits values unknowns ≡ take at bits ++ replicate (64 * length values - at) Zero

pub plane_bits-append : (vs us ws xs : List ℕ) → length us ≡ length vs → plane_bits (vs ++ ws) (us ++ xs) ≡ plane_bits vs us ++ plane_bits ws xs
plane_bits-append [] [] ws xs h = refl
plane_bits-append [] (u ∷ us) ws xs h = absurd (omega arith)
plane_bits-append (v ∷ vs) [] ws xs h = absurd (omega arith)
plane_bits-append (v ∷ vs) (u ∷ us) ws xs h =
    ap (λ l. word_bits 64 v u ++ l) (plane_bits-append vs us ws xs (omega arith)) ∙ sym (append_assoc (word_bits 64 v u) (plane_bits vs us) (plane_bits ws xs))

pub append-nil : (xs : List Bit4) → xs ++ [] ≡ xs
append-nil [] = refl
append-nil (x ∷ xs) = ap (λ l. x ∷ l) (append-nil xs)

take_bits : (i n : ℕ) (xs : List Bit4) → take (i + n) xs ≡ take i xs ++ take n (drop i xs)
take_bits zero n xs = let e : 0 + n ≡ n = omega arith in rw e refl
take_bits (suc i) n [] = let e : suc i + n ≡ suc (i + n) = omega arith in rw e (sym (nothing n))
  where
    nothing : (n : ℕ) → take {A = Bit4} n [] ≡ []
    nothing zero = refl
    nothing (suc n) = refl
take_bits (suc i) n (x ∷ xs) = let e : suc i + n ≡ suc (i + n) = omega arith in rw e (ap (λ l. x ∷ l) (take_bits i n xs))

pub packed_start : (bits : List Bit4) → Packed 0 bits [] []
packed_start bits = record { within = omega arith; same = refl; count = refl; whole = λ h. refl; packed = refl }

-- one word of each plane more
pub packed_more : (at n : ℕ) (bits part : List Bit4) (values unknowns vs us : List ℕ) (x y : ℕ) → Packed at bits values unknowns → at < length bits → n ≡ min (length bits - at) 64 → part ≡ take n (drop at bits) → word_bits 64 x y ≡ part ++ replicate (64 - length part) Zero → vs ≡ values ++ x ∷ [] → us ≡ unknowns ++ y ∷ [] → Packed (at + n) bits vs us
packed_more at n bits part values unknowns vs us x y p lt size ep e ev eu =
    let c : at ≡ 64 * length values = p.whole lt in
    let lv : length vs ≡ length values + 1 = ap length ev ∙ length-append values (x ∷ []) in
    let lu : length us ≡ length unknowns + 1 = ap length eu ∙ length-append unknowns (y ∷ []) in
    let lp : length part ≡ n = ap length ep ∙ length-take n (drop at bits) ∙ omega (arith, length-drop at bits) in
    let none : 64 * length values - at ≡ 0 = omega arith in
    let left : 64 * length vs - (at + n) ≡ 64 - n = omega arith in
    let front : plane_bits values unknowns ≡ take at bits = p.packed ∙ ap (λ k. take at bits ++ replicate k Zero) none ∙ append-nil (take at bits) in
    let next : plane_bits (x ∷ []) (y ∷ []) ≡ part ++ replicate (64 - n) Zero = append-nil (word_bits 64 x y) ∙ e ∙ ap (λ k. part ++ replicate (64 - k) Zero) lp in record {
      within = omega arith;
      same = omega (arith, p.same);
      count = omega (arith, p.count);
      whole = λ more. omega arith;
      packed =
          rw (ev, eu) (plane_bits-append values unknowns (x ∷ []) (y ∷ []) p.same)
          ∙ ap (λ l. l ++ plane_bits (x ∷ []) (y ∷ [])) front
          ∙ ap (λ l. take at bits ++ l) next
          ∙ sym (append_assoc (take at bits) part (replicate (64 - n) Zero))
          ∙ ap (λ l. (take at bits ++ l) ++ replicate (64 - n) Zero) ep
          ∙ ap (λ l. l ++ replicate (64 - n) Zero) (sym (take_bits at n bits))
          ∙ ap (λ k. take (at + n) bits ++ replicate k Zero) (sym left);
    }

pub word_bits_none : (v u : ℕ) → word_bits 0 v u ≡ []
unfolding word_bits
word_bits_none v u = refl
