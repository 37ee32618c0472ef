-- Vectors compared by the words of their planes.
use Rattle.std.proofs.Common.{◌≡◌, ℕ, zero, suc, ◌-◌, ◌*◌, ◌/◌, ◌%◌, ◌^◌, ◌<◌, ◌==◌, ◌↔◌, Bool, true, false, ◌&&◌, IsTrue, List, [], ◌∷◌, ◌++◌, length, take, drop, get_or, replicate, refl, sym, ap, ◌∙◌, arith, Fits, w64}
use Rattle.std.proofs.lemmas.List.{take-append-drop, take_at, drop_at}
use Rattle.std.proofs.Math.Nat.{pow-suc}
use Rattle.b4_core.specs.declared.bit.Bit4.{Bit4}
use Rattle.b4_core.specs.declared.bit.Bit4.TheVariants.{Zero, One, X, Z}
use Rattle.b4_core.specs.Bits.{same4}
use Rattle.b4_core.specs.Bitwise.{same_bits}
use Rattle.b4_planes.specs.Planes.{plane_bit, odd, word_bits, plane_bits, words_for, IsPlanes}
use Rattle.b4_planes.proofs.Aligned.{Aligned, ends, goes}
use Rattle.b4_planes.proofs.Places.{remainders}
use Rattle.b4_planes.proofs.PlaneBits.{vector_of, length-word_bits}

-- ---- words are told by their bits

tell_bit : (p q x y : Bool) → plane_bit p q ≡ plane_bit x y → (p ≡ x) × (q ≡ y)
tell_bit false false false false e = (refl, refl)
tell_bit false false false true e = absurd (cc)
tell_bit false false true false e = absurd (cc)
tell_bit false false true true e = absurd (cc)
tell_bit false true false false e = absurd (cc)
tell_bit false true false true e = (refl, refl)
tell_bit false true true false e = absurd (cc)
tell_bit false true true true e = absurd (cc)
tell_bit true false false false e = absurd (cc)
tell_bit true false false true e = absurd (cc)
tell_bit true false true false e = (refl, refl)
tell_bit true false true true e = absurd (cc)
tell_bit true true false false e = absurd (cc)
tell_bit true true false true e = absurd (cc)
tell_bit true true true false e = absurd (cc)
tell_bit true true true true e = (refl, refl)

same_remainder : (a b : ℕ) → odd a ≡ odd b → a % 2 ≡ b % 2
unfolding odd
same_remainder = remainders (λ m n. (m == 1) ≡ (n == 1) → m ≡ n) (λ e. refl) (λ e. absurd (cc)) (λ e. absurd (cc)) (λ e. refl)

tell_word : (k a u b v : ℕ) → a < 2 ^ k → u < 2 ^ k → b < 2 ^ k → v < 2 ^ k → word_bits k a u ≡ word_bits k b v → (a ≡ b) × (u ≡ v)
unfolding word_bits
tell_word zero a u b v ha hu hb hv e = (omega arith, omega arith)
tell_word (suc k) a u b v ha hu hb hv e =
    let size = pow-suc 2 k in
    let head : plane_bit (odd a) (odd u) ≡ plane_bit (odd b) (odd v) = cc in
    let tail : word_bits k (a / 2) (u / 2) ≡ word_bits k (b / 2) (v / 2) = cc in
    let low = tell_bit (odd a) (odd u) (odd b) (odd v) head in
    let high = tell_word k (a / 2) (u / 2) (b / 2) (v / 2) (omega arith) (omega arith) (omega arith) (omega arith) tail in
    (omega (arith, same_remainder a b low.0, high.0), omega (arith, same_remainder u v low.1, high.1))

-- every word fits 64 bits
abbrev pub Words : List ℕ → Type 0
Words l = (i : ℕ) → Fits w64 (get_or l i 0)

pub tell_words : {la lu lb lv : List ℕ} → Aligned la lu lb lv → Words la → Words lu → Words lb → Words lv → plane_bits la lu ≡ plane_bits lb lv → (la ≡ lb) × (lu ≡ lv)
tell_words ends ha hu hb hv e = (refl, refl)
tell_words (goes a u b v la lu lb lv h) ha hu hb hv e =
    let front : word_bits 64 a u ≡ word_bits 64 b v =
    sym (take_at (word_bits 64 a u) (plane_bits la lu) 64 (length-word_bits 64 a u)) ∙ ap (take 64) e ∙ take_at (word_bits 64 b v) (plane_bits lb lv) 64 (length-word_bits 64 b v) in
    let back : plane_bits la lu ≡ plane_bits lb lv =
    sym (drop_at (word_bits 64 a u) (plane_bits la lu) 64 (length-word_bits 64 a u)) ∙ ap (drop 64) e ∙ drop_at (word_bits 64 b v) (plane_bits lb lv) 64 (length-word_bits 64 b v) in
    let word = tell_word 64 a u b v (ha 0).fits (hu 0).fits (hb 0).fits (hv 0).fits front in
    let rest = tell_words h (λ i. ha (suc i)) (λ i. hu (suc i)) (λ i. hb (suc i)) (λ i. hv (suc i)) back in
    (rw (word.0, rest.0) refl, rw (word.1, rest.1) refl)

-- ---- ===

same4_refl : (b : Bit4) → same4 b b ≡ true
same4_refl Zero = refl
same4_refl One = refl
same4_refl X = refl
same4_refl Z = refl

same_bits_refl : (x : List Bit4) → same_bits x x ≡ true
same_bits_refl [] = refl
same_bits_refl (b ∷ x) = rw (same4_refl b) (same_bits_refl x)

tell4 : (a b : Bit4) (t : Bool) → (same4 a b && t) ≡ true → (a ≡ b) × (t ≡ true)
tell4 Zero Zero t e = (refl, e)
tell4 Zero One t e = cc
tell4 Zero X t e = cc
tell4 Zero Z t e = cc
tell4 One Zero t e = cc
tell4 One One t e = (refl, e)
tell4 One X t e = cc
tell4 One Z t e = cc
tell4 X Zero t e = cc
tell4 X One t e = cc
tell4 X X t e = (refl, e)
tell4 X Z t e = cc
tell4 Z Zero t e = cc
tell4 Z One t e = cc
tell4 Z X t e = cc
tell4 Z Z t e = (refl, e)

same_from_bits : (x y : List Bit4) → length x ≡ length y → same_bits x y ≡ true → x ≡ y
same_from_bits [] [] h e = refl
same_from_bits [] (b ∷ y) h e = absurd (omega arith)
same_from_bits (a ∷ x) [] h e = absurd (omega arith)
same_from_bits (a ∷ x) (b ∷ y) h e =
    let t = tell4 a b (same_bits x y) e in
    rw (t.0, same_from_bits x y (omega arith) t.1) refl

-- the bits of planes are those of the vector, and 0
whole : (len : ℕ) (la lu : List ℕ) (x : List Bit4) → IsPlanes len la lu → vector_of len la lu ≡ x → plane_bits la lu ≡ x ++ replicate (64 * words_for len - len) Zero
whole len la lu x i e = sym (take-append-drop len (plane_bits la lu)) ∙ ap (λ l. l ++ drop len (plane_bits la lu)) e ∙ ap (λ l. x ++ l) i.rest

pub same_vectors : (len : ℕ) (la lu lb lv : List ℕ) (x y : List Bit4) (r : Bool) → IsPlanes len la lu → IsPlanes len lb lv → vector_of len la lu ≡ x → vector_of len lb lv ≡ y → length x ≡ length y → (IsTrue r ↔ (plane_bits la lu ≡ plane_bits lb lv)) → r ≡ same_bits x y
same_vectors len la lu lb lv x y true i j ex ey long h =
    let e : x ≡ y = sym ex ∙ ap (take len) (h.0 refl) ∙ ey in
    sym (same_bits_refl x) ∙ ap (same_bits x) e
same_vectors len la lu lb lv x y false i j ex ey long h = by_test (same_bits x y) refl
  where
    by_test : (t : Bool) → same_bits x y ≡ t → false ≡ t
    by_test false e = refl
    by_test true e =
        h.1 (whole len la lu x i ex ∙ ap (λ l. l ++ replicate (64 * words_for len - len) Zero) (same_from_bits x y long e) ∙ sym (whole len lb lv y j ey))
