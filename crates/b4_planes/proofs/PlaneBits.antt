-- What kernels make of the bits of planes.
use Rattle.std.proofs.Common.{◌≡◌, ℕ, zero, suc, ◌-◌, ◌*◌, ◌/◌, Bool, List, [], ◌∷◌, ◌++◌, length, take, drop, replicate, refl, sym, ap, ◌∙◌, arith, length-append, length-take}
use Rattle.b4_core.specs.declared.bit.Bit4.{Bit4}
use Rattle.b4_core.specs.declared.bit.Bit4.TheVariants.{Zero}
use Rattle.b4_core.specs.Vectors.{bitwise}
use Rattle.b4_planes.specs.Planes.{plane_bit, odd, word_bits, plane_bits, words_for, IsPlanes}
use Rattle.b4_planes.specs.Words.{words4}
use Rattle.b4_planes.proofs.Aligned.{Aligned, ends, goes, length-words4}
use Rattle.b4_planes.proofs.Places.{Places}

-- what the truth tables of a kernel's two planes say of a bit
abbrev pub Tells : (Bool → Bool → Bool → Bool → Bool) → (Bool → Bool → Bool → Bool → Bool) → (Bit4 → Bit4 → Bit4) → Type 0
Tells t s op = (p q x y : Bool) → plane_bit (t p q x y) (s p q x y) ≡ op (plane_bit p q) (plane_bit x y)

pub length-word_bits : (k a u : ℕ) → length (word_bits k a u) ≡ k
unfolding word_bits
length-word_bits zero a u = refl
length-word_bits (suc k) a u = ap suc (length-word_bits k (a / 2) (u / 2))

-- a kernel on one word
word_kernel : (f g : ℕ → ℕ → ℕ → ℕ → ℕ) (t s : Bool → Bool → Bool → Bool → Bool) (op : Bit4 → Bit4 → Bit4) → Places f t → Places g s → Tells t s op → (k a u b v : ℕ) → word_bits k (f a u b v) (g a u b v) ≡ bitwise op (word_bits k a u) (word_bits k b v)
unfolding word_bits
word_kernel f g t s op pf pg tells zero a u b v = refl
word_kernel f g t s op pf pg tells (suc k) a u b v =
    rw (pf.low a u b v, pg.low a u b v, pf.high a u b v, pg.high a u b v, tells (odd a) (odd u) (odd b) (odd v))
    (ap (λ l. op (plane_bit (odd a) (odd u)) (plane_bit (odd b) (odd v)) ∷ l) (word_kernel f g t s op pf pg tells k (a / 2) (u / 2) (b / 2) (v / 2)))

bitwise-append : (op : Bit4 → Bit4 → Bit4) (x y p q : List Bit4) → length x ≡ length y → bitwise op (x ++ p) (y ++ q) ≡ bitwise op x y ++ bitwise op p q
bitwise-append op [] [] p q h = refl
bitwise-append op [] (b ∷ y) p q h = absurd (omega arith)
bitwise-append op (a ∷ x) [] p q h = absurd (omega arith)
bitwise-append op (a ∷ x) (b ∷ y) p q h = ap (λ l. op a b ∷ l) (bitwise-append op x y p q (omega arith))

-- a kernel on all words
pub plane_kernel : (f g : ℕ → ℕ → ℕ → ℕ → ℕ) (t s : Bool → Bool → Bool → Bool → Bool) (op : Bit4 → Bit4 → Bit4) → Places f t → Places g s → Tells t s op → {la lu lb lv : List ℕ} → Aligned la lu lb lv → plane_bits (words4 f la lu lb lv) (words4 g la lu lb lv) ≡ bitwise op (plane_bits la lu) (plane_bits lb lv)
plane_kernel f g t s op pf pg tells ends = refl
plane_kernel f g t s op pf pg tells (goes a u b v la lu lb lv h) =
    ap (λ l. l ++ plane_bits (words4 f la lu lb lv) (words4 g la lu lb lv)) (word_kernel f g t s op pf pg tells 64 a u b v)
    ∙ ap (λ l. bitwise op (word_bits 64 a u) (word_bits 64 b v) ++ l) (plane_kernel f g t s op pf pg tells h)
    ∙ sym (bitwise-append op (word_bits 64 a u) (word_bits 64 b v) (plane_bits la lu) (plane_bits lb lv) (length-word_bits 64 a u ∙ sym (length-word_bits 64 b v)))

pub take-bitwise : (op : Bit4 → Bit4 → Bit4) (n : ℕ) (x y : List Bit4) → take n (bitwise op x y) ≡ bitwise op (take n x) (take n y)
take-bitwise op zero x y = refl
take-bitwise op (suc n) [] y = refl
take-bitwise op (suc n) (a ∷ x) [] = refl
take-bitwise op (suc n) (a ∷ x) (b ∷ y) = ap (λ l. op a b ∷ l) (take-bitwise op n x y)

drop-bitwise : (op : Bit4 → Bit4 → Bit4) (n : ℕ) (x y : List Bit4) → length x ≡ length y → drop n (bitwise op x y) ≡ bitwise op (drop n x) (drop n y)
drop-bitwise op zero x y h = refl
drop-bitwise op (suc n) [] [] h = refl
drop-bitwise op (suc n) [] (b ∷ y) h = absurd (omega arith)
drop-bitwise op (suc n) (a ∷ x) [] h = absurd (omega arith)
drop-bitwise op (suc n) (a ∷ x) (b ∷ y) h = drop-bitwise op n x y (omega arith)

bitwise-replicate : (op : Bit4 → Bit4 → Bit4) (n : ℕ) (a b : Bit4) → bitwise op (replicate n a) (replicate n b) ≡ replicate n (op a b)
bitwise-replicate op zero a b = refl
bitwise-replicate op (suc n) a b = ap (λ l. op a b ∷ l) (bitwise-replicate op n a b)

pub length-plane_bits : (la lu : List ℕ) → length lu ≡ length la → length (plane_bits la lu) ≡ 64 * length la
length-plane_bits [] lu h = refl
length-plane_bits (a ∷ la) [] h = absurd (omega arith)
length-plane_bits (a ∷ la) (u ∷ lu) h =
    length-append (word_bits 64 a u) (plane_bits la lu) ∙ omega (arith, length-word_bits 64 a u, length-plane_bits la lu (omega arith))

-- the vector of two planes
abbrev pub vector_of : ℕ → List ℕ → List ℕ → List Bit4
vector_of len la lu = take len (plane_bits la lu)

pub length-vector : (len : ℕ) (la lu : List ℕ) → IsPlanes len la lu → length (vector_of len la lu) ≡ len
length-vector len la lu h =
    length-take len (plane_bits la lu) ∙ omega (arith, length-plane_bits la lu (h.unknown_words ∙ sym h.value_words), h.value_words)

-- what a kernel leaves of two vectors of one length
pub kernel_planes : (f g : ℕ → ℕ → ℕ → ℕ → ℕ) (t s : Bool → Bool → Bool → Bool → Bool) (op : Bit4 → Bit4 → Bit4) → Places f t → Places g s → Tells t s op → op Zero Zero ≡ Zero → (len : ℕ) (la lu lb lv : List ℕ) → Aligned la lu lb lv → IsPlanes len la lu → IsPlanes len lb lv → IsPlanes len (words4 f la lu lb lv) (words4 g la lu lb lv)
kernel_planes f g t s op pf pg tells z len la lu lb lv h i j =
    let long : length (plane_bits la lu) ≡ length (plane_bits lb lv) =
    length-plane_bits la lu (i.unknown_words ∙ sym i.value_words) ∙ ap (λ k. 64 * k) (i.value_words ∙ sym j.value_words) ∙ sym (length-plane_bits lb lv (j.unknown_words ∙ sym j.value_words)) in record {
      value_words = length-words4 f h ∙ i.value_words;
      unknown_words = length-words4 g h ∙ i.value_words;
      rest =
          ap (drop len) (plane_kernel f g t s op pf pg tells h)
          ∙ drop-bitwise op len (plane_bits la lu) (plane_bits lb lv) long
          ∙ rw (i.rest, j.rest) (bitwise-replicate op (64 * words_for len - len) Zero Zero ∙ ap (replicate (64 * words_for len - len)) z);
    }

pub kernel_vector : (f g : ℕ → ℕ → ℕ → ℕ → ℕ) (t s : Bool → Bool → Bool → Bool → Bool) (op : Bit4 → Bit4 → Bit4) → Places f t → Places g s → Tells t s op → (len : ℕ) {la lu lb lv : List ℕ} → Aligned la lu lb lv → vector_of len (words4 f la lu lb lv) (words4 g la lu lb lv) ≡ bitwise op (vector_of len la lu) (vector_of len lb lv)
kernel_vector f g t s op pf pg tells len {la} {lu} {lb} {lv} h =
    ap (take len) (plane_kernel f g t s op pf pg tells h) ∙ take-bitwise op len (plane_bits la lu) (plane_bits lb lv)
