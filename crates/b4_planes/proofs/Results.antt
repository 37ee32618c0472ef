-- What a kernel leaves of a vector, from what it does to each bit.
use Rattle.std.proofs.Common.{◌≡◌, ℕ, Bool, true, false, ◌&&◌, ◌||◌, List, length, refl, sym, ap, ◌∙◌, subst}
use Rattle.std.specs.Prelude.{Vec}
use Rattle.std.specs.Vec.{with_items}
use Rattle.std.proofs.lemmas.List.{with_items_is}
use Rattle.b4_core.specs.declared.bit.Bit4.{Bit4}
use Rattle.b4_core.specs.declared.bit.Bit4.TheVariants.{Zero}
use Rattle.b4_core.specs.Bits.{and4, or4, xor4, merge4}
use Rattle.b4_core.specs.Vectors.{bitwise}
use Rattle.b4_planes.specs.Planes.{plane_bit, words_for, IsPlanes}
use Rattle.b4_planes.specs.Words.{words4, and_value, and_unknown, or_value, or_unknown, xor_value, xor_unknown, merge_value, merge_unknown}
use Rattle.b4_planes.proofs.Aligned.{Aligned, aligned, length-words4}
use Rattle.b4_planes.proofs.Places.{Places, differ, one_bit, places_and_value, places_and_unknown, places_or_value, places_or_unknown, places_xor_value, places_xor_unknown, places_merge_value, places_merge_unknown}
use Rattle.b4_planes.proofs.PlaneBits.{Tells, vector_of, length-vector, kernel_planes, kernel_vector}

-- ---- truth tables

by_bits : (P : Bool → Bool → Bool → Bool → Type 0) → P false false false false → P false false false true → P false false true false → P false false true true → P false true false false → P false true false true → P false true true false → P false true true true → P true false false false → P true false false true → P true false true false → P true false true true → P true true false false → P true true false true → P true true true false → P true true true true → (p q x y : Bool) → P p q x y
by_bits P c0 c1 c2 c3 c4 c5 c6 c7 c8 c9 c10 c11 c12 c13 c14 c15 false false false false = c0
by_bits P c0 c1 c2 c3 c4 c5 c6 c7 c8 c9 c10 c11 c12 c13 c14 c15 false false false true = c1
by_bits P c0 c1 c2 c3 c4 c5 c6 c7 c8 c9 c10 c11 c12 c13 c14 c15 false false true false = c2
by_bits P c0 c1 c2 c3 c4 c5 c6 c7 c8 c9 c10 c11 c12 c13 c14 c15 false false true true = c3
by_bits P c0 c1 c2 c3 c4 c5 c6 c7 c8 c9 c10 c11 c12 c13 c14 c15 false true false false = c4
by_bits P c0 c1 c2 c3 c4 c5 c6 c7 c8 c9 c10 c11 c12 c13 c14 c15 false true false true = c5
by_bits P c0 c1 c2 c3 c4 c5 c6 c7 c8 c9 c10 c11 c12 c13 c14 c15 false true true false = c6
by_bits P c0 c1 c2 c3 c4 c5 c6 c7 c8 c9 c10 c11 c12 c13 c14 c15 false true true true = c7
by_bits P c0 c1 c2 c3 c4 c5 c6 c7 c8 c9 c10 c11 c12 c13 c14 c15 true false false false = c8
by_bits P c0 c1 c2 c3 c4 c5 c6 c7 c8 c9 c10 c11 c12 c13 c14 c15 true false false true = c9
by_bits P c0 c1 c2 c3 c4 c5 c6 c7 c8 c9 c10 c11 c12 c13 c14 c15 true false true false = c10
by_bits P c0 c1 c2 c3 c4 c5 c6 c7 c8 c9 c10 c11 c12 c13 c14 c15 true false true true = c11
by_bits P c0 c1 c2 c3 c4 c5 c6 c7 c8 c9 c10 c11 c12 c13 c14 c15 true true false false = c12
by_bits P c0 c1 c2 c3 c4 c5 c6 c7 c8 c9 c10 c11 c12 c13 c14 c15 true true false true = c13
by_bits P c0 c1 c2 c3 c4 c5 c6 c7 c8 c9 c10 c11 c12 c13 c14 c15 true true true false = c14
by_bits P c0 c1 c2 c3 c4 c5 c6 c7 c8 c9 c10 c11 c12 c13 c14 c15 true true true true = c15

and_bits : Tells (λ p q r s. (p || q) && (r || s)) (λ p q r s. ((p || q) && (r || s)) && (q || s)) and4
and_bits = by_bits (λ p q r s. plane_bit ((p || q) && (r || s)) (((p || q) && (r || s)) && (q || s)) ≡ and4 (plane_bit p q) (plane_bit r s)) refl refl refl refl refl refl refl refl refl refl refl refl refl refl refl refl

or_bits : Tells (λ p q r s. (p || q) || (r || s)) (λ p q r s. one_bit (q || s) (one_bit p q || one_bit r s)) or4
or_bits = by_bits (λ p q r s. plane_bit ((p || q) || (r || s)) (one_bit (q || s) (one_bit p q || one_bit r s)) ≡ or4 (plane_bit p q) (plane_bit r s)) refl refl refl refl refl refl refl refl refl refl refl refl refl refl refl refl

xor_bits : Tells (λ p q r s. differ p r || (q || s)) (λ p q r s. q || s) xor4
xor_bits = by_bits (λ p q r s. plane_bit (differ p r || (q || s)) (q || s) ≡ xor4 (plane_bit p q) (plane_bit r s)) refl refl refl refl refl refl refl refl refl refl refl refl refl refl refl refl

merge_bits : Tells (λ p q r s. (p && r) || (differ p r || (q || s))) (λ p q r s. differ p r || (q || s)) merge4
merge_bits = by_bits (λ p q r s. plane_bit ((p && r) || (differ p r || (q || s))) (differ p r || (q || s)) ≡ merge4 (plane_bit p q) (plane_bit r s)) refl refl refl refl refl refl refl refl refl refl refl refl refl refl refl refl

-- ---- the vector after a kernel

-- two vectors of one length have as many words
pub same_len : (len m : ℕ) (la lu lb lv : List ℕ) (x y : List Bit4) → IsPlanes len la lu → IsPlanes m lb lv → vector_of len la lu ≡ x → vector_of m lb lv ≡ y → length x ≡ length y → m ≡ len
same_len len m la lu lb lv x y i j ex ey long =
    sym (length-vector m lb lv j) ∙ ap length ey ∙ sym long ∙ sym (ap length ex) ∙ length-vector len la lu i

pub aligned_planes : (len m : ℕ) (la lu lb lv : List ℕ) (x y : List Bit4) → IsPlanes len la lu → IsPlanes m lb lv → vector_of len la lu ≡ x → vector_of m lb lv ≡ y → length x ≡ length y → Aligned la lu lb lv
aligned_planes len m la lu lb lv x y i j ex ey long =
    let e = same_len len m la lu lb lv x y i j ex ey long in
    aligned la lu lb lv (i.unknown_words ∙ sym i.value_words) (j.value_words ∙ ap words_for e ∙ sym i.value_words) (j.unknown_words ∙ ap words_for e ∙ sym i.value_words)

-- what a kernel writes, put back where it read
pub record Ran {Y : Type 0} (f g : ℕ → ℕ → ℕ → ℕ → ℕ) (v w : Vec ℕ Y) (lb lv na nu : List ℕ) : Type 0 where
  pub values : na ≡ words4 f v.items w.items lb lv
  pub unknowns : nu ≡ words4 g v.items w.items lb lv

pub ran : {Y : Type 0} (f g : ℕ → ℕ → ℕ → ℕ → ℕ) (v w : Vec ℕ Y) (lb lv na nu a u b c : List ℕ) → a ≡ v.items → u ≡ w.items → b ≡ lb → c ≡ lv → na ≡ words4 f a u b c → nu ≡ words4 g a u b c → Ran f g v w lb lv na nu
ran f g v w lb lv na nu a u b c ea eu eb ec ef eg = record {
  values = ef ∙ rw (ea, eu, eb, ec) refl;
  unknowns = eg ∙ rw (ea, eu, eb, ec) refl;
}

kernel_result : {Y : Type 0} (f g : ℕ → ℕ → ℕ → ℕ → ℕ) (t s : Bool → Bool → Bool → Bool → Bool) (op : Bit4 → Bit4 → Bit4) → Places f t → Places g s → Tells t s op → op Zero Zero ≡ Zero → (len m : ℕ) (v w : Vec ℕ Y) (lb lv na nu : List ℕ) (x y : List Bit4) → IsPlanes len v.items w.items → IsPlanes m lb lv → vector_of len v.items w.items ≡ x → vector_of m lb lv ≡ y → length x ≡ length y → Ran f g v w lb lv na nu → IsPlanes len (with_items v na).items (with_items w nu).items × (vector_of len (with_items v na).items (with_items w nu).items ≡ bitwise op x y)
kernel_result f g t s op pf pg tells z len m v w lb lv na nu x y i j ex ey long r =
    let e = same_len len m v.items w.items lb lv x y i j ex ey long in
    let j' : IsPlanes len lb lv = let P : ℕ → Type 0 = λ k. IsPlanes k lb lv in subst P e j in
    let ey' : vector_of len lb lv ≡ y = ap (λ k. vector_of k lb lv) (sym e) ∙ ey in
    let h = aligned_planes len m v.items w.items lb lv x y i j ex ey long in
    let sa : length na ≡ v.len = ap length r.values ∙ length-words4 f h ∙ sym v.ok.0 in
    let su : length nu ≡ w.len = ap length r.unknowns ∙ length-words4 g h ∙ i.value_words ∙ sym i.unknown_words ∙ sym w.ok.0 in
    let ka : (with_items v na).items ≡ words4 f v.items w.items lb lv = with_items_is v na sa ∙ r.values in
    let ku : (with_items w nu).items ≡ words4 g v.items w.items lb lv = with_items_is w nu su ∙ r.unknowns in
    let planes = kernel_planes f g t s op pf pg tells z len v.items w.items lb lv h i j' in
    let P : List ℕ → List ℕ → Type 0 = λ a u. IsPlanes len a u × (vector_of len a u ≡ bitwise op x y) in
    let whole : P (words4 f v.items w.items lb lv) (words4 g v.items w.items lb lv) =
    (planes, kernel_vector f g t s op pf pg tells len h ∙ ap (λ l. bitwise op l (vector_of len lb lv)) ex ∙ ap (bitwise op x) ey') in
    subst (λ a. P a (with_items w nu).items) (sym ka) (subst (λ u. P (words4 f v.items w.items lb lv) u) (sym ku) whole)

pub and_result : {Y : Type 0} (len m : ℕ) (v w : Vec ℕ Y) (lb lv na nu : List ℕ) (x y : List Bit4) → IsPlanes len v.items w.items → IsPlanes m lb lv → vector_of len v.items w.items ≡ x → vector_of m lb lv ≡ y → length x ≡ length y → Ran and_value and_unknown v w lb lv na nu → IsPlanes len (with_items v na).items (with_items w nu).items × (vector_of len (with_items v na).items (with_items w nu).items ≡ bitwise and4 x y)
and_result = kernel_result and_value and_unknown (λ p q r s. (p || q) && (r || s)) (λ p q r s. ((p || q) && (r || s)) && (q || s)) and4 places_and_value places_and_unknown and_bits refl

pub or_result : {Y : Type 0} (len m : ℕ) (v w : Vec ℕ Y) (lb lv na nu : List ℕ) (x y : List Bit4) → IsPlanes len v.items w.items → IsPlanes m lb lv → vector_of len v.items w.items ≡ x → vector_of m lb lv ≡ y → length x ≡ length y → Ran or_value or_unknown v w lb lv na nu → IsPlanes len (with_items v na).items (with_items w nu).items × (vector_of len (with_items v na).items (with_items w nu).items ≡ bitwise or4 x y)
or_result = kernel_result or_value or_unknown (λ p q r s. (p || q) || (r || s)) (λ p q r s. one_bit (q || s) (one_bit p q || one_bit r s)) or4 places_or_value places_or_unknown or_bits refl

pub xor_result : {Y : Type 0} (len m : ℕ) (v w : Vec ℕ Y) (lb lv na nu : List ℕ) (x y : List Bit4) → IsPlanes len v.items w.items → IsPlanes m lb lv → vector_of len v.items w.items ≡ x → vector_of m lb lv ≡ y → length x ≡ length y → Ran xor_value xor_unknown v w lb lv na nu → IsPlanes len (with_items v na).items (with_items w nu).items × (vector_of len (with_items v na).items (with_items w nu).items ≡ bitwise xor4 x y)
xor_result = kernel_result xor_value xor_unknown (λ p q r s. differ p r || (q || s)) (λ p q r s. q || s) xor4 places_xor_value places_xor_unknown xor_bits refl

pub merge_result : {Y : Type 0} (len m : ℕ) (v w : Vec ℕ Y) (lb lv na nu : List ℕ) (x y : List Bit4) → IsPlanes len v.items w.items → IsPlanes m lb lv → vector_of len v.items w.items ≡ x → vector_of m lb lv ≡ y → length x ≡ length y → Ran merge_value merge_unknown v w lb lv na nu → IsPlanes len (with_items v na).items (with_items w nu).items × (vector_of len (with_items v na).items (with_items w nu).items ≡ bitwise merge4 x y)
merge_result = kernel_result merge_value merge_unknown (λ p q r s. (p && r) || (differ p r || (q || s))) (λ p q r s. differ p r || (q || s)) merge4 places_merge_value places_merge_unknown merge_bits refl
