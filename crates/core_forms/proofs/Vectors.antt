-- Vectors of four-state bits.
use Rattle.std.proofs.Common.{◌≡◌, ℕ, zero, suc, ◌+◌, ◌-◌, ◌==◌, ◌≤◌, min, Bool, true, false, pos, List, [], ◌∷◌, ◌++◌, length, replicate, refl, sym, ap, subst, ◌∙◌, arith}
use Rattle.std.specs.Prelude.{if◌then◌else◌}
use Rattle.std.proofs.lemmas.Bool.{eqb-true}
use Rattle.sv_types.specs.declared.types.SvType.{SvType}
use Rattle.sv_types.specs.declared.types.SvType.TheVariants.{PackedArray}
use Rattle.sv_types.specs.Layouts.{Layout, layout, width_of, repeated, stacked, count_of}
use Rattle.sv_types.proofs.Lengths.{layout-Scalar, layout-PackedArray}
use Rattle.core_forms.specs.Typed.{bit_type, vector_of}
use Rattle.core_forms.specs.Typing.{IsVector}
use Rattle.core_forms.proofs.Expressions.{length-alike}

one-more : (n : ℕ) → replicate n false ++ false ∷ [] ≡ replicate (suc n) false
one-more zero = refl
one-more (suc n) = ap (λ bs. false ∷ bs) (one-more n)

elements : (n : ℕ) → repeated n (false ∷ []) ≡ replicate n false
unfolding repeated
elements zero = refl
elements (suc n) = ap (λ bs. bs ++ false ∷ []) (elements n) ∙ one-more n

bit-is : IsVector bit_type 1
bit-is = record { four_state = ap (λ (l : Layout). l.two_state) (layout-Scalar true false); unsigned = ap (λ (l : Layout). l.signed) (layout-Scalar true false) }

array-is : (n : ℕ) → IsVector (PackedArray (pos n) (pos 0) false bit_type) (n + 1)
array-is n =
    let count : count_of (pos n) (pos 0) ≡ n + 1 = omega arith in
    record {
      four_state =
          ap (λ (l : Layout). l.two_state) (layout-PackedArray (pos n) (pos 0) false bit_type)
          ∙ (λ i. repeated (count i) (bit-is.four_state i))
          ∙ elements (n + 1);
      unsigned = ap (λ (l : Layout). l.signed) (layout-PackedArray (pos n) (pos 0) false bit_type);
    }

-- a vector of 1 to 2^22 bits has as many
pub vector-is : (w : ℕ) → 1 ≤ w → w ≤ 4194304 → IsVector (vector_of w) w
vector-is w some few = by_bit (w == 1) refl
  where
    by_bit : (b : Bool) → (w == 1) ≡ b → IsVector (if b then bit_type else PackedArray (pos (min w 4194304 - 1)) (pos 0) false bit_type) w
    by_bit true e = (let one = eqb-true w 1 e in subst (IsVector bit_type) (sym one) bit-is)
    by_bit false e =
        let bits : (min w 4194304 - 1) + 1 ≡ w = omega arith in
        subst (IsVector (PackedArray (pos (min w 4194304 - 1)) (pos 0) false bit_type)) bits (array-is (min w 4194304 - 1))

pub vector-width : (of : SvType) (w : ℕ) → IsVector of w → width_of of ≡ w
vector-width of w v = ap length v.four_state ∙ length-alike w

-- and no vector has more than 2^22
pub vector_narrow : (w : ℕ) → width_of (vector_of w) ≤ 4194304
vector_narrow w = by_bit (w == 1)
  where
    by_bit : (b : Bool) → width_of (if b then bit_type else PackedArray (pos (min w 4194304 - 1)) (pos 0) false bit_type) ≤ 4194304
    by_bit true = (let one = vector-width bit_type 1 bit-is in omega (arith, one))
    by_bit false =
        let wide = vector-width _ _ (array-is (min w 4194304 - 1)) in
        let few : (min w 4194304 - 1) + 1 ≤ 4194304 = omega arith in
        omega (arith, wide, few)
