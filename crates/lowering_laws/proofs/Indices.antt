-- A lowered index as a signed number.
use Rattle.std.proofs.Common.{◌≡◌, ℕ, ◌+◌, ◌≤◌, Bool, true, false, cond, length, [], ◌∷◌, ◌++◌, Some, None, arith, sym, ◌∙◌, ap, length-append}
use Rattle.b4_core.specs.declared.bit.Bit4.TheVariants.{Zero}
use Rattle.b4_core.specs.Vectors.{known, snum, number}
use Rattle.row_machine.specs.Valuation.{Valuation}
use Rattle.sv_types.specs.Surroundings.{Around}
use Rattle.sv_types.specs.Meanings as S
use Rattle.sv_types.specs.Paths as P
use Rattle.v_meaning.specs.Scopes.{Scope}
use Rattle.v_meaning.specs.Values as T
use Rattle.lowering_laws.specs.Same.{SameAlone}
use Rattle.lowering_laws.proofs.AnyRank.{IsIndex}
use Rattle.lowering_laws.proofs.Contexts.{alone-width, alone-value}
use Rattle.lowering_laws.proofs.Extensions.{ext-at}
use Rattle.lowering_laws.proofs.SignedNumbers.{snum-by-zero, known-zero-above}

pub index-there : (i : S.Meaning) (a : Around) (s : Bool) → S.signed i ≡ s → known (S.alone i a) ≡ true → P.index_of i a ≡ Some (number s (S.alone i a))
index-there i a s sign k =
    ap (λ b. cond b (Some (number (S.signed i) (S.alone i a))) None) k ∙ ap (λ t. Some (number t (S.alone i a))) sign

pub index-lost : (i : S.Meaning) (a : Around) → known (S.alone i a) ≡ false → P.index_of i a ≡ None
index-lost i a k = ap (λ b. cond b (Some (number (S.signed i) (S.alone i a))) None) k

module _ (i : S.Meaning) (a : Around) (y : T.Meaning) (w : ℕ) (sc : Scope) (v : Valuation)
    (long : length (S.alone i a) ≡ S.wide i) (same : SameAlone i a y sc v) where
  -- a signed index is one as it is
  pub signed-index : S.signed i ≡ true → S.wide i ≤ w → IsIndex (P.index_of i a) y w sc v
  signed-index sign narrow =
      let width = alone-width i a y sc v same in
      let bits = alone-value i a y sc v same in
      record {
        width = omega arith;
        long = (let l = ap length bits ∙ long in omega arith);
        there = λ k. index-there i a true sign (sym (ap known bits) ∙ k) ∙ sym (ap (λ u. Some (snum u)) bits);
        lost = λ k. index-lost i a (sym (ap known bits) ∙ k);
      }

  -- an unsigned index has a 0 put above it
  abbrev pub above_it : T.Meaning
  above_it = T.concatenation (T.literal (Zero ∷ []) ∷ y ∷ [])

  above-shape : (above_it.width sc ≡ S.wide i + 1) × (T.alone above_it sc v ≡ S.alone i a ++ Zero ∷ [])
  unfolding T.concatenation T.literal
  above-shape =
      let width = alone-width i a y sc v same in
      let bits = alone-value i a y sc v same in
      (omega arith, ext-at (0 + y.width sc + 1) false ((T.alone y sc v) ++ Zero ∷ []) (length-append (T.alone y sc v) (Zero ∷ []) ∙ omega (arith, ap length bits ∙ long)) ∙ ap (λ u. u ++ Zero ∷ []) bits)

  pub unsigned-index : S.signed i ≡ false → S.wide i + 1 ≤ w → IsIndex (P.index_of i a) above_it w sc v
  unsigned-index sign narrow =
      let width = above-shape.0 in
      let bits = above-shape.1 in
      record {
        width = omega arith;
        long = (let l = ap length bits ∙ length-append (S.alone i a) (Zero ∷ []) in omega arith);
        there = λ k. index-there i a false sign (sym (known-zero-above (S.alone i a)) ∙ sym (ap known bits) ∙ k) ∙ sym (ap Some (ap snum bits ∙ snum-by-zero (S.alone i a)));
        lost = λ k. index-lost i a (sym (known-zero-above (S.alone i a)) ∙ sym (ap known bits) ∙ k);
      }
