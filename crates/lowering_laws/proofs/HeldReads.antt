-- Reads of what is stored as its type stores it, which need no conversion.
use Rattle.std.proofs.Common.{◌≡◌, ℕ, ◌+◌, ◌≤◌, max, Bool, true, false, ◌&&◌, [], ◌∷◌, Some, None, refl, arith, sym, ◌∙◌, ap}
use Rattle.b4_core.specs.declared.bit.Bit4.{Bit4}
use Rattle.b4_core.specs.declared.bit.Bit4.TheVariants.{Zero, One, X, Z}
use Rattle.b4_core.specs.declared.operators.EqOp.TheVariants.{Case}
use Rattle.b4_core.specs.Bits.{is_one}
use Rattle.b4_core.specs.Bitwise.{truth_of}
use Rattle.b4_core.specs.Vectors.{ext}
use Rattle.b4_core.specs.Compare.{equality}
use Rattle.row_machine.specs.Valuation.{Valuation}
use Rattle.sv_types.specs.Layouts.{default_bits}
use Rattle.sv_types.specs.Surroundings.{Around}
use Rattle.sv_types.specs.Meanings as S
use Rattle.sv_types.proofs.Stored.{length-default_bits}
use Rattle.v_meaning.specs.Scopes.{Scope}
use Rattle.v_meaning.specs.Values as T
use Rattle.lowering_laws.specs.Same.{Same, HasBits}
use Rattle.lowering_laws.specs.Held.{IsHeld}
use Rattle.lowering_laws.specs.Images.{Names}
use Rattle.lowering_laws.specs.Placed.{holds}
use Rattle.lowering_laws.specs.Reached.{IsRead}
use Rattle.lowering_laws.proofs.Constants.{resigned-same}
use Rattle.lowering_laws.proofs.Extensions.{ext-at}
use Rattle.lowering_laws.proofs.Held.{held-there, held-none}
use Rattle.lowering_laws.proofs.Paths.{IsPath, path-alone, path-itself}
use Rattle.lowering_laws.proofs.ReadAt.{choice-alone}

-- A condition that is 1 where the guard is 1, and 0 wherever it isn't, also where the guard is x.
pub record IsExact (g : T.Meaning) (h : T.Meaning) (sc : Scope) (v : Valuation) : Type 0 where
  pub yes : holds (Some g) sc v ≡ true → T.truth h sc v ≡ One
  pub no : holds (Some g) sc v ≡ false → T.truth h sc v ≡ Zero

-- `g === 1'b1`, of one bit
abbrev pub exactly : T.Meaning → T.Meaning
exactly g = T.equal Case g (T.literal (One ∷ []))

exact-bit : (b : Bit4) → (is_one (truth_of (b ∷ [])) ≡ true → truth_of (ext 1 false (equality Case (b ∷ []) (One ∷ []) ∷ [])) ≡ One)
    × (is_one (truth_of (b ∷ [])) ≡ false → truth_of (ext 1 false (equality Case (b ∷ []) (One ∷ []) ∷ [])) ≡ Zero)
exact-bit Zero = (λ h. cc, λ h. refl)
exact-bit One = (λ h. refl, λ h. cc)
exact-bit X = (λ h. cc, λ h. refl)
exact-bit Z = (λ h. cc, λ h. refl)

pub exactly-is : (g : T.Meaning) (b : Bit4) (sc : Scope) (v : Valuation) → g.width sc ≡ 1 → g.signed ≡ false → T.alone g sc v ≡ b ∷ [] → IsExact g (exactly g) sc v
unfolding T.equal T.literal
exactly-is g b sc v width unsigned is =
    let larger : max (g.width sc) 1 ≡ 1 = omega arith in
    let sign : (g.signed && false) ≡ false = ap (λ s. s && false) unsigned in
    let value : g.value 1 false sc v ≡ b ∷ [] = sym (λ i. g.value (width i) (unsigned i) sc v) ∙ is in
    let whole : T.truth (exactly g) sc v ≡ truth_of (ext 1 false (equality Case (b ∷ []) (One ∷ []) ∷ [])) =
    (λ i. truth_of (ext 1 false (equality Case (g.value (larger i) (sign i) sc v) (ext (larger i) (sign i) (One ∷ [])) ∷ [])))
    ∙ (λ i. truth_of (ext 1 false (equality Case (value i) (ext-at 1 false (One ∷ []) refl i) ∷ []))) in
    let truth : holds (Some g) sc v ≡ is_one (truth_of (b ∷ [])) = ap (λ u. is_one (truth_of u)) is in
    record {
      yes = λ h. whole ∙ (exact-bit b).0 (sym truth ∙ h);
      no = λ h. whole ∙ (exact-bit b).1 (sym truth ∙ h);
    }

module _ (e : S.Meaning) (a : Around) (m : T.Meaning) (sc : Scope) (v : Valuation) (path : IsPath e a) (held : IsHeld e a) where
  -- All bits in range: the bare name.
  pub held-same : (low w : ℕ) → IsRead e a None m sc v → Names e a low w → low + S.wide e ≤ w
      → (context : ℕ) (s : Bool) → Same e context s a (T.signing (S.signed e) m) sc v
  held-same low w read names fits context s =
      resigned-same e context s a m sc v (path-itself e a path) read.width
      (read.yes refl ∙ sym (held-there e a low w held names fits) ∙ sym (path-alone e a path))

  -- All in range where a guard holds, and none elsewhere: under an exact guard, and the default where it isn't 1.
  module _ (g h d : T.Meaning) (w : ℕ) (exact : IsExact g h sc v) (read : IsRead e a (Some g) m sc v)
      (there : holds (Some g) sc v ≡ true → (low : ℕ) × Names e a low w × (low + S.wide e ≤ w)) (default : HasBits d (default_bits e.of.two_state) sc v) where
    by-guard : (b : Bool) → holds (Some g) sc v ≡ b → T.chosen (T.truth h sc v) (T.alone m sc v) (default_bits e.of.two_state) ≡ S.alone e a
    by-guard true is =
        let place = there is in
        ap (λ t. T.chosen t (T.alone m sc v) (default_bits e.of.two_state)) (exact.yes is)
        ∙ read.yes is ∙ sym (held-there e a place.0 w held place.1 place.2) ∙ sym (path-alone e a path)
    by-guard false is =
        ap (λ t. T.chosen t (T.alone m sc v) (default_bits e.of.two_state)) (exact.no is) ∙ sym (held-none e a (read.no is)) ∙ sym (path-alone e a path)

    pub held-or-default : (context : ℕ) (s : Bool) → Same e context s a (T.signing (S.signed e) (T.choose h m d)) sc v
    held-or-default context s =
        let choice = choice-alone h m d (default_bits e.of.two_state) (S.wide e) sc v read.width read.unsigned default (length-default_bits e.of.two_state) in
        resigned-same e context s a (T.choose h m d) sc v (path-itself e a path) choice.0 (choice.1 ∙ by-guard (holds (Some g) sc v) refl)
