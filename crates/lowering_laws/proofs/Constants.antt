-- Numbers stand for literals, fills and constants, and a sign for what has its own width.
use Rattle.std.proofs.Common.{◌≡◌, ℕ, zero, suc, ◌≤◌, max, Bool, true, false, length, replicate, List, refl, arith, sym, ◌∙◌, ap}
use Rattle.b4_core.specs.declared.bit.Bit4.{Bit4}
use Rattle.b4_core.specs.Vectors.{ext}
use Rattle.row_machine.specs.Valuation.{Valuation}
use Rattle.sv_types.specs.declared.types.Value.{Value}
use Rattle.sv_types.specs.Values.{bits}
use Rattle.sv_types.specs.Layouts.{Layout}
use Rattle.sv_types.specs.Surroundings.{Around}
use Rattle.sv_types.specs.Meanings as S
use Rattle.sv_types.specs.Operators as O
use Rattle.sv_types.proofs.OperatorLengths.{length-ext}
use Rattle.v_meaning.specs.Scopes.{Scope}
use Rattle.v_meaning.specs.Values as T
use Rattle.lowering_laws.specs.Same.{Same, SameAlone, HasBits}
use Rattle.lowering_laws.proofs.Contexts.{typed, alone-width, alone-value}
use Rattle.lowering_laws.proofs.Extensions.{ext-at, ext-larger}

-- Whatever its context, it has its own bits, extended by the sign of the context.
abbrev pub IsItself : S.Meaning → Around → Type 0
IsItself e a = (w : ℕ) (s : Bool) → e.value w s a ≡ ext w s (S.alone e a)

-- such a thing stands as one with a sign of its own
pub signing-same : (e : S.Meaning) (w : ℕ) (s : Bool) (a : Around) (m : T.Meaning) (sc : Scope) (v : Valuation)
    → IsItself e a → SameAlone e a m sc v → Same e w s a (T.signing (S.signed e) m) sc v
unfolding T.signing
signing-same e w s a m sc v itself h =
    let width = alone-width e a m sc v h in
    record {
      least = omega arith;
      most = omega arith;
      sign = refl;
      value = ap (ext w s) (alone-value e a m sc v h) ∙ sym (itself w s);
    }

-- so does what has its width and bits, but another sign
pub resigned-same : (e : S.Meaning) (w : ℕ) (s : Bool) (a : Around) (m : T.Meaning) (sc : Scope) (v : Valuation)
    → IsItself e a → m.width sc ≡ S.wide e → T.alone m sc v ≡ S.alone e a → Same e w s a (T.signing (S.signed e) m) sc v
unfolding T.signing
resigned-same e w s a m sc v itself width is = record {
  least = omega arith;
  most = omega arith;
  sign = refl;
  value = ap (ext w s) is ∙ sym (itself w s);
}

-- what has these bits
pub bits-alone : (m : T.Meaning) (c : List Bit4) (sc : Scope) (v : Valuation) → HasBits m c sc v → T.alone m sc v ≡ c
bits-alone m c sc v h = h.value (m.width sc) m.signed ∙ (λ i. ext (h.width i) (h.unsigned i) c) ∙ ext-at (length c) false c refl

module _ (e : S.Meaning) (c : List Bit4) (w : ℕ) (s : Bool) (a : Around) (m : T.Meaning) (sc : Scope) (v : Valuation) (has : HasBits m c sc v)
    (least : S.wide e ≤ length c) (most : length c ≤ max w (S.wide e)) (value : ext w s c ≡ e.value w s a) where
  pub number-same : S.signed e ≡ false → Same e w s a m sc v
  number-same unsigned =
      let width = has.width in
      record { least = omega arith; most = omega arith; sign = has.unsigned ∙ sym unsigned; value = has.value w s ∙ value }

  pub signed-same : Same e w s a (T.signing (S.signed e) m) sc v
  unfolding T.signing
  signed-same =
      let width = has.width in
      record { least = omega arith; most = omega arith; sign = refl; value = ap (ext w s) (bits-alone m c sc v has) ∙ value }

-- a literal whose first digit doesn't go on
pub literal-same : (of : Layout) (at : ℕ) (c : List Bit4) (w : ℕ) (s : Bool) (a : Around) (m : T.Meaning) (sc : Scope) (v : Valuation)
    → (O.literal of at false c).misfits ≡ 0 → HasBits m c sc v → Same (O.literal of at false c) w s a (T.signing of.signed m) sc v
unfolding O.literal
literal-same of at c w s a m sc v fits has =
    let t = typed of (length c) of.signed _ fits in
    let width = t.width in
    signed-same (O.literal of at false c) c w s a m sc v has (omega arith) (omega arith) refl

-- one whose first digit goes on is as wide as the context
pub going-on-same : (of : Layout) (at : ℕ) (c : List Bit4) (w : ℕ) (s : Bool) (a : Around) (m : T.Meaning) (sc : Scope) (v : Valuation)
    → (O.literal of at true c).misfits ≡ 0 → HasBits m (ext (max w (length c)) true c) sc v → Same (O.literal of at true c) w s a (T.signing of.signed m) sc v
unfolding O.literal
going-on-same of at c w s a m sc v fits has =
    let t = typed of (length c) of.signed _ fits in
    let width = t.width in
    let long = length-ext (max w (length c)) true c in
    signed-same (O.literal of at true c) (ext (max w (length c)) true c) w s a m sc v has (omega arith) (omega arith) (ext-larger w s true c)

pub length-fill : (n : ℕ) (b : Bit4) → length (replicate n b) ≡ n
length-fill zero b = refl
length-fill (suc n) b = ap suc (length-fill n b)

-- `'0` and the like are as wide as the context, which has a bit
pub fill-same : (of : Layout) (at : ℕ) (b : Bit4) (w : ℕ) (s : Bool) (a : Around) (m : T.Meaning) (sc : Scope) (v : Valuation)
    → (O.fill of at b).misfits ≡ 0 → 1 ≤ w → HasBits m (replicate w b) sc v → Same (O.fill of at b) w s a m sc v
unfolding O.fill
fill-same of at b w s a m sc v fits some has =
    let t = typed of 1 false _ fits in
    let width = t.width in
    let long = length-fill w b in
    number-same (O.fill of at b) (replicate w b) w s a m sc v has (omega arith) (omega arith) (ext-at w s (replicate w b) long) t.sign

pub constant-same : (of : Layout) (at : ℕ) (x : Value) (w : ℕ) (s : Bool) (a : Around) (m : T.Meaning) (sc : Scope) (v : Valuation)
    → (O.constant of at x).misfits ≡ 0 → HasBits m (bits x) sc v → Same (O.constant of at x) w s a (T.signing of.signed m) sc v
unfolding O.constant
constant-same of at x w s a m sc v fits has =
    let t = typed of (length (bits x)) of.signed _ fits in
    let width = t.width in
    signed-same (O.constant of at x) (bits x) w s a m sc v has (omega arith) (omega arith) refl
