-- Numbers of the target: as literals, in pieces, and of one bit repeated.
use Rattle.std.proofs.Common.{◌≡◌, ℕ, zero, suc, ◌+◌, ◌*◌, length, replicate, List, [], ◌∷◌, ◌++◌, refl, arith, ◌∙◌, ap, length-append}
use Rattle.b4_core.specs.declared.bit.Bit4.{Bit4}
use Rattle.b4_core.specs.Vectors.{ext}
use Rattle.row_machine.specs.Valuation.{Valuation}
use Rattle.sv_types.specs.Layouts.{stacked}
use Rattle.v_meaning.specs.Scopes.{Scope}
use Rattle.v_meaning.specs.Values as T
use Rattle.lowering_laws.specs.Same.{HasBits, AllHaveBits}
use Rattle.lowering_laws.proofs.Constants.{bits-alone, length-fill}

pub literal-bits : (c : List Bit4) (sc : Scope) (v : Valuation) → HasBits (T.literal c) c sc v
unfolding T.literal
literal-bits c sc v = record { width = refl; unsigned = refl; value = λ w s. refl }

-- pieces side by side, the first one most significant
pub pieces-width : (ms : List T.Meaning) (cs : List (List Bit4)) (sc : Scope) (v : Valuation) → AllHaveBits ms cs sc v → T.joined_width ms sc ≡ length (stacked cs)
pieces-width [] [] sc v h = refl
pieces-width [] (c ∷ cs) sc v h = absurd h
pieces-width (m ∷ ms) [] sc v h = absurd h
pieces-width (m ∷ ms) (c ∷ cs) sc v h =
    let one = h.0.width in
    let rest = pieces-width ms cs sc v h.1 in
    let all = length-append (stacked cs) c in
    omega arith

pub pieces-joined : (ms : List T.Meaning) (cs : List (List Bit4)) (sc : Scope) (v : Valuation) → AllHaveBits ms cs sc v → T.joined ms sc v ≡ stacked cs
pieces-joined [] [] sc v h = refl
pieces-joined [] (c ∷ cs) sc v h = absurd h
pieces-joined (m ∷ ms) [] sc v h = absurd h
pieces-joined (m ∷ ms) (c ∷ cs) sc v h = λ i. pieces-joined ms cs sc v h.1 i ++ bits-alone m c sc v h.0 i

pub pieces-bits : (ms : List T.Meaning) (cs : List (List Bit4)) (sc : Scope) (v : Valuation) → AllHaveBits ms cs sc v → HasBits (T.concatenation ms) (stacked cs) sc v
unfolding T.concatenation
pieces-bits ms cs sc v h = record {
  width = pieces-width ms cs sc v h;
  unsigned = refl;
  value = λ w s. ap (ext w s) (pieces-joined ms cs sc v h);
}

-- one bit so often
often-bit : (n : ℕ) (b : Bit4) → T.often n (b ∷ []) ≡ replicate n b
often-bit zero b = refl
often-bit (suc n) b = ap (λ bs. b ∷ bs) (often-bit n b)

pub fill-bits : (n : ℕ) (b : Bit4) (m : T.Meaning) (sc : Scope) (v : Valuation) → HasBits m (b ∷ []) sc v → HasBits (T.repetition n (m ∷ [])) (replicate n b) sc v
unfolding T.repetition
fill-bits n b m sc v h =
    let one = h.width in
    let width : m.width sc ≡ 1 = one in
    let times : n * (0 + m.width sc) ≡ n * 1 = ap (λ k. n * (0 + k)) width in
    let long = length-fill n b in
    record {
      width = omega arith;
      unsigned = refl;
      value = λ w s. ap (λ x. ext w s (T.often n x)) (bits-alone m (b ∷ []) sc v h) ∙ ap (ext w s) (often-bit n b);
    }
