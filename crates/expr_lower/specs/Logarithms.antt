-- `$clog2` by comparisons with powers of two (IEEE 1800-2017 clause 20.8.1).
use Rattle.std.specs.Prelude.{◌≡◌, ℕ, ◌^◌, nat_le, true, false, pos, List, [], ◌∷◌, length}
use Rattle.b4_core.specs.declared.bit.Bit4.{Bit4}
use Rattle.b4_core.specs.declared.bit.Bit4.TheVariants.{Zero, One, X}
use Rattle.b4_core.specs.declared.operators.EqOp.TheVariants.{Logic, Case}
use Rattle.b4_core.specs.declared.operators.OrdOp.TheVariants.{LessEqual}
use Rattle.b4_core.specs.declared.operators.RedOp.TheVariants.{Xor}
use Rattle.b4_core.specs.declared.operators.ShiftOp.TheVariants.{Left, Right}
use Rattle.b4_core.specs.Bits.{bit_of}
use Rattle.b4_core.specs.Vectors.{known, num, digits, vec}
use Rattle.row_machine.specs.Valuation.{Valuation, Member}
use Rattle.sv_types.specs.Operators.{log_from, clog2_of}
use Rattle.v_meaning.specs.Scopes.{Scope}
use Rattle.v_meaning.specs.Values as T
use Rattle.lowering_laws.specs.Same.{HasBits}
use Rattle.path_flatten.specs.Naming.{SameNumbers}

-- a power of two
abbrev pub power : ℕ → T.Meaning
power k = T.shift Left (T.literal (One ∷ [])) (T.literal (digits 32 k))

-- whether an operand is at most this power, by order
abbrev pub at_most_power : T.Meaning → ℕ → T.Meaning
at_most_power y k = T.order LessEqual y (power k)

-- and without: whether it is below the power, or the power itself
abbrev pub below_power : T.Meaning → ℕ → T.Meaning
below_power y k = T.equal Logic (T.shift Right y (T.literal (digits 32 k))) (T.literal (Zero ∷ []))

abbrev pub equals_power : T.Meaning → ℕ → T.Meaning
equals_power y k = T.equal Logic y (power k)

-- whether a bit is x or z
abbrev pub lost : T.Meaning → T.Meaning
lost y = T.equal Case (T.reduce Xor y) (T.literal (X ∷ []))

-- A bit that says whether a known operand of w bits is at most the k-th power of two. It names at most what the operand names.
pub record IsAtMost (y : T.Meaning) (w k : ℕ) (r : T.Meaning) : Type 0 where
  pub test : (c : List Bit4) (sc : Scope) (v : Valuation) → HasBits y c sc v → length c ≡ w → known c ≡ true → T.truth r sc v ≡ bit_of (nat_le (num c) (2 ^ k))
  pub names : (sc : Scope) (q : ℕ) → Member (r.names sc) q → Member (y.names sc) q

-- The first power from the k-th on that a known operand isn't above, n of them and then the next one. It names at most what
-- the operand names.
pub record LogSteps (y : T.Meaning) (w n k : ℕ) (r : T.Meaning) : Type 0 where
  pub bits : (c : List Bit4) (sc : Scope) (v : Valuation) → HasBits y c sc v → length c ≡ w → known c ≡ true → HasBits r (vec 32 (pos (log_from n k (num c)))) sc v
  pub width : (sc : Scope) → r.width sc ≡ 32
  pub unsigned : r.signed ≡ false
  pub names : (sc : Scope) (q : ℕ) → Member (r.names sc) q → Member (y.names sc) q

-- `$clog2` of an operand of w bits
pub record IsLogarithm (y : T.Meaning) (w : ℕ) (r : T.Meaning) : Type 0 where
  pub bits : (c : List Bit4) (sc : Scope) (v : Valuation) → HasBits y c sc v → length c ≡ w → HasBits r (clog2_of c) sc v
  pub names : (sc : Scope) → SameNumbers (y.names sc) (r.names sc)
