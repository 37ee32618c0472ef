-- `==?` and `!=?` by a helper (IEEE 1800-2017 clause 11.4.6).
use Rattle.std.specs.Prelude.{◌≡◌, ℕ, ◌<◌, Bool, true, false, List, [], ◌∷◌}
use Rattle.b4_core.specs.declared.bit.Bit4.{Bit4}
use Rattle.b4_core.specs.declared.bit.Bit4.TheVariants.{Zero, One}
use Rattle.b4_core.specs.declared.operators.EqOp.TheVariants.{Wild}
use Rattle.b4_core.specs.Bits.{or4}
use Rattle.row_machine.specs.Valuation.{Valuation}
use Rattle.sv_types.specs.Layouts.{Layout}
use Rattle.sv_types.specs.Surroundings.{Around}
use Rattle.sv_types.specs.Meanings as S
use Rattle.sv_types.specs.Operators as O
use Rattle.sv_types.specs.Operators.{both_wide, both_signed}
use Rattle.v_tree.specs.declared.names.Helper.{Helper}
use Rattle.v_tree.specs.declared.names.HelperKind.TheVariants.{WildEq}
use Rattle.v_meaning.specs.Scopes.{Scope}
use Rattle.v_meaning.specs.Values as T
use Rattle.lowering_laws.specs.Same.{Same, HasBits}
use Rattle.path_flatten.specs.Helping.{EachHelps}
use Rattle.form_lower.specs.Calls.{NamesOf, IsLong}

-- an expression in an unsigned context: the arm that a 1 chooses, beside an unsigned one
abbrev pub unsigned : T.Meaning → T.Meaning
unsigned m = T.choose (T.literal (One ∷ [])) m (T.literal (Zero ∷ []))

-- An operand of a comparison by its own sign and that of both.
abbrev pub at_sign : Bool → Bool → T.Meaning → T.Meaning
at_sign true true m = m
at_sign true false m = unsigned m
at_sign false s m = m

-- the helper for vectors of so many bits
abbrev pub matcher : ℕ → Helper
matcher w = record { kind = WildEq; width = w }

-- both operands are lowered at the width and the sign at which they are compared
pub record AreCompared (e f : S.Meaning) (m n : T.Meaning) (a : Around) (sc : Scope) (v : Valuation) : Type 0 where
  pub left : Same e (both_wide e f) (both_signed e f) a m sc v
  pub right : Same f (both_wide e f) (both_signed e f) a n sc v

-- one unsigned bit, which isn't z
pub record GivesBit (m : T.Meaning) (b : Bit4) (sc : Scope) (v : Valuation) : Type 0 where
  pub has : HasBits m (b ∷ []) sc v
  pub steady : or4 Zero b ≡ b

-- one bit that says whether two operands match
pub record IsMatch (e f : S.Meaning) (m n : T.Meaning) (hs : List Helper) (r : T.Meaning) : Type 0 where
  pub bit : (a : Around) (sc : Scope) (v : Valuation) → EachHelps hs sc → IsLong e → IsLong f → 0 < both_wide e f → AreCompared e f m n a sc v
      → GivesBit r (O.equals Wild e f a) sc v
  pub names : NamesOf (m ∷ n ∷ []) r

-- what stands for `==?`, or negated for `!=?`, wherever the text has its helpers
pub record WildEquals (negated : Bool) (e f : S.Meaning) (m n : T.Meaning) (hs : List Helper) (r : T.Meaning) : Type 0 where
  pub same : (of : Layout) (at w : ℕ) (s : Bool) (a : Around) (sc : Scope) (v : Valuation) → EachHelps hs sc → IsLong e → IsLong f → 0 < both_wide e f
      → (O.equal of at Wild negated e f).misfits ≡ 0 → AreCompared e f m n a sc v → Same (O.equal of at Wild negated e f) w s a r sc v
  pub names : NamesOf (m ∷ n ∷ []) r
