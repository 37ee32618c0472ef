-- Numbers in pieces, signs, and which equality is exact.
use Rattle.std.specs.Prelude.{◌≡◌, ℕ, Bool, true, false, List, []}
use Rattle.b4_core.specs.declared.bit.Bit4.{Bit4}
use Rattle.b4_core.specs.declared.operators.EqOp.{EqOp}
use Rattle.b4_core.specs.declared.operators.EqOp.TheVariants.{Logic, Case, Wild}
use Rattle.b4_core.specs.Vectors.{ext}
use Rattle.row_machine.specs.Valuation.{Valuation}
use Rattle.sv_types.specs.Layouts.{stacked}
use Rattle.v_tree.specs.Names.{Name}
use Rattle.v_meaning.specs.Scopes.{Scope}
use Rattle.v_meaning.specs.Values as T
use Rattle.lowering_laws.specs.Same.{HasBits, AllHaveBits}

-- it has these bits wherever it stands, and names nothing
pub record IsNumber (m : T.Meaning) (c : List Bit4) : Type 0 where
  pub has : (sc : Scope) (v : Valuation) → HasBits m c sc v
  pub none : (sc : Scope) → m.names sc ≡ []

-- pieces of these bits, the first one most significant
pub record ArePieces (ms : List T.Meaning) (c : List Bit4) : Type 0 where
  pub pieces : List (List Bit4)
  pub all : stacked pieces ≡ c
  pub have : (sc : Scope) (v : Valuation) → AllHaveBits ms pieces sc v
  pub none : (sc : Scope) → T.all_names ms sc ≡ []

-- signed, or as it is
abbrev pub signed_as : Bool → T.Meaning → T.Meaning
signed_as true m = T.signing true m
signed_as false m = m

-- a name alone, signed or as it is
abbrev pub IsWhole : Name → Bool → T.Meaning → Type 0
IsWhole name signed m = m ≡ signed_as signed (T.reference name [])

-- the bits of a number, which go on to a width or not
abbrev pub written_bits : Bool → ℕ → List Bit4 → List Bit4
written_bits true w c = ext w true c
written_bits false w c = c

-- whether an equality is `===`; not said of `==?`
abbrev pub IsExact : EqOp → Bool → Type 0
IsExact Logic b = b ≡ false
IsExact Case b = b ≡ true
IsExact Wild b = Unit {0}
