-- Where what expressions and types mean stands in a text.
use Rattle.std.specs.Prelude.{ℕ, ◌≤◌, ◌<◌, List, [], ◌∷◌, Option, Some, None, Ok, Err}
use Rattle.sv_tree.specs.declared.names.QualifiedName.{QualifiedName}
use Rattle.sv_tree.specs.Extents.{qualified_first}
use Rattle.sv_types.specs.declared.statement.Function.{Function}
use Rattle.sv_types.specs.declared.types.SvType.{SvType}
use Rattle.expr_type.specs.declared.operand.Valued.{Valued}
use Rattle.expr_type.specs.Breaks.{Within}
use Rattle.expr_type.specs.Expressions.{Meaning}
use Rattle.expr_type.specs.KeywordTypes.{Dim}
use Rattle.expr_type.specs.Names.{Context}
use Rattle.expr_type.specs.Placed.{InOrder, PlacedTyping, RoutinesInOrder, StandsTyping}
use Rattle.expr_type.specs.Typings.{Checked, Typing}

-- as a type or as a target, if it is one
abbrev pub TypeIf : ℕ → ℕ → ℕ → Option (Typing SvType) → Type 0
TypeIf i low high None = Unit {0}
TypeIf i low high (Some t) = PlacedTyping i low high t

abbrev pub TargetIf : ℕ → ℕ → ℕ → Option (Typing Valued) → Type 0
TargetIf i low high None = Unit {0}
TargetIf i low high (Some t) = StandsTyping i low high t

-- a name alone
abbrev pub AloneIf : ℕ → ℕ → Option QualifiedName → Type 0
AloneIf low high None = Unit {0}
AloneIf low high (Some q) = (low ≤ qualified_first q) × (qualified_first q < high)

-- an expression as a value, as a type, as a target and as a name alone
pub record ExprInOrder (low high : ℕ) (e : Meaning) : Type 0 where
  pub typed : InOrder low high e
  pub as_type : (k : Context) → RoutinesInOrder k → TypeIf k.source.instance low high (e.as_type k)
  pub as_target : (k : Context) → RoutinesInOrder k → TargetIf k.source.instance low high (e.as_target k)
  pub alone : AloneIf low high e.alone

-- dimensions, of which the first may be where one under a type is broken
abbrev pub DimsStand : ℕ → ℕ → List Dim → Type 0
DimsStand low high [] = Unit {0}
DimsStand low high (d ∷ ds) = (low ≤ d.opening) × (d.opening < high)

abbrev pub DimsIf : ℕ → ℕ → ℕ → Checked (List Dim) → Type 0
DimsIf i low high (Ok ds) = DimsStand low high ds
DimsIf i low high (Err b) = Within b i low high

abbrev pub DimsTyping : ℕ → ℕ → ℕ → Typing (List Dim) → Type 0
DimsTyping i low high x = (fs : List Function) → DimsIf i low high (x fs).result
