-- Where what the parts of expressions mean stands in a text.
use Rattle.std.proofs.Common.{ℕ, ◌≤◌, ◌<◌}
use Rattle.sv_tree.specs.Extents.{qualified_first}
use Rattle.expr_type.specs.Expressions.{CastMeaning, DimensionMeaning, ItemMeaning, PatternMeaning, RangeMeaning, SliceMeaning}
use Rattle.expr_type.specs.Forms.{Inside, SelectMeaning}
use Rattle.expr_type.specs.KeywordTypes.{Dim}
use Rattle.expr_type.specs.Names.{Context}
use Rattle.expr_type.specs.Operators.{Alternative, From, Only}
use Rattle.expr_type.specs.Patterns.{ByDefault, InPlace, Item, ItemKey, Named, Numbered, Parts}
use Rattle.expr_type.specs.Placed.{OperandStands, RoutinesInOrder, SelectInOrder, Stands}
use Rattle.expr_type.specs.Typings.{Typing}
use Rattle.expr_type.specs.declared.operand.Number.{Number}
use Rattle.expr_type.specs.declared.operand.Valued.{Valued}
use Rattle.order_laws.proofs.Typings.{Each, TypedAs}

abbrev pub Anything : {A : Type 0} → A → Type 0
Anything a = Unit {0}

-- a number by its first token, and a dimension by its `[`
abbrev pub NumberStands : ℕ → ℕ → Number → Type 0
NumberStands low high n = (low ≤ n.first) × (n.first < high)

abbrev pub DimStands : ℕ → ℕ → Dim → Type 0
DimStands low high d = (low ≤ d.opening) × (d.opening < high)

-- what stands behind the tick of a cast, with the tick, and the bits of a value there
abbrev pub InsideStands : ℕ → ℕ → ℕ → Inside → Type 0
InsideStands i low high j = (low ≤ j.tick) × (j.tick < high) × OperandStands i low high j.of

abbrev pub BitsStand : ℕ → ℕ → ℕ × Valued → Type 0
BitsStand low high p = (low ≤ p.0) × (p.0 < high) × Stands low high p.1

-- items of patterns with their keys
abbrev pub KeyStands : ℕ → ℕ → ItemKey → Type 0
KeyStands low high InPlace = Unit {0}
KeyStands low high ByDefault = Unit {0}
KeyStands low high (Named q) = (low ≤ qualified_first q) × (qualified_first q < high)
KeyStands low high (Numbered n) = Unit {0}

abbrev pub ItemStands : ℕ → ℕ → ℕ → Item → Type 0
ItemStands i low high x = KeyStands low high x.key × OperandStands i low high x.value

abbrev pub PartsStand : ℕ → ℕ → ℕ → Parts → Type 0
PartsStand i low high p = Each (ItemStands i) low high p.items

-- items on the right of `inside`
abbrev pub AlternativeStands : ℕ → ℕ → Alternative → Type 0
AlternativeStands low high (Only v) = Stands low high v
AlternativeStands low high (From l h) = (between : ℕ) × (low ≤ between) × (between ≤ high) × Stands low between l × Stands between high h

-- in any context
abbrev pub Means : {A : Type 0} → (ℕ → A → Type 0) → ℕ → ℕ → (Context → Typing A) → Type 0
Means P low high m = (k : Context) → RoutinesInOrder k → TypedAs (P k.source.instance) k.source.instance low high (m k)

abbrev pub CastInOrder : ℕ → ℕ → CastMeaning → Type 0
CastInOrder low high = Means (λ i. InsideStands i low high) low high

abbrev pub DimensionInOrder : ℕ → ℕ → DimensionMeaning → Type 0
DimensionInOrder low high = Means (λ i. DimStands low high) low high

abbrev pub PatternInOrder : ℕ → ℕ → PatternMeaning → Type 0
PatternInOrder low high = Means (λ i. PartsStand i low high) low high

abbrev pub ItemInOrder : ℕ → ℕ → ItemMeaning → Type 0
ItemInOrder low high = Means (λ i. ItemStands i low high) low high

abbrev pub SliceInOrder : ℕ → ℕ → SliceMeaning → Type 0
SliceInOrder low high = Means (λ i. Anything) low high

abbrev pub RangeInOrder : ℕ → ℕ → RangeMeaning → Type 0
RangeInOrder low high = Means (λ i. AlternativeStands low high) low high

-- selects, also in the place of dimensions
pub record SelectStands (low high : ℕ) (s : SelectMeaning) : Type 0 where
  pub select : SelectInOrder low high s
  pub dimension : DimensionInOrder low high s.dimension
