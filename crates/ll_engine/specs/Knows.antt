use Rattle.std.specs.Prelude.{◌≡◌, ◌<◌, ℕ, List, Option, Some, None, slice_get}
use Rattle.ll_engine.specs.declared.table.Row.{Row}
use Rattle.ll_engine.specs.declared.tables.Head.{Head}
use Rattle.ll_engine.specs.Class.{IsFit, StartsWith}
use Rattle.ll_engine.specs.Grammar.{IsRowOf, IsBlank, Begins}

abbrev pub flatten : Option (Option ℕ) → Option ℕ
flatten None = None
flatten (Some x) = x

abbrev pub begun_of : ℕ → Option Head → Option ℕ
begun_of a None = None
begun_of a (Some x) = flatten (slice_get x.begun a)

abbrev pub blank_of : Option Head → Option ℕ
blank_of None = None
blank_of (Some x) = x.blank

abbrev pub rank_of : Option Head → ℕ
rank_of None = 0
rank_of (Some x) = x.rank

-- the row of the head that the symbol begins
abbrev pub row_begun : List Head → ℕ → ℕ → Option ℕ
row_begun heads h a = begun_of a (slice_get heads h)

-- the row of the head that the next token begins: none at the end
abbrev pub row_next : List Head → ℕ → Option ℕ → Option ℕ
row_next heads h None = None
row_next heads h (Some a) = row_begun heads h a

-- the row of the head that can be empty
abbrev pub row_blank : List Head → ℕ → Option ℕ
row_blank heads h = blank_of (slice_get heads h)

-- a number for each head, smaller for what its rows start with
abbrev pub rank : List Head → ℕ → ℕ
rank heads h = rank_of (slice_get heads h)

-- what is kept of each head fits the table
pub record Knows (t : List Row) (heads : List Head) : Type 0 where
  pub is_fit : IsFit t
  pub begun : (h a i : ℕ) → row_begun heads h a ≡ Some i
      → (row : Row) × IsRowOf t h i row × Begins t row.parts a
  pub not_begun : (h a i : ℕ) (row : Row) → row_begun heads h a ≡ None → IsRowOf t h i row
      → Begins t row.parts a → ⊥
  pub blank : (h i : ℕ) → row_blank heads h ≡ Some i → (row : Row) × IsRowOf t h i row × IsBlank t row.parts
  pub not_blank : (h i : ℕ) (row : Row) → row_blank heads h ≡ None → IsRowOf t h i row → IsBlank t row.parts → ⊥
  pub ranked : (h g i : ℕ) (row : Row) → IsRowOf t h i row → StartsWith t row.parts g
      → rank heads g < rank heads h
