use Rattle.std.specs.Prelude.{◌≡◌, ℕ, List, [], ◌∷◌, Option, Some, None, Bool, true, false, slice_get, drop}
use Rattle.ll_engine.specs.declared.table.Part.{Part}
use Rattle.ll_engine.specs.declared.table.Part.TheVariants.{Term, Non, Maybe, Many, Chain}
use Rattle.ll_engine.specs.declared.table.Row.{Row}

-- the symbol that a part is, if it is one
abbrev pub terminal : Part → Option ℕ
terminal (Term a) = Some a
terminal (Non h) = None
terminal (Maybe h) = None
terminal (Many h) = None
terminal (Chain h) = None

-- the head that a part names, if it names one
abbrev pub named : Part → Option ℕ
named (Term a) = None
named (Non h) = Some h
named (Maybe h) = Some h
named (Many h) = Some h
named (Chain h) = Some h

-- optional or repeated
abbrev pub is_optional : Part → Bool
is_optional (Term a) = false
is_optional (Non h) = false
is_optional (Maybe h) = true
is_optional (Many h) = true
is_optional (Chain h) = true

-- repeated
abbrev pub is_repeated : Part → Bool
is_repeated (Term a) = false
is_repeated (Non h) = false
is_repeated (Maybe h) = false
is_repeated (Many h) = true
is_repeated (Chain h) = true

-- row `i` of the table, an alternative of the head `h`
pub record IsRowOf (t : List Row) (h i : ℕ) (row : Row) : Type 0 where
  pub is_there : slice_get t i ≡ Some row
  pub is_of : row.head ≡ h

-- the part `n` of a row is `p`, and `ps` are those behind it
pub record HasPart (parts : List Part) (n : ℕ) (p : Part) (ps : List Part) : Type 0 where
  pub cut : drop n parts ≡ p ∷ ps

-- Each of the parts may be left out: it is optional, or repeated, or its head can be empty.
pub data IsBlank (t : List Row) : List Part → Type 0 where
  nothing : IsBlank t []
  skipped : {p : Part} {ps : List Part} → is_optional p ≡ true → IsBlank t ps → IsBlank t (p ∷ ps)
  empty : {p : Part} {ps : List Part} {h i : ℕ} {row : Row}
      → named p ≡ Some h → IsRowOf t h i row → IsBlank t row.parts → IsBlank t ps → IsBlank t (p ∷ ps)

-- The symbol can be the first of what the parts read.
pub data Begins (t : List Row) : List Part → ℕ → Type 0 where
  itself : {p : Part} {ps : List Part} {a : ℕ} → terminal p ≡ Some a → Begins t (p ∷ ps) a
  inside : {p : Part} {ps : List Part} {a h i : ℕ} {row : Row}
      → named p ≡ Some h → IsRowOf t h i row → Begins t row.parts a → Begins t (p ∷ ps) a
  behind : {p : Part} {ps : List Part} {a : ℕ}
      → IsBlank t (p ∷ []) → Begins t ps a → Begins t (p ∷ ps) a

-- The parts have a finite text.
pub data HasText (t : List Row) : List Part → Type 0 where
  nothing : HasText t []
  symbol : {p : Part} {ps : List Part} {a : ℕ} → terminal p ≡ Some a → HasText t ps → HasText t (p ∷ ps)
  skipped : {p : Part} {ps : List Part} → is_optional p ≡ true → HasText t ps → HasText t (p ∷ ps)
  row : {p : Part} {ps : List Part} {h i : ℕ} {row : Row}
      → named p ≡ Some h → IsRowOf t h i row → HasText t row.parts → HasText t ps → HasText t (p ∷ ps)

-- The token begins the parts; nothing begins at the end of a text, where there is no token.
abbrev pub IsBegun : List Row → List Part → Option ℕ → Type 0
IsBegun t ps None = ⊥
IsBegun t ps (Some a) = Begins t ps a
