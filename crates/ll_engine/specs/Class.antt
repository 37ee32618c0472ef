use Rattle.std.specs.Prelude.{◌≡◌, ◌<◌, ℕ, List, [], ◌∷◌, Option, Some, None, true, length}
use Rattle.ll_engine.specs.declared.table.Part.{Part}
use Rattle.ll_engine.specs.declared.table.Part.TheVariants.{Non}
use Rattle.ll_engine.specs.declared.table.Row.{Row}
use Rattle.ll_engine.specs.Grammar.{terminal, named, is_repeated, HasPart, IsRowOf, IsBlank, Begins, HasText}

-- The symbol is the first of what the parts read where each part that may be left out is left out.
pub data Leads (t : List Row) : List Part → ℕ → Type 0 where
  itself : {p : Part} {ps : List Part} {a : ℕ} → terminal p ≡ Some a → Leads t (p ∷ ps) a
  inside : {p : Part} {ps : List Part} {a h i : ℕ} {row : Row}
      → named p ≡ Some h → (IsBlank t (p ∷ []) → ⊥) → IsRowOf t h i row → Leads t row.parts a
      → Leads t (p ∷ ps) a
  behind : {p : Part} {ps : List Part} {a : ℕ}
      → IsBlank t (p ∷ []) → Leads t ps a → Leads t (p ∷ ps) a

-- The token can come directly behind the head, where each part behind the head that may be left out is
-- left out. Behind the head of the first row comes the end, which is `None`.
pub data Follows (t : List Row) : ℕ → Option ℕ → Type 0 where
  at_end : {h : ℕ} {row : Row} → IsRowOf t h 0 row → Follows t h None
  before : {h g i n a : ℕ} {row : Row} {p : Part} {ps : List Part}
      → IsRowOf t g i row → HasPart row.parts n p ps → named p ≡ Some h → Leads t ps a
      → Follows t h (Some a)
  last : {h g i n : ℕ} {x : Option ℕ} {row : Row} {p : Part} {ps : List Part}
      → IsRowOf t g i row → HasPart row.parts n p ps → named p ≡ Some h → IsBlank t ps
      → Follows t g x → Follows t h x

-- The token can come directly where the parts `ps` are left of a row and the tokens of `After` can come
-- behind the row, likewise.
pub data ComesAt (t : List Row) (After : Option ℕ → Type 0) (ps : List Part) : Option ℕ → Type 0 where
  here : {a : ℕ} → Leads t ps a → ComesAt t After ps (Some a)
  later : {x : Option ℕ} → IsBlank t ps → After x → ComesAt t After ps x

-- A part names the head, and each part before it may be left out.
pub data StartsWith (t : List Row) : List Part → ℕ → Type 0 where
  first : {p : Part} {ps : List Part} {h : ℕ} → named p ≡ Some h → StartsWith t (p ∷ ps) h
  behind : {p : Part} {ps : List Part} {h : ℕ}
      → IsBlank t (p ∷ []) → StartsWith t ps h → StartsWith t (p ∷ ps) h

-- What the first head reads can start with the second head, one or more rows further down.
pub data LeadsTo (t : List Row) : ℕ → ℕ → Type 0 where
  directly : {h g i : ℕ} {row : Row} → IsRowOf t h i row → StartsWith t row.parts g → LeadsTo t h g
  through : {h m g i : ℕ} {row : Row}
      → IsRowOf t h i row → StartsWith t row.parts m → LeadsTo t m g → LeadsTo t h g

-- Neither the row's head nor one of its parts breaks the class.
pub record Keeps (t : List Row) (row : Row) : Type 0 where
  -- the alternatives of the head begin with different symbols
  pub one_begins : (i j a : ℕ) (r s : Row) → IsRowOf t row.head i r → IsRowOf t row.head j s
      → Begins t r.parts a → Begins t s.parts a → i ≡ j
  -- and at most one of them can be empty
  pub one_blank : (i j : ℕ) (r s : Row) → IsRowOf t row.head i r → IsRowOf t row.head j s
      → IsBlank t r.parts → IsBlank t s.parts → i ≡ j
  -- a repeated part is never empty
  pub repeats : (n h : ℕ) (p : Part) (ps : List Part) → HasPart row.parts n p ps
      → is_repeated p ≡ true → named p ≡ Some h → IsBlank t (Non h ∷ []) → ⊥
  -- the head is not left recursive
  pub not_left_recursive : LeadsTo t row.head row.head → ⊥
  -- the head has a finite text
  pub has_text : HasText t (Non row.head ∷ [])
  -- so does each head that a part names: it heads a row
  pub known : (n h : ℕ) (p : Part) (ps : List Part) → HasPart row.parts n p ps
      → named p ≡ Some h → (i : ℕ) × (r : Row) × IsRowOf t h i r
  -- a part may be left out, and the parts behind it are left out that may be: then no symbol that
  -- begins the part comes directly behind it
  pub decided : (n a : ℕ) (p : Part) (ps : List Part) → HasPart row.parts n p ps
      → IsBlank t (p ∷ []) → Begins t (p ∷ []) a → ComesAt t (Follows t row.head) ps (Some a) → ⊥

-- The class of tables that are read with one symbol of look-ahead.
pub record IsFit (t : List Row) : Type 0 where
  pub has_rows : 0 < length t
  pub keeps : (i h : ℕ) (row : Row) → IsRowOf t h i row → Keeps t row

-- The row `at` is the first that breaks the class, or 0 in a table without rows.
pub data BreaksAt (t : List Row) (at : ℕ) : Type 0 where
  no_rows : length t ≡ 0 → at ≡ 0 → BreaksAt t at
  at_row : {h : ℕ} {row : Row} → IsRowOf t h at row → (Keeps t row → ⊥)
      → ((i g : ℕ) (r : Row) → i < at → IsRowOf t g i r → Keeps t r) → BreaksAt t at
