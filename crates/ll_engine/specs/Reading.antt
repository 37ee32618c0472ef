use Rattle.std.specs.Prelude.{◌≡◌, ℕ, suc, List, [], ◌∷◌, Option, Some, None, true, false, if◌then◌else◌}
use Rattle.ll_engine.specs.declared.table.Part.{Part}
use Rattle.ll_engine.specs.declared.table.Part.TheVariants.{Term, Non, Maybe, Many, Chain}
use Rattle.ll_engine.specs.declared.table.Row.{Row}
use Rattle.ll_engine.specs.declared.tree.Tree.{Tree}
use Rattle.ll_engine.specs.declared.tree.Tree.TheVariants.{Leaf, Node}
use Rattle.ll_engine.specs.Grammar.{terminal, named, is_optional, IsRowOf, IsBlank, IsBegun}

-- a symbol of a text, with the nesting at it
pub data Nested : Type 0 where
  at_nesting : (symbol nesting : ℕ) → Nested

-- the next token: the first symbol, or `None` at the end
abbrev pub next : List Nested → Option ℕ
next [] = None
next (at_nesting s n ∷ w) = Some s

-- The nesting of what the part opens next, from that of the parts around it and that of the newest
-- turn: a chain goes one deeper with each turn, the other parts stay.
abbrev pub level : (ℕ → ℕ) → Part → ℕ → ℕ → ℕ
level deeper (Term a) around turn = around
level deeper (Non h) around turn = around
level deeper (Maybe h) around turn = around
level deeper (Many h) around turn = around
level deeper (Chain h) around turn = deeper turn

-- the nesting in a row that is opened at this level: a deep row goes one deeper
abbrev pub inside : (ℕ → ℕ) → Row → ℕ → ℕ
inside deeper row n = if row.deep then deeper n else n

-- the parts that are left once the first was read: a repeated one may be read again
abbrev pub left_after : Part → List Part → List Part
left_after (Term a) ps = ps
left_after (Non h) ps = ps
left_after (Maybe h) ps = ps
left_after (Many h) ps = Many h ∷ ps
left_after (Chain h) ps = Chain h ∷ ps

-- `Reads t deeper around turn ps at w ts to rest`: from the symbol numbered `at` on, the parts `ps` of a
-- row read the list `w` up to `rest`, which begins at the symbol numbered `to`, and give the trees `ts`.
-- `around` is the nesting of the row, and `turn` that of the newest open turn of a chain in front, or
-- `around` where no turn is open. `deeper` takes a nesting one further.
-- A part that may be left out is taken wherever the next token begins it, and only there.
pub data Reads (t : List Row) (deeper : ℕ → ℕ) :
    ℕ → ℕ → List Part → ℕ → List Nested → List Tree → ℕ → List Nested → Type 0 where
  -- no part is left
  ended : {around turn at to : ℕ} {w rest : List Nested}
      → at ≡ to → w ≡ rest → Reads t deeper around turn [] at w [] to rest
  -- the part is the next symbol
  symbol : {around turn at to s n : ℕ} {p : Part} {ps : List Part} {w rest : List Nested} {x : Tree} {ts : List Tree}
      → terminal p ≡ Some s → n ≡ around → x ≡ Leaf at
      → Reads t deeper around around ps (suc at) w ts to rest
      → Reads t deeper around turn (p ∷ ps) at (at_nesting s n ∷ w) (x ∷ ts) to rest
  -- the part is read by the row of its head that the next token begins
  taken : {around turn n h i at mid to : ℕ} {p : Part} {ps : List Part} {row : Row} {w u rest : List Nested}
      {x : Tree} {kids ts : List Tree}
      → named p ≡ Some h → IsRowOf t h i row → IsBegun t row.parts (next w)
      → n ≡ level deeper p around turn → x ≡ Node i kids
      → Reads t deeper (inside deeper row n) (inside deeper row n) row.parts at w kids mid u
      → Reads t deeper around n (left_after p ps) mid u ts to rest
      → Reads t deeper around turn (p ∷ ps) at w (x ∷ ts) to rest
  -- an optional part is left out, a repeated one ends
  left_out : {around turn at to : ℕ} {p : Part} {ps : List Part} {w rest : List Nested} {ts : List Tree}
      → is_optional p ≡ true → (IsBegun t (p ∷ []) (next w) → ⊥)
      → Reads t deeper around around ps at w ts to rest
      → Reads t deeper around turn (p ∷ ps) at w ts to rest
  -- the head is read as empty, by its row that can be empty
  empty : {around turn h i at mid to : ℕ} {p : Part} {ps : List Part} {row : Row} {w u rest : List Nested}
      {x : Tree} {kids ts : List Tree}
      → is_optional p ≡ false → named p ≡ Some h → (IsBegun t (p ∷ []) (next w) → ⊥)
      → IsRowOf t h i row → IsBlank t row.parts → x ≡ Node i kids
      → Reads t deeper (inside deeper row around) (inside deeper row around) row.parts at w kids mid u
      → Reads t deeper around around ps mid u ts to rest
      → Reads t deeper around turn (p ∷ ps) at w (x ∷ ts) to rest
