use Rattle.std.specs.Prelude.{◌≡◌, ◌++◌, ℕ, pred, List, [], ◌∷◌, Option, Some, None, drop, map, reverse, slice_get, cond}
use Rattle.ll_engine.specs.declared.table.Part.{Part}
use Rattle.ll_engine.specs.declared.table.Row.{Row}
use Rattle.ll_engine.specs.declared.tree.Tree.{Tree}
use Rattle.ll_engine.specs.declared.tree.Tree.TheVariants.{Leaf, Node}
use Rattle.ll_engine.specs.declared.machine.Frame.{Frame}
use Rattle.ll_engine.specs.declared.machine.Open.{Open}
use Rattle.ll_engine.specs.Class.{Follows, ComesAt}
use Rattle.ll_engine.specs.Grammar.{is_repeated, IsRowOf}
use Rattle.ll_engine.specs.Reading.{Nested, next, level, inside, Reads}

-- The reader counts nesting down: the room at a symbol is how much further nesting may go.

-- a row that is being read: the room in it, the room in the newest turn of a chain, the parts that are left
-- and the trees that were read
pub record Level : Type 0 where
  pub row : ℕ
  pub room : ℕ
  pub turn : ℕ
  pub left : List Part
  pub kids : List Tree

abbrev pub parts_of : Option Row → List Part
parts_of None = []
parts_of (Some row) = row.parts

abbrev pub level_of : List Row → Frame → Level
level_of t f = record {
  row = f.row;
  room = f.room;
  turn = f.turn;
  kids = f.kids;
  left = drop f.next (parts_of (slice_get t f.row));
}

-- the rows that are being read, the innermost first
abbrev pub levels_of : List Row → Open → List Level
levels_of t o = level_of t o.top ∷ map (level_of t) (reverse o.below.items)

abbrev pub with_kid : Level → Tree → Level
with_kid l x = record l { kids = l.kids ++ x ∷ [] }

-- what one row reads of the list `w`, up to `u`
pub record RowReads (t : List Row) (l : Level) (at : ℕ) (w : List Nested) (x : Tree) (to : ℕ) (u : List Nested) : Type 0 where
  pub kids : List Tree
  pub reads : Reads t pred l.room l.turn l.left at w kids to u
  pub is_node : x ≡ Node l.row (l.kids ++ kids)

-- the list `w` completes the rows, the innermost first, to `tree`
abbrev pub Completes : List Row → Level → List Level → ℕ → List Nested → Tree → Type 0
Completes t l [] at w tree = (to : ℕ) × RowReads t l at w tree to []
Completes t l (m ∷ ms) at w tree =
    (x : Tree) × (to : ℕ) × (u : List Nested) × RowReads t l at w x to u × Completes t (with_kid m x) ms to u tree

abbrev pub Goes : List Row → List Level → ℕ → List Nested → Tree → Type 0
Goes t [] at w tree = ⊥
Goes t (l ∷ ls) at w tree = Completes t l ls at w tree

-- the same lists complete both, where this is their next token
pub record Same (t : List Row) (token : Option ℕ) (old new : List Level) : Type 0 where
  pub onto : (at : ℕ) (w : List Nested) (tree : Tree) → next w ≡ token → Goes t old at w tree → Goes t new at w tree
  pub back : (at : ℕ) (w : List Nested) (tree : Tree) → next w ≡ token → Goes t new at w tree → Goes t old at w tree

-- no list with this next token completes them
abbrev pub Stuck : List Row → Option ℕ → List Level → Type 0
Stuck t token ls = (at : ℕ) (w : List Nested) (tree : Tree) → next w ≡ token → Goes t ls at w tree → ⊥

-- the token can come next where all is left out that may be
abbrev pub Next : List Row → List Level → Option ℕ → Type 0
Next t [] x = x ≡ None
Next t (l ∷ ls) x = ComesAt t (Next t ls) l.left x

-- the rest of a row of the table, behind whose head the tokens of `After` can come
pub record IsLevel (t : List Row) (l : Level) (After : Option ℕ → Type 0) : Type 0 where
  pub head : ℕ
  pub at : ℕ
  pub row : Row
  pub is_row : IsRowOf t head l.row row
  pub cut : drop at row.parts ≡ l.left
  pub follows : (x : Option ℕ) → After x → Follows t head x

-- each of the rows stands in one that names its head
abbrev pub IsStack : List Row → List Level → Type 0
IsStack t [] = Unit {0}
IsStack t (l ∷ ls) = IsLevel t l (Next t ls) × IsStack t ls

abbrev pub room_in : Option Row → ℕ → ℕ
room_in None n = n
room_in (Some row) n = inside pred row n

-- a new row that is opened at this room
abbrev pub fresh : List Row → ℕ → ℕ → Level
fresh t i n = record {
  row = i;
  room = room_in (slice_get t i) n;
  turn = room_in (slice_get t i) n;
  left = parts_of (slice_get t i);
  kids = [];
}

-- the part was left out
abbrev pub skipped : List Level → List Level
skipped [] = []
skipped (l ∷ ls) = record l { left = drop 1 l.left; turn = l.room } ∷ ls

-- the part was taken, and may be taken again if it is repeated
abbrev pub passed : Part → Level → Level
passed p l = record l { left = drop (cond (is_repeated p) 0 1) l.left; turn = level pred p l.room l.turn }

-- the row `i` was opened for the part
abbrev pub entered : List Row → ℕ → Part → List Level → List Level
entered t i p [] = []
entered t i p (l ∷ ls) = fresh t i (level pred p l.room l.turn) ∷ passed p l ∷ ls

-- the innermost row was ended
abbrev pub closed : List Level → List Level
closed [] = []
closed (l ∷ []) = []
closed (l ∷ m ∷ ms) = with_kid m (Node l.row l.kids) ∷ ms

-- the symbol numbered `at` was read
abbrev pub took : ℕ → List Level → List Level
took at [] = []
took at (l ∷ ls) = with_kid (record l { left = drop 1 l.left; turn = l.room }) (Leaf at) ∷ ls
