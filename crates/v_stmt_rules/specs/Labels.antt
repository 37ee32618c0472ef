-- The names of blocks, added one behind the other.
use Rattle.std.specs.Prelude.{List, [], ◌∷◌, Option, Some, None}
use Rattle.v_tree.specs.Names.{Name}

-- the names so far, and those of some statements behind them
abbrev pub Adds : Type 0
Adds = List Name → List Name

abbrev pub in_turn : List Adds → Adds
in_turn [] to = to
in_turn (a ∷ rest) to = in_turn rest (a to)

abbrev pub else_labels : Option Adds → Adds
else_labels None to = to
else_labels (Some a) to = a to
