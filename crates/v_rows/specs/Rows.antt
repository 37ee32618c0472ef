-- What a node of a derivation means, by its row and what its parts mean.
use Rattle.std.specs.Prelude.{ℕ, List, slice_get}
use Rattle.v_tree.specs.declared.parts.VPart.{VPart}
use Rattle.v_tree.specs.Meaning.{row_meanings, by_row}

unfoldable pub meaning_of : ℕ → List VPart → VPart
meaning_of row parts = by_row (slice_get row_meanings row) parts
