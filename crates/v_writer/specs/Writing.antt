-- What the writer appends.
use Rattle.std.specs.Prelude.{◌≡◌, ℕ, List, ◌++◌}
use Rattle.v_tree.specs.declared.items.VDesign.{VDesign}
use Rattle.v_tree.specs.Reading.{VReads}
use Rattle.v_writer.specs.Layout.{text_of}

-- The layout's text of the design was added at the end, and it reads as the design.
pub record Writes (e : VDesign) (before behind : List ℕ) : Type 0 where
  pub is_added : behind ≡ before ++ text_of e
  pub reads : VReads (text_of e) e
