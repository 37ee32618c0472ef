-- What it is for a text to read as a design.
use Rattle.std.specs.Prelude.{◌≡◌, ℕ, List, map}
use Rattle.ll_engine.specs.declared.tree.Tree.{Tree}
use Rattle.ll_engine.specs.Texts.{IsReading}
use Rattle.v_tree.specs.declared.items.VDesign.{VDesign}
use Rattle.v_tree.specs.declared.parts.VPart.TheVariants as P
use Rattle.v_tree.specs.Rules.{Keeps}
use Rattle.v_tree.specs.Tokens.{tokens}
use Rattle.v_tree.specs.Symbols.{symbol}
use Rattle.v_tree.specs.Table.{table}
use Rattle.v_tree.specs.Meaning.{part_of}

-- the most nesting of expressions, statements and the braces of targets
abbrev pub nesting_limit : ℕ
nesting_limit = 4096

-- The text spells the design: its tokens have a derivation by the table that means the design. The table gives a text one
-- derivation at most.
pub record Spells (bytes : List ℕ) (e : VDesign) : Type 0 where
  pub tree : Tree
  pub reading : IsReading table (map symbol (tokens bytes)) nesting_limit tree
  pub means : part_of (tokens bytes) tree ≡ P.Text e.modules

-- The text reads as the design: it spells it, and the design keeps the rules that need no top.
pub record VReads (bytes : List ℕ) (e : VDesign) : Type 0 where
  pub spells : Spells bytes e
  pub keeps : Keeps e

-- A text reads as one design at most.
abbrev pub OneDesign : Type 0
OneDesign = (bytes : List ℕ) (e f : VDesign) → VReads bytes e → VReads bytes f → e ≡ f
