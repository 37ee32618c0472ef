-- Trees that are read.
use Rattle.std.specs.Prelude.{List}
use Rattle.sv_source.specs.declared.token.Token.{Token}
use Rattle.sv_tree.specs.declared.units.SourceTree.{SourceTree}
use Rattle.sv_build.specs.Reading.{Ends, Reads}

-- some tokens, of which the last is the end token, read as the tree
pub record IsRead (tree : SourceTree) : Type 0 where
  pub tokens : List Token
  pub ends : Ends tokens
  pub reads : Reads tokens tree
