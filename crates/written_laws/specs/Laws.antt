-- The law: what is read from a text is written.
use Rattle.std.specs.Prelude.{◌≡◌, ℕ, true, List, Some, map}
use Rattle.sv_source.specs.declared.token.Token.{Token}
use Rattle.sv_tree.specs.declared.units.SourceTree.{SourceTree}
use Rattle.sv_build.specs.Reading.{Reads}
use Rattle.expr_type.specs.Names.{RoutineText}
use Rattle.expr_type.specs.Routines.{named_at, routines}
use Rattle.typing_walks.specs.Written.{all}
use Rattle.stmt_laws.specs.Written.{items_written}
use Rattle.routine_laws.specs.Texts.{head_written, items_of}
use Rattle.written_laws.specs.Trees.{routine_written, tree_written}

pub record TextsAreWritten : Type 0 where
  -- the whole tree, and each function and task in it
  pub tree : (tokens : List Token) (tree : SourceTree) → Reads tokens tree → tree_written tree ≡ true
  pub each : (tokens : List Token) (tree : SourceTree) → Reads tokens tree → all (map routine_written (routines tree)) ≡ true
  -- the function or task whose name stands at a token
  pub head : (tokens : List Token) (tree : SourceTree) (at : ℕ) (t : RoutineText) → Reads tokens tree → named_at at (routines tree) ≡ Some t → head_written t ≡ true
  pub items : (tokens : List Token) (tree : SourceTree) (at : ℕ) (t : RoutineText) → Reads tokens tree → named_at at (routines tree) ≡ Some t → items_written (items_of t) ≡ true
