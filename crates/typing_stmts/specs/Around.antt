-- What functions of a frame's text stand in.
use Rattle.std.specs.Prelude.{◌≡◌, ℕ, List}
use Rattle.sv_source.specs.declared.token.Token.{Token}
use Rattle.sv_tree.specs.declared.units.SourceTree.{SourceTree}
use Rattle.sv_types.specs.declared.frame.Frame.{Frame}
use Rattle.sv_build.specs.Reading.{Reads}
use Rattle.package_scope.specs.declared.table.Table.{Table}
use Rattle.expr_type.specs.Functions.{function_path, name_of, outside, routine}
use Rattle.expr_type.specs.Names.{Context, RoutineText, word}
use Rattle.frame_texts.specs.Frames.{home_in, without_routines, without_signals}
use Rattle.source_laws.specs.Frames.{SoundFrame}

-- what stands around each function of the text of a frame: no signal
abbrev pub around : SourceTree → Table → Frame → ℕ → Context
around tree t f at = without_signals tree t (without_routines tree t f at)

-- that, with functions in which calls lie one in another so deep
abbrev pub with_depth : SourceTree → Table → Frame → ℕ → ℕ → Context
with_depth tree t f at depth = let k = around tree t f at in record k { routine = routine depth k }

-- the text of a function of it, outside of who calls it
abbrev pub text_behind : SourceTree → Table → Frame → ℕ → ℕ → ℕ → Context
text_behind tree t f at depth n = outside (with_depth tree t f at depth) n

-- the instance and the path of a function or task with a declaration, by the block in whose text it is declared
pub record IsPlaced (tree : SourceTree) (t : Table) (f : Frame) (n : ℕ) (x : RoutineText) (inside : ℕ) (under : List ℕ) : Type 0 where
  pub instance : (home_in tree t f n).instance ≡ inside
  pub path : function_path (home_in tree t f n) (word (without_routines tree t f 0).source (name_of x)) ≡ under

-- A source that is read, and a frame of it with sound lists: its functions and tasks are written by the grammar, and what names stand for
-- in them has as many bits as it says.
pub record SoundAround (tree : SourceTree) (f : Frame) : Type 0 where
  pub tokens : List Token
  pub reads : Reads tokens tree
  pub frame : SoundFrame f
