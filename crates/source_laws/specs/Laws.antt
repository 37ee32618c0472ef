-- The laws: what the typing of the texts of a frame takes for granted, of a source that is read.
use Rattle.std.specs.Prelude.{ℕ, List}
use Rattle.sv_source.specs.declared.token.Token.{Token}
use Rattle.sv_tree.specs.declared.units.SourceTree.{SourceTree}
use Rattle.sv_types.specs.declared.frame.Frame.{Frame}
use Rattle.sv_build.specs.Reading.{Reads}
use Rattle.package_scope.specs.declared.table.Table.{Table}
use Rattle.expr_type.specs.Functions.{outside, routine}
use Rattle.typing_fits.specs.Operands.{SoundContext}
use Rattle.typing_walks.specs.Keeps.{Surrounded}
use Rattle.routine_fits.specs.Sound.{AllSoundFunctions}
use Rattle.stmt_laws.specs.Sound.{AroundStatements}
use Rattle.routine_laws.specs.Texts.{AllSoundTexts}
use Rattle.frame_texts.specs.Frames.{without_routines, without_signals, context}
use Rattle.source_laws.specs.Frames.{SoundFrame}

-- functions and tasks, of any names and any frame
pub record TextsAreSound : Type 0 where
  pub texts : (tokens : List Token) (tree : SourceTree) (t : Table) (f : Frame) (at : ℕ) → Reads tokens tree → AllSoundTexts (without_signals tree t (without_routines tree t f at))

-- the text of a frame, and those of its functions
pub record FramesAreSound : Type 0 where
  pub names : (tree : SourceTree) (t : Table) (f : Frame) (at : ℕ) → SoundFrame f → SoundContext (without_routines tree t f at)
  pub functions : (tree : SourceTree) (t : Table) (f : Frame) (at : ℕ) → SoundFrame f → SoundContext (without_signals tree t (without_routines tree t f at))
  pub text : (tokens : List Token) (tree : SourceTree) (t : Table) (f : Frame) (at : ℕ) → Reads tokens tree → SoundFrame f → AroundStatements AllSoundFunctions (context tree t f at)
  pub behind : (tokens : List Token) (tree : SourceTree) (t : Table) (f : Frame) (at depth n : ℕ) → Reads tokens tree → SoundFrame f
      → let k = without_signals tree t (without_routines tree t f at) in Surrounded AllSoundFunctions (outside (record k { routine = routine depth k }) n)
