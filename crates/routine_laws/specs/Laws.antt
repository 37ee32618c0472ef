-- The laws: what functions and tasks of a sound text keep.
use Rattle.std.specs.Prelude.{◌≡◌, ℕ, true, List, [], ◌∷◌, ◌++◌, Some, map}
use Rattle.sv_tree.specs.declared.functions.Formal as G
use Rattle.sv_tree.specs.declared.statements.BlockItem.{BlockItem}
use Rattle.sv_tree.specs.declared.statements.Stmt.{Stmt}
use Rattle.sv_types.specs.declared.statement.Function.{Function}
use Rattle.expr_type.specs.Typings.{Typing}
use Rattle.expr_type.specs.Names.{Called, Context, RoutineText}
use Rattle.expr_type.specs.Statements.{block, item_meaning, typed_stmt}
use Rattle.expr_type.specs.Functions.{Before, ResultFound, Head, formals, head, behind_head, by_text, known_from, routine}
use Rattle.typing_fits.specs.Operands.{KnownCall, SoundContext}
use Rattle.typing_walks.specs.Keeps.{Keeps, Surrounded}
use Rattle.routine_fits.specs.Sound.{SoundFunction, AllSoundFunctions}
use Rattle.stmt_laws.specs.Written.{stmt_written}
use Rattle.stmt_laws.specs.Sound.{AroundStatements}
use Rattle.routine_laws.specs.Names.{signals_of, stmt_local}
use Rattle.routine_laws.specs.Texts.{formals_written, SoundItems, SoundText, AllSoundTexts}
use Rattle.routine_laws.specs.Sound.{WritesLocals, SoundBody, AllSoundFormals, PerhapsType, SoundResult, SoundHead}

-- bodies of functions
pub record BodiesAreSound : Type 0 where
  pub statement : (k : Context) (s : Stmt) → AroundStatements AllSoundFunctions k → stmt_written s ≡ true → stmt_local (signals_of k) s ≡ true → Keeps AllSoundFunctions WritesLocals (typed_stmt k s)
  pub body : (k : Context) (items : List BlockItem) → AroundStatements AllSoundFunctions k → SoundItems k items → Keeps AllSoundFunctions SoundBody (block k (map item_meaning items))

-- heads, and the text behind them
pub record HeadsAreSound : Type 0 where
  pub formals : (k : Context) (b : Before) (fs : List G.Formal) → Surrounded AllSoundFunctions k → formals_written fs ≡ true → ((gs : List Function) → PerhapsType b.of gs) → Keeps AllSoundFunctions AllSoundFormals (formals k b fs)
  pub head : (k : Context) (name : ℕ) (x : Typing ResultFound) (fs : List G.Formal) → Surrounded AllSoundFunctions k → formals_written fs ≡ true → Keeps AllSoundFunctions SoundResult x → Keeps AllSoundFunctions SoundHead (head k name x fs)
  pub behind : (k : Context) (name : ℕ) (h : Head) (gs : List Function) → Surrounded AllSoundFunctions k → SoundHead h gs → AroundStatements AllSoundFunctions (behind_head k name (Some h))

-- functions, where they are first needed, and behind those that are known
pub record RoutinesAreSound : Type 0 where
  pub text : (k : Context) (n : ℕ) (t : RoutineText) → Surrounded AllSoundFunctions k → SoundText k t → Keeps AllSoundFunctions SoundFunction (by_text k n t)
  pub one_more : (gs : List Function) (f : Function) → AllSoundFunctions gs → SoundFunction f gs → AllSoundFunctions (gs ++ f ∷ [])
  pub known : (instance at : ℕ) (path : List ℕ) (gs : List Function) (c : Called) → known_from 0 instance at path gs ≡ Some c → AllSoundFunctions gs → KnownCall c gs
  pub needed : (depth : ℕ) (k : Context) (n : ℕ) → SoundContext k → AllSoundTexts k → Keeps AllSoundFunctions KnownCall (routine depth k n)
  pub surrounded : (depth : ℕ) (k : Context) → SoundContext k → AllSoundTexts k → Surrounded AllSoundFunctions (record k { routine = routine depth k })
