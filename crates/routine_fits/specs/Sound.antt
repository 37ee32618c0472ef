-- What typed statements and functions keep, so that they can be run.
use Rattle.std.specs.Prelude.{◌≤◌, ⊤, ℕ, max, true, false, List, [], ◌∷◌, map, Option, Some, None}
use Rattle.sv_types.specs.declared.expression.Expr.{Expr}
use Rattle.sv_types.specs.declared.statement.CaseItem.{CaseItem}
use Rattle.sv_types.specs.declared.statement.Formal.{Formal}
use Rattle.sv_types.specs.declared.statement.Function.{Function}
use Rattle.sv_types.specs.declared.statement.Local.{Local}
use Rattle.sv_types.specs.declared.statement.Stmt.{Stmt}
use Rattle.sv_types.specs.Layouts.{width_of}
use Rattle.sv_types.specs.Surroundings.{Parameter}
use Rattle.sv_types.specs.Operators.{width_of_all}
use Rattle.sv_types.specs.Runs.{widest_of}
use Rattle.sv_types.specs.Statements.{doing}
use Rattle.sv_types.specs.Expressions.{meaning}
use Rattle.run_fits.specs.EvalStmts.{AllHeld}
use Rattle.run_fits.specs.EvalStmts.{StmtFits}
use Rattle.run_fits.specs.EvalStmts.{values_of}
use Rattle.run_fits.specs.EvalRuns.{CanRun}
use Rattle.typing_fits.specs.Operands.{AllFormalsFull}
use Rattle.typing_fits.specs.Sound.{Knows, IsNarrowType, LimitedAt, SoundAlone, AllSoundAlone, SoundFor}

-- A statement, where these functions are known: it keeps the limits of statements, whichever signals are held.
pub record SoundStmt (s : Stmt) (gs : List Function) : Type 0 where
  pub fits : (fs : ℕ → List Parameter) → Knows gs fs → StmtFits s fs (λ n. true)

abbrev pub AllSoundStmts : List Stmt → List Function → Type 0
AllSoundStmts [] gs = ⊤
AllSoundStmts (s ∷ ss) gs = SoundStmt s gs × AllSoundStmts ss gs

-- a statement that may be left out
abbrev pub PerhapsSound : Option Stmt → List Function → Type 0
PerhapsSound None gs = ⊤
PerhapsSound (Some s) gs = SoundStmt s gs

-- what a local starts with
abbrev pub SoundStart : Option Expr → Local → List Function → Type 0
SoundStart None l gs = ⊤
SoundStart (Some e) l gs = SoundFor e l.of gs

pub record SoundLocal (l : Local) (gs : List Function) : Type 0 where
  pub of : IsNarrowType l.of
  pub start : SoundStart l.initial l gs

abbrev pub AllSoundLocals : List Local → List Function → Type 0
AllSoundLocals [] gs = ⊤
AllSoundLocals (l ∷ ls) gs = SoundLocal l gs × AllSoundLocals ls gs

-- what an assignment writes, and its value at the larger width of both
pub record SoundAssign (to : List Expr) (e : Expr) (gs : List Function) : Type 0 where
  pub targets : AllSoundAlone to gs
  pub width : width_of_all (map meaning to) ≤ 4194304
  pub of : IsNarrowType e.of
  pub value : LimitedAt (meaning e) (max (width_of_all (map meaning to)) (width_of e.of)) gs

-- the bounds of a loop
pub record SoundBounds (first test step : Expr) (gs : List Function) : Type 0 where
  pub start : SoundFor first first.of gs
  pub until : SoundAlone test gs
  pub onward : SoundFor step first.of gs

-- the selector of a `case` and its values, all at the width of the widest
abbrev pub AllLimitedAt : List Expr → ℕ → List Function → Type 0
AllLimitedAt [] w gs = ⊤
AllLimitedAt (e ∷ es) w gs = LimitedAt (meaning e) w gs × AllLimitedAt es w gs

abbrev pub ItemsLimitedAt : List CaseItem → ℕ → List Function → Type 0
ItemsLimitedAt [] w gs = ⊤
ItemsLimitedAt (i ∷ is) w gs = AllLimitedAt i.values w gs × ItemsLimitedAt is w gs

pub record SoundSelector (on : Expr) (is : List CaseItem) (gs : List Function) : Type 0 where
  pub of : IsNarrowType on.of
  pub selector : LimitedAt (meaning on) (widest_of (meaning on ∷ values_of is)) gs
  pub values : ItemsLimitedAt is (widest_of (meaning on ∷ values_of is)) gs

abbrev pub AllSoundBodies : List CaseItem → List Function → Type 0
AllSoundBodies [] gs = ⊤
AllSoundBodies (i ∷ is) gs = SoundStmt i.body gs × AllSoundBodies is gs

-- a function that can be run where these functions are known, with full types
pub record SoundFunction (f : Function) (gs : List Function) : Type 0 where
  pub result : IsNarrowType f.of
  pub formals : AllFormalsFull f.formals
  pub runs : (fs : ℕ → List Parameter) → Knows gs fs → CanRun f fs

abbrev pub EachSound : List Function → List Function → Type 0
EachSound [] gs = ⊤
EachSound (f ∷ fs) gs = SoundFunction f gs × EachSound fs gs

-- functions that call one another
abbrev pub AllSoundFunctions : List Function → Type 0
AllSoundFunctions gs = EachSound gs gs

-- its body writes no signal
pub record WritesNoSignal (f : Function) (gs : List Function) : Type 0 where
  pub locals : (fs : ℕ → List Parameter) → Knows gs fs → AllHeld ((doing f.body).targets fs) (λ n. false)

abbrev pub AllFormalsNarrow : List Formal → Type 0
AllFormalsNarrow [] = ⊤
AllFormalsNarrow (f ∷ fs) = (width_of f.local.of ≤ 4194304) × AllFormalsNarrow fs
