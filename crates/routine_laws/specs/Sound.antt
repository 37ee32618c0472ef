-- What heads and bodies of functions keep.
use Rattle.std.specs.Prelude.{⊤, ℕ, false, List, [], ◌∷◌, Option, Some, None}
use Rattle.sv_types.specs.declared.statement.Function.{Function}
use Rattle.sv_types.specs.declared.statement.Stmt.{Stmt}
use Rattle.sv_types.specs.Surroundings.{Parameter}
use Rattle.sv_types.specs.Statements.{doing}
use Rattle.eval_stmts.specs.Environments.{AllHeld}
use Rattle.expr_type.specs.Types.{TypeFound}
use Rattle.expr_type.specs.Functions.{FormalFound, ResultFound, Head}
use Rattle.typing_fits.specs.Sound.{Knows, IsNarrowType}
use Rattle.typing_fits.specs.Operands.{AllValuesSound}
use Rattle.routine_fits.specs.Sound.{SoundStmt}
use Rattle.stmt_laws.specs.Sound.{SoundType}

-- a statement that writes no signal, where these functions are known
pub record WritesLocals (s : Stmt) (gs : List Function) : Type 0 where
  pub held : (fs : ℕ → List Parameter) → Knows gs fs → AllHeld ((doing s).targets fs) (λ n. false)

pub record SoundBody (s : Stmt) (gs : List Function) : Type 0 where
  pub sound : SoundStmt s gs
  pub locals : WritesLocals s gs

-- the type that the next formal may take
abbrev pub PerhapsType : Option TypeFound → List Function → Type 0
PerhapsType None gs = ⊤
PerhapsType (Some f) gs = SoundType f gs

pub record SoundFormal (f : FormalFound) (gs : List Function) : Type 0 where
  pub before : PerhapsType f.before.of gs
  pub id : IsNarrowType f.id.of
  pub formal : IsNarrowType f.formal.local.of
  pub names : AllValuesSound f.names

abbrev pub AllSoundFormals : List FormalFound → List Function → Type 0
AllSoundFormals [] gs = ⊤
AllSoundFormals (f ∷ fs) gs = SoundFormal f gs × AllSoundFormals fs gs

-- what a function gives
pub record SoundResult (r : ResultFound) (gs : List Function) : Type 0 where
  pub of : IsNarrowType r.of
  pub names : AllValuesSound r.names

pub record SoundHead (h : Head) (gs : List Function) : Type 0 where
  pub result : SoundResult h.result gs
  pub formals : AllSoundFormals h.formals gs
