-- What targets and actuals keep.
use Rattle.std.specs.Prelude.{◌≡◌, ⊤, true, List, [], ◌∷◌, Option, Some, None, Ok}
use Rattle.sv_types.specs.declared.statement.Function.{Function}
use Rattle.sv_types.specs.declared.statement.Stmt as R
use Rattle.expr_type.specs.declared.operand.Valued.{Valued}
use Rattle.expr_type.specs.Operands.{Operand, width}
use Rattle.expr_type.specs.Operators.{all_bits, exprs}
use Rattle.expr_type.specs.Statements.{Actual, CaseFound}
use Rattle.expr_type.specs.Targets.{Target, ToPath, ToParts, ToStream}
use Rattle.typing_fits.specs.Sound.{AllSound}
use Rattle.typing_fits.specs.Operands.{SoundFixed, SoundOperand}
use Rattle.routine_fits.specs.Sound.{SoundStmt}

-- a concatenation is as wide as its parts together
pub record SoundParts (v : Valued) (vs : List Valued) (gs : List Function) : Type 0 where
  pub whole : SoundFixed v gs
  pub parts : AllSound vs gs
  pub width : width v ≡ all_bits (exprs vs)

abbrev pub SoundTarget : Target → List Function → Type 0
SoundTarget (ToPath v) gs = SoundFixed v gs
SoundTarget (ToParts v vs e) gs = SoundParts v vs gs
SoundTarget (ToStream v) gs = SoundFixed v gs

-- what is passed, and what is assigned to
abbrev pub ValueSound : Option Operand → List Function → Type 0
ValueSound None gs = ⊤
ValueSound (Some o) gs = SoundOperand o gs

abbrev pub TargetSound : Option Valued → List Function → Type 0
TargetSound None gs = ⊤
TargetSound (Some v) gs = SoundFixed v gs

pub record SoundActual (a : Actual) (gs : List Function) : Type 0 where
  pub value : ValueSound a.value gs
  pub target : TargetSound a.target gs

abbrev pub AllSoundActuals : List Actual → List Function → Type 0
AllSoundActuals [] gs = ⊤
AllSoundActuals (a ∷ as') gs = SoundActual a gs × AllSoundActuals as' gs

-- an item of a `case` as it is found
pub record SoundFound (c : CaseFound) (gs : List Function) : Type 0 where
  pub default : c.is_default ≡ true → c.values ≡ Ok []
  pub values : (vs : List Valued) → c.values ≡ Ok vs → AllSound vs gs
  pub body : (s : R.Stmt) → c.body ≡ Ok s → SoundStmt s gs

abbrev pub AllSoundFound : List CaseFound → List Function → Type 0
AllSoundFound [] gs = ⊤
AllSoundFound (c ∷ cs) gs = SoundFound c gs × AllSoundFound cs gs
