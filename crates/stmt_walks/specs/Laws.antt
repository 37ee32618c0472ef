-- The laws: what statements keep.
use Rattle.std.specs.Prelude.{◌≡◌, Bool, true, List, [], ◌∷◌}
use Rattle.sv_tree.specs.declared.statements.Lvalue.{Lvalue}
use Rattle.sv_types.specs.declared.expression.Expr.{Expr}
use Rattle.sv_types.specs.declared.statement.Function.{Function}
use Rattle.sv_types.specs.Expressions.{meaning}
use Rattle.eval_forms.specs.Callees.{formals_in}
use Rattle.eval_parts.specs.Limits.{FitsAlone}
use Rattle.expr_type.specs.Names.{Context}
use Rattle.expr_type.specs.Targets.{Target, target, parts_of}
use Rattle.routine_fits.specs.Sound.{AllSoundFunctions}
use Rattle.routine_fits.specs.Targets.{SoundTarget}
use Rattle.typing_walks.specs.Keeps.{Keeps, Surrounded}
use Rattle.stmt_walks.specs.Written.{lvalue_written}

-- each of them fits as evaluation asks, where these functions are known
abbrev pub AllFit : List Expr → List Function → Type 0
AllFit [] gs = Unit {0}
AllFit (e ∷ es) gs = FitsAlone (meaning e) (formals_in gs) × AllFit es gs

-- Targets, of a statement or not, in a text whose names are sound and whose functions can be run.
pub record TargetsAreSound : Type 0 where
  pub sound : (k : Context) (in_statement : Bool) (l : Lvalue) → Surrounded AllSoundFunctions k → lvalue_written l ≡ true → Keeps AllSoundFunctions SoundTarget (target l k in_statement)
  pub fits : (t : Target) (gs : List Function) → SoundTarget t gs → AllFit (parts_of t) gs
