-- The functions that calls name.
use Rattle.std.specs.Prelude.{◌≤◌, ⊤, ℕ, List, [], ◌∷◌, Option, Some, None, slice_get}
use Rattle.sv_types.specs.declared.statement.Function.{Function}
use Rattle.sv_types.specs.Layouts.{width_of}
use Rattle.sv_types.specs.Surroundings.{Parameter}
use Rattle.sv_types.specs.Functions.{parameters}
use Rattle.eval_parts.specs.Targets.{AllNarrow}

-- a function of which no formal and no result has more than 2^22 bits
pub record FunctionFits (f : Function) : Type 0 where
  pub formals : AllNarrow f.formals
  pub result : width_of f.of ≤ 4194304

abbrev pub AllFunctionsFit : List Function → Type 0
AllFunctionsFit [] = ⊤
AllFunctionsFit (f ∷ fs) = FunctionFits f × AllFunctionsFit fs

abbrev pub formals_or_none : Option Function → List Parameter
formals_or_none None = []
formals_or_none (Some f) = parameters f

-- the formals of each function
abbrev pub formals_in : List Function → ℕ → List Parameter
formals_in fs n = formals_or_none (slice_get fs n)
