-- Functions that can be run have types that fit.
use Rattle.sv_types.specs.declared.statement.Function.{Function}
use Rattle.std.proofs.Common.{ℕ, List, [], ◌∷◌}
use Rattle.sv_types.specs.Surroundings.{Parameter}
use Rattle.eval_forms.specs.Callees.{AllFunctionsFit}
use Rattle.eval_runs.specs.Functions.{EachCanRun}

pub functions-fit : (gs : List Function) (fs : ℕ → List Parameter) → EachCanRun gs fs → AllFunctionsFit gs
functions-fit [] fs h = tt
functions-fit (g ∷ gs) fs h = (h.0.types, functions-fit gs fs h.1)
