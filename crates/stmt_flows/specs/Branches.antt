-- What the values of a `case` read.
use Rattle.std.specs.Prelude.{⊤, ℕ, List, [], ◌∷◌, Result, Ok, Err}
use Rattle.bit_sets.specs.declared.span.Use.{Use}
use Rattle.sv_types.specs.declared.expression.Expr.{Expr}
use Rattle.sv_types.specs.declared.statement.CaseItem.{CaseItem}
use Rattle.sv_types.specs.Surroundings.{Parameter}
use Rattle.sv_types.specs.Meanings.{Meaning}
use Rattle.sv_types.specs.Flows.{all_reads}
use Rattle.eval_parts.specs.Limits.{AllFit}
use Rattle.expr_flows.specs.declared.fails.FlowFail.{FlowFail}
use Rattle.expr_flows.specs.declared.known.Known.{Known}
use Rattle.expr_flows.specs.Known.{sight}
use Rattle.expr_flows.specs.Targets.{TargetsFail}
use Rattle.expr_flows.specs.Traces.{Adds}

abbrev pub ItemsFitAlone : List CaseItem → (ℕ → List Parameter) → Type 0
ItemsFitAlone [] fs = ⊤
ItemsFitAlone (i ∷ is) fs = AllFit i.values fs × ItemsFitAlone is fs

-- what these expressions read, whose meanings are given
abbrev pub ValuesGive : Result (Unit {0}) FlowFail → Known → List Expr → List Meaning → List Use → List Use → Type 0
ValuesGive (Ok u) k es ms old new = Adds old new (all_reads ms (sight k))
ValuesGive (Err f) k es ms old new = TargetsFail f k es
