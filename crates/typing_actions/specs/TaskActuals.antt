-- Actuals by the ways of their formals.
use Rattle.std.specs.Prelude.{◌≡◌, ℕ, Bool, true, false, List, [], map, Option, Some, None, Result, Ok, Err, slice_get}
use Rattle.sv_tree.specs.declared.expressions.Expr.{Expr}
use Rattle.sv_types.specs.declared.statement.Formal.{Formal}
use Rattle.sv_types.specs.declared.statement.Function.{Function}
use Rattle.sv_types.specs.declared.statement.Way.{Way}
use Rattle.sv_types.specs.declared.statement.Way.TheVariants as W
use Rattle.expr_type.specs.declared.halt.Halt.{Halt}
use Rattle.expr_type.specs.Expressions.{meaning}
use Rattle.expr_type.specs.Names.{Context}
use Rattle.expr_type.specs.Statements.{Actual, actuals}
use Rattle.expr_type.specs.Typings.{Typing, all}

abbrev pub ways_of : List Formal → List Way
ways_of fs = map (λ (f : Formal). f.way) fs

-- the ways of the formals of a function, where there is one
abbrev pub ways_if : Option Function → List Way
ways_if None = []
ways_if (Some f) = ways_of f.formals

abbrev pub AreWays : Result ℕ Halt → List Function → List Way → Type 0
AreWays (Ok n) fs ws = ws ≡ ways_if (slice_get fs n)
AreWays (Err h) fs ws = ws ≡ []

-- whether what a formal gives is assigned to its actual
abbrev pub outputs : Option Way → Bool
outputs None = false
outputs (Some W.Input) = false
outputs (Some W.Output) = true
outputs (Some W.Inout) = true

abbrev pub actuals_of : Context → List Way → List Expr → Typing (List Actual)
actuals_of k ws es = all (actuals k ws (map meaning es))
