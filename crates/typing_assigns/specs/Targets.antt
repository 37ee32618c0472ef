-- Targets as the code has them.
use Rattle.std.specs.Prelude.{◌≡◌, Bool, List, Result, Ok, Err}
use Rattle.sv_types.specs.declared.expression.Form.TheVariants as F
use Rattle.sv_types.specs.declared.statement.Function.{Function}
use Rattle.expr_type.specs.declared.halt.Halt.{Halt}
use Rattle.expr_type.specs.declared.operand.Valued.{Valued}
use Rattle.expr_type.specs.Operators.{exprs}
use Rattle.expr_type.specs.Targets as D
use Rattle.expr_type.specs.Targets.{ToPath, ToParts, ToStream}
use Rattle.expr_type.specs.Typings.{Typed}
use Rattle.typing_steps.specs.Steps.{StopsBy}
use Rattle.typing_assigns.specs.declared.target.Target.{Target}
use Rattle.typing_assigns.specs.declared.target.Target.TheVariants as T

-- a concatenation of targets, by its operands
pub record IsParts (v : Valued) (e : Bool) (t : D.Target) : Type 0 where
  pub parts : List Valued
  pub is : t ≡ ToParts v parts e
  pub form : v.expr.form ≡ F.Concat (exprs parts)

abbrev pub StandsFor : Target → D.Target → Type 0
StandsFor (T.Path v) t = t ≡ ToPath v
StandsFor (T.Parts v e) t = IsParts v e t
StandsFor (T.Stream v) t = t ≡ ToStream v

-- a target of a text with the functions that are known then, or where it stops
pub record IsTarget (c : Target) (t : Typed D.Target) (fs : List Function) : Type 0 where
  pub target : D.Target
  pub stands : StandsFor c target
  pub gives : t ≡ record { result = Ok target; functions = fs }

abbrev pub TargetsTo : Result Target Halt → Typed D.Target → List Function → Type 0
TargetsTo (Ok c) t fs = IsTarget c t fs
TargetsTo (Err h) t fs = StopsBy h t fs
