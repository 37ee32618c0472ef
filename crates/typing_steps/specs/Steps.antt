-- What a step of typing gives: what is whole with the functions that are known then, or where it stops. The first break in the order
-- of the text counts; where nothing breaks a rule and something isn't whole, the functions are those that are known then too, so that
-- what stands behind can be looked at.
use Rattle.std.specs.Prelude.{◌≡◌, ⊤, List, Some, None, Result, Ok, Err}
use Rattle.sv_types.specs.declared.statement.Function.{Function}
use Rattle.expr_type.specs.declared.halt.Halt.{Halt}
use Rattle.expr_type.specs.declared.halt.Halt.TheVariants as H
use Rattle.expr_type.specs.Answers.{reason}
use Rattle.expr_type.specs.Typings.{Typed}

pub record IsQuiet {A : Type 0} (t : Typed A) (fs : List Function) : Type 0 where
  pub quiet : reason t.result ≡ Some None
  pub functions : t.functions ≡ fs

abbrev pub StopsBy : {A : Type 0} → Halt → Typed A → List Function → Type 0
StopsBy H.Memory t fs = ⊤
StopsBy (H.Breaks at rule) t fs = reason t.result ≡ Some (Some (record { at = at; rule = rule }))
StopsBy H.Quiet t fs = IsQuiet t fs

abbrev pub TypesTo : {A : Type 0} → Result A Halt → Typed A → List Function → Type 0
TypesTo (Ok a) t fs = t ≡ record { result = Ok a; functions = fs }
TypesTo (Err h) t fs = StopsBy h t fs
