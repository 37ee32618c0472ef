-- Parts of declarations.
use Rattle.std.specs.Prelude.{◌≡◌, List, [], ◌∷◌, Option, Some, None, Result, Ok, Err}
use Rattle.sv_tree.specs.declared.declarations.Initializer.{Initializer}
use Rattle.sv_types.specs.declared.frame.ParamType.{ParamType}
use Rattle.sv_types.specs.declared.frame.ParamValue.{ParamValue}
use Rattle.sv_types.specs.declared.statement.Function.{Function}
use Rattle.expr_type.specs.declared.halt.Halt.{Halt}
use Rattle.expr_type.specs.declared.halt.Halt.TheVariants as H
use Rattle.expr_type.specs.Breaks.{Quiet}
use Rattle.expr_type.specs.Expressions.{operand}
use Rattle.expr_type.specs.Forms.{is_signed_by}
use Rattle.expr_type.specs.Names.{Context, Source}
use Rattle.expr_type.specs.Operands.{Operand}
use Rattle.expr_type.specs.Statements.{Declared, IsType, Parameter, WrittenType, OfValue, OfType, nothing}
use Rattle.expr_type.specs.Typings.{Checked, Typing, broken, checked}
use Rattle.constant_values.specs.declared.parameters.Place.{Place}
use Rattle.constant_values.specs.Parameters.{of_range, parameter_value}
use Rattle.pattern_types.specs.declared.operand.Operand as O

-- a value that is looked at by itself: nothing is made of it
abbrev pub looked : {A : Type 0} → Context → Option Initializer → Typing A
looked k None = broken Quiet
looked k (Some i) = checked (operand k i.value) (λ o. broken Quiet)

abbrev pub looked_alone : Context → Option Initializer → Typing (Unit {0})
looked_alone k i = looked k i

abbrev pub looked_by : Result O.Operand Halt → Halt
looked_by (Ok o) = H.Quiet
looked_by (Err h) = h

-- a constant and a type, as they are declared
abbrev pub as_value : ParamValue → Declared
as_value v = record nothing { values = v ∷ [] }

abbrev pub typed_param : ParamType → Parameter
typed_param t = record { kind = IsType; declared = record nothing { types = t ∷ [] } }

-- the value of a constant by what is written of its type
abbrev pub written_param : Source → Place → WrittenType → Operand → List Function → Checked ParamValue
written_param k p (OfValue None) o fs = parameter_value k p None o fs
written_param k p (OfValue (Some s)) o fs = of_range k p (is_signed_by s) o fs
written_param k p (OfType t) o fs = parameter_value k p (Some t) o fs
