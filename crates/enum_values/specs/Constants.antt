-- The bits of constants that are written for names of enums.
use Rattle.std.specs.Prelude.{◌≡◌, ℕ, ℤ, List, Result, Ok, Err}
use Rattle.b4_core.specs.declared.bit.Bit4.{Bit4}
use Rattle.sv_types.specs.declared.statement.Function.{Function}
use Rattle.sv_types.specs.Expressions.{meaning}
use Rattle.sv_types.specs.Meanings.{signed}
use Rattle.eval_parts.specs.declared.halt.Halt as E
use Rattle.eval_parts.specs.declared.halt.Halt.TheVariants as V
use Rattle.const_eval.specs.Numbers.{number_if_known}
use Rattle.expr_type.specs.declared.halt.Halt.{Halt}
use Rattle.expr_type.specs.declared.halt.Halt.TheVariants as H
use Rattle.expr_type.specs.declared.operand.Valued.{Valued}
use Rattle.expr_type.specs.Answers.{HaltsBy, reason}
use Rattle.expr_type.specs.Names.{Source, position}
use Rattle.expr_type.specs.Operands.{in_range, number_or}
use Rattle.expr_type.specs.Shapes.{is_unpacked}
use Rattle.expr_type.specs.Types.{is_name_number}
use Rattle.expr_type.specs.Typings.{Checked, refused}
use Rattle.expr_type.specs.Uses.{holds_stream, names_any}

-- why a constant has no value (E608)
abbrev pub halt_for : ℕ → E.Halt → Halt
halt_for first V.Memory = H.Memory
halt_for first (V.NotHeld at) = H.Breaks first 608
halt_for first V.Turns = H.Breaks first 608

-- E406, E501 and E512
abbrev pub name_rules : Source → Valued → List Function → Checked (Unit {0})
name_rules k v fs =
    refused (names_any v.expr) (position k v.first) 406
    (refused (is_unpacked v.expr.of) (position k v.first) 501 (refused (holds_stream fs v.expr) (position k v.first) 512 (Ok tt)))

-- bits of which the number is that of the constant, whatever its range is, or what it breaks in every range
abbrev pub HasBits : Result (List Bit4) Halt → Source → Valued → List Function → Type 0
HasBits (Ok b) k v fs = (low high : ℤ) → is_name_number k low high v fs ≡ number_or k v.first (in_range low high (number_if_known (signed (meaning v.expr)) b))
HasBits (Err h) k v fs = (low high : ℤ) → HaltsBy h (reason (is_name_number k low high v fs))
