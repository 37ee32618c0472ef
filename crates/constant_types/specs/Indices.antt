-- Constant indices, rule by rule.
use Rattle.std.specs.Prelude.{ℕ, ℤ, nat_lt, List, Option, Ok}
use Rattle.sv_types.specs.declared.expression.Expr.{Expr}
use Rattle.sv_types.specs.declared.statement.Function.{Function}
use Rattle.sv_types.specs.Layouts.{width_of}
use Rattle.expr_type.specs.declared.operand.Valued.{Valued}
use Rattle.expr_type.specs.Names.{Source, position}
use Rattle.expr_type.specs.Operands.{number_of, stops}
use Rattle.expr_type.specs.Shapes.{is_unpacked}
use Rattle.expr_type.specs.Typings.{Checked, refused}
use Rattle.expr_type.specs.Uses.{holds_stream, names_any}

-- E406, E508, E507 and E512
abbrev pub key_rules : Source → Valued → List Function → Checked (Unit {0})
key_rules k v fs =
    refused (names_any v.expr) (position k v.first) 406
    (refused (is_unpacked v.expr.of) (position k v.first) 508
    (refused (nat_lt 64 (width_of v.expr.of)) (position k v.first) 507 (refused (holds_stream fs v.expr) (position k v.first) 512 (Ok tt))))

-- a constant index whose parts are in order: E608
abbrev pub known_key : Source → ℕ → List Function → Expr → Checked (Option ℤ)
known_key k first fs e = refused (stops fs e) (position k first) 608 (Ok (number_of fs e))
