-- Constants, rule by rule.
use Rattle.std.specs.Prelude.{◌≡◌, ℕ, ℤ, List, [], Some, Ok}
use Rattle.sv_types.specs.declared.expression.Expr.{Expr}
use Rattle.sv_types.specs.declared.statement.Function.{Function}
use Rattle.const_eval.specs.EvalStmts.{Env}
use Rattle.const_eval.specs.declared.fails.EvalFail.TheVariants as V
use Rattle.const_eval.specs.declared.fails.SizeFail.{SizeFail}
use Rattle.const_eval.specs.declared.fails.SizeFail.TheVariants as S
use Rattle.expr_type.specs.declared.halt.Halt.{Halt}
use Rattle.expr_type.specs.declared.halt.Halt.TheVariants as H
use Rattle.expr_type.specs.declared.operand.Number.{Number}
use Rattle.expr_type.specs.declared.operand.Valued.{Valued}
use Rattle.expr_type.specs.Names.{Source, position}
use Rattle.expr_type.specs.Operands.{in_range, number_of, number_or, stops}
use Rattle.expr_type.specs.Shapes.{is_unpacked}
use Rattle.expr_type.specs.Typings.{Checked, refused}
use Rattle.expr_type.specs.Uses.{holds_stream, names_any}

-- a constant whose parts are in order: E608 and E411
abbrev pub known_number : Source → ℕ → ℤ → ℤ → List Function → Expr → Checked Number
known_number k first low high fs e = refused (stops fs e) (position k first) 608 (number_or k first (in_range low high (number_of fs e)))

abbrev pub halt_for : ℕ → SizeFail → Halt
halt_for first (S.Range at) = H.Breaks first 411
halt_for first (S.Eval V.Memory) = H.Memory
halt_for first (S.Eval (V.NotConstant at)) = H.Breaks first 608
halt_for first (S.Eval (V.Turns at)) = H.Breaks first 608

-- E406, E508 and E512
abbrev pub constant_rules : Source → Valued → List Function → Checked (Unit {0})
constant_rules k v fs =
    refused (names_any v.expr) (position k v.first) 406
    (refused (is_unpacked v.expr.of) (position k v.first) 508 (refused (holds_stream fs v.expr) (position k v.first) 512 (Ok tt)))

-- nothing is held, and 2^20 statements may run
pub record HasNoSlots (env : Env) : Type 0 where
  pub signals : env.signals.items ≡ []
  pub locals : env.locals.items ≡ []
  pub budget : env.budget ≡ Some 1048576
