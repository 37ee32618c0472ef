-- What stands in constants, and which rule on it counts.
use Rattle.std.specs.Prelude.{◌≡◌, ℕ, Bool, true, false, cond, List, Result, Ok, Err}
use Rattle.sv_types.specs.declared.expression.Expr.{Expr}
use Rattle.sv_types.specs.declared.statement.Function.{Function}
use Rattle.expr_type.specs.declared.halt.Halt.{Halt}
use Rattle.expr_type.specs.declared.halt.Halt.TheVariants as H
use Rattle.expr_type.specs.Answers.{HaltsBy, reason}
use Rattle.expr_type.specs.Names.{Source}
use Rattle.expr_type.specs.Operands.{is_constant}
use Rattle.expr_type.specs.Typings.{Checked}
use Rattle.expr_type.specs.Uses.{holds_stream, names_any}
use Rattle.given_types.specs.Admitting.{Admits}
use Rattle.pattern_laws.specs.Reasons.{is_sooner}
use Rattle.pattern_laws.proofs.Order.{HereIf}

-- whether the break of a stream at the first token comes before another one
abbrev pub stream_is_sooner : ℕ → ℕ → ℕ → Bool
stream_is_sooner first at rule = is_sooner (record { at = first; rule = 512 }) (record { at = at; rule = rule })

-- which rule counts where it names something, and where it reaches a stream
abbrev pub with_stream : ℕ → Result (Unit {0}) Halt → Halt
with_stream first (Ok u) = H.Breaks first 512
with_stream first (Err H.Memory) = H.Memory
with_stream first (Err H.Quiet) = H.Breaks first 512
with_stream first (Err (H.Breaks at rule)) = cond (stream_is_sooner first at rule) (H.Breaks first 512) (H.Breaks at rule)

abbrev pub ruled : Bool → Bool → ℕ → Result (Unit {0}) Halt → Result (Unit {0}) Halt
ruled true stream first other = Err (H.Breaks first 406)
ruled false true first other = Err (with_stream first other)
ruled false false first other = other

-- what keeps all of them
pub record IsFree (fs : List Function) (e : Expr) (other : Result (Unit {0}) Halt) : Type 0 where
  pub names : names_any e ≡ false
  pub stream : holds_stream fs e ≡ false
  pub fine : other ≡ Ok tt

-- whatever the other rule is on, whose breaks stand in this text
abbrev pub MayStand : Source → ℕ → List Function → Expr → Result (Unit {0}) Halt → Result (Unit {0}) Halt → Type 0
MayStand k first fs e other (Ok u) = IsFree fs e other
MayStand k first fs e other (Err h) = (m : Checked Expr) → HereIf k m → Admits other e m → HaltsBy h (reason (is_constant k first fs e m))
