-- What is given to a target.
use Rattle.std.specs.Prelude.{◌≡◌, ℕ, max, take, Option, Some, None}
use Rattle.sv_types.specs.declared.expression.Expr.{Expr}
use Rattle.sv_types.specs.declared.expression.Form.TheVariants as V
use Rattle.sv_types.specs.Surroundings.{Around}
use Rattle.sv_types.specs.Meanings.{Meaning, wide, signed}
use Rattle.sv_types.specs.Expressions.{meaning}
use Rattle.eval_parts.specs.declared.orders.Stream.{Stream}

-- an expression that is no stream is valued at the larger width, and cut
pub record IsCut (m : Meaning) : Type 0 where
  pub given : (n : ℕ) (a : Around) → m.given n a ≡ take n (m.value (max n (wide m)) (signed m) a)

abbrev pub IsStreamOf : Option Stream → Expr → Type 0
IsStreamOf None e = IsCut (meaning e)
IsStreamOf (Some s) e = e.form ≡ V.Stream s.reversed s.slice s.parts.now
