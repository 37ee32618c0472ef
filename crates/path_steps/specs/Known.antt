-- Indices that are known in the source (IEEE 1800-2017 clause 11.5.1).
use Rattle.std.specs.Prelude.{◌≡◌, ⊤, ℤ, List, [], length, Option, Some, None, Result, Ok, Err}
use Rattle.b4_core.specs.declared.bit.Bit4.{Bit4}
use Rattle.sv_types.specs.declared.expression.Expr.{Expr}
use Rattle.sv_types.specs.Surroundings.{Around}
use Rattle.sv_types.specs.Meanings as S
use Rattle.sv_types.specs.Paths as P
use Rattle.sv_types.specs.Expressions.{meaning}
use Rattle.eval_parts.specs.declared.halt.Halt.{Halt}

-- a value that was valued to its end
abbrev pub ValuedGives : {E : Type 0} → Result (Option (List Bit4)) E → Result (List Bit4) Halt → Type 0
ValuedGives (Ok (Some v)) r = r ≡ Ok v
ValuedGives (Ok None) r = ⊤
ValuedGives (Err x) r = ⊤

-- an expression has these bits alone, whatever is held, and names nothing
pub record HasFixedBits (e : Expr) (bits : List Bit4) : Type 0 where
  pub alone : (a : Around) → S.alone (meaning e) a ≡ bits
  pub long : length bits ≡ S.wide (meaning e)
  pub none : (meaning e).names ≡ []

-- an index has this number, or none, whatever is held, and names nothing
pub record IsKnown (e : Expr) (z : Option ℤ) : Type 0 where
  pub number : (a : Around) → P.index_of (meaning e) a ≡ z
  pub none : (meaning e).names ≡ []
