-- Indices whose number is known (IEEE 1800-2017 clause 11.5.1).
use Rattle.std.specs.Prelude.{◌≡◌, ⊤, ℤ, ℕ, true, false, Bool, List, [], Option, Some, None, Result, Ok, Err, is_some}
use Rattle.b4_core.specs.declared.bit.Bit4.{Bit4}
use Rattle.sv_types.specs.declared.expression.Expr.{Expr}
use Rattle.sv_types.specs.declared.statement.Function.{Function}
use Rattle.sv_types.specs.Surroundings.{Around, Sight}
use Rattle.sv_types.specs.Meanings as S
use Rattle.sv_types.specs.Paths as P
use Rattle.sv_types.specs.Expressions.{meaning}
use Rattle.sv_types.specs.Functions.{callees}
use Rattle.eval_parts.specs.Steps.{is_held}
use Rattle.eval_parts.specs.Surroundings.{now_of, running}
use Rattle.eval_parts.specs.declared.halt.Halt.{Halt}
use Rattle.eval_parts.specs.declared.halt.Halt.TheVariants as H
use Rattle.eval_parts.specs.Answers.{Halts}
use Rattle.constant_exprs.specs.Constants.{IsBlind}
use Rattle.known_indices.specs.declared.known.IndexFail.{IndexFail}
use Rattle.known_indices.specs.declared.known.IndexFail.TheVariants as F
use Rattle.known_indices.specs.declared.known.KnownIndex.{KnownIndex}

-- where no signal and no local is held
abbrev pub unheld : List Function → Around
unheld fs = record { now = now_of [] []; holds = is_held []; callee = callees fs }

-- its value takes over 65,536 turns of a loop or 2^20 statements, or reads a signal
abbrev pub takes_too_long : List Function → Expr → Bool
takes_too_long fs e = is_some ((meaning e).values (unheld fs) (running (Some 1048576))).stop

-- why it has no value
abbrev pub IsFailOf : Halt → ℕ → IndexFail → Type 0
IsFailOf H.Memory at f = f ≡ F.Memory
IsFailOf (H.NotHeld n) at f = f ≡ F.TooLong at
IsFailOf H.Turns at f = f ≡ F.TooLong at

-- its bits where nothing is held, or what stops its run
abbrev pub BitsGive : Result (List Bit4) Halt → List Function → Expr → Type 0
BitsGive (Ok v) fs e = v ≡ S.alone (meaning e) (unheld fs)
BitsGive (Err h) fs e = Halts h ((meaning e).values (unheld fs) (running (Some 1048576)))

-- its number where nothing is held, if no bit of it is x or z
abbrev pub NumberGives : Result KnownIndex IndexFail → List Function → Expr → Type 0
NumberGives (Ok x) fs e = x.number ≡ P.index_of (meaning e) (unheld fs)
NumberGives (Err F.Memory) fs e = ⊤
NumberGives (Err (F.TooLong at)) fs e = (at ≡ e.spot.at) × (takes_too_long fs e ≡ true)

-- It is constant where nothing is known, has this number, or none, whatever is held where these functions are called, and names
-- nothing.
pub record IsKnown (fs : List Function) (e : Expr) (z : Option ℤ) : Type 0 where
  pub constant : (k : Sight) → IsBlind k → (meaning e).constant k ≡ true
  pub number : (a : Around) → a.callee ≡ callees fs → P.index_of (meaning e) a ≡ z
  pub none : (meaning e).names ≡ []

-- it is constant in no sight in which nothing is sure
abbrev pub IsVariable : Expr → Type 0
IsVariable e = (k : Sight) → IsBlind k → (meaning e).constant k ≡ false

-- it is constant, and its value takes too long
pub record IsTooLong (fs : List Function) (e : Expr) (at : ℕ) : Type 0 where
  pub constant : (k : Sight) → IsBlind k → (meaning e).constant k ≡ true
  pub place : at ≡ e.spot.at
  pub long : takes_too_long fs e ≡ true

abbrev pub IndexGives : Result (Option KnownIndex) IndexFail → List Function → Expr → Type 0
IndexGives (Ok None) fs e = IsVariable e
IndexGives (Ok (Some x)) fs e = IsKnown fs e x.number
IndexGives (Err F.Memory) fs e = ⊤
IndexGives (Err (F.TooLong at)) fs e = IsTooLong fs e at
