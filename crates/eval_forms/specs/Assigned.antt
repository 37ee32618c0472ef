-- What is assigned to places, from the values that were asked.
use Rattle.std.specs.Prelude.{◌≡◌, ◌≤◌, ℕ, Bool, max, List, map, length}
use Rattle.b4_core.specs.declared.bit.Bit4.{Bit4}
use Rattle.sv_types.specs.declared.expression.Expr.{Expr}
use Rattle.sv_types.specs.Surroundings.{Around, Parameter}
use Rattle.sv_types.specs.Meanings.{Meaning, wide, signed}
use Rattle.sv_types.specs.Expressions.{meaning}
use Rattle.eval_parts.specs.Answers.{assigned}
use Rattle.eval_parts.specs.Limits.{AllFitAt}
use Rattle.eval_forms.specs.Asked.{assigned_asked, widths_asked, all_bits}

-- the value of an expression at the larger width of a target of n bits and its own
pub record IsGivenFrom (m : Meaning) (n : ℕ) (v : List Bit4) : Type 0 where
  pub narrow : m.widest ≤ 4194304
  pub typed : m.misfits ≡ 0
  pub length : length v ≡ max n (wide m)

-- what it gives to such a target
pub record GivenBy (m : Meaning) (n : ℕ) (v r : List Bit4) : Type 0 where
  pub value : (a : Around) → v ≡ m.value (max n (wide m)) (signed m) a → r ≡ m.given n a

-- values for places with these marks
pub record PlacesFit (places : List (List Bool)) (es : List Expr) (vs : List (List Bit4)) : Type 0 where
  pub formals : ℕ → List Parameter
  pub fits : AllFitAt places es formals
  pub lengths : map length vs ≡ widths_asked (assigned_asked places es)

-- what is assigned to them
pub record AssignedBy (places : List (List Bool)) (es : List Expr) (vs rs : List (List Bit4)) : Type 0 where
  pub value : (a : Around) → vs ≡ all_bits (assigned_asked places es) a → rs ≡ assigned places (map meaning es) a
