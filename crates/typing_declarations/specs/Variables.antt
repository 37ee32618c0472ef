-- Variables of loops as the code has them.
use Rattle.std.specs.Prelude.{◌≡◌, ℕ, Some, Result, Ok, Err}
use Rattle.sv_types.specs.declared.expression.Expr.{Expr}
use Rattle.expr_type.specs.declared.halt.Halt.{Halt}
use Rattle.expr_type.specs.declared.halt.Halt.TheVariants as H
use Rattle.expr_type.specs.Answers.{Gives}
use Rattle.expr_type.specs.Names as N
use Rattle.expr_type.specs.Names.{Context}
use Rattle.expr_type.specs.Operands.{Operand}
use Rattle.expr_type.specs.Statements as D
use Rattle.expr_type.specs.Types.{TypeFound}
use Rattle.frame_things.specs.Finding.{local_id}
use Rattle.typing_sides.specs.Sides.{first_stop, stop}
use Rattle.typing_declarations.specs.declared.turns.LoopVariable.{LoopVariable}

-- what is given to a variable of a type that may not be whole
abbrev pub GivenFirst : Context → Result TypeFound Halt → Operand → Result Expr Halt → Type 0
GivenFirst k (Ok f) o r = Gives r (D.loop_first k f.of o)
GivenFirst k (Err h) o r = r ≡ Err H.Quiet

-- the variable at a token, of a type and a first value that have been looked at
abbrev pub VariableAt : Context → ℕ → Result TypeFound Halt → Result Expr Halt → Result LoopVariable Halt → Type 0
VariableAt k at of first (Ok v) = (f : TypeFound) × (of ≡ Ok f) × (first ≡ Ok v.first) × (local_id v.local ≡ N.local_id k at f.of)
VariableAt k at of first (Err h) = first_stop (stop of) (stop first) ≡ Some h
