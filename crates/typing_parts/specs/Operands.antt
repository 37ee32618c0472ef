-- Operands as the code has them.
use Rattle.std.specs.Prelude.{Result, Ok, Err}
use Rattle.expr_type.specs.declared.halt.Halt.{Halt}
use Rattle.expr_type.specs.Names.{Source}
use Rattle.expr_type.specs.Operands.{Operand}
use Rattle.pattern_types.specs.declared.operand.Operand as O
use Rattle.pattern_types.specs.Meaning.{operand_of}

abbrev pub as_operand : Source → Result O.Operand Halt → Result Operand Halt
as_operand k (Ok o) = Ok (operand_of k o)
as_operand k (Err h) = Err h
