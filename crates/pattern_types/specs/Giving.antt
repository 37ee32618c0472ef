-- What may be given.
use Rattle.std.specs.Prelude.{⊤}
use Rattle.given_types.specs.OperandTypes.{IsShort}
use Rattle.pattern_types.specs.declared.operand.Operand.{Operand-F, out-Operand}
use Rattle.pattern_types.specs.declared.operand.Operand as O

-- a stream has at most 65,536 bits
abbrev pub IsNarrowStream : O.Operand → Type 0
IsNarrowStream v = elim (out-Operand v) as (λ w. Type 0) [ Operand-F.Plain u ↦ ⊤ | Operand-F.Pattern tick times items ↦ ⊤ | Operand-F.Stream u ↦ IsShort u ]
