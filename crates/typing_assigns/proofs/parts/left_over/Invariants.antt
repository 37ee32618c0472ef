use Rattle.std.proofs.Common.{◌≡◌, ◌+◌, ◌%◌, ◌<◌, drop}
use Rattle.expr_type.specs.Operators.{all_bits}
use Rattle.operand_types.specs.Allowed.{AllNarrow}
use Rattle.typing_assigns.proofs.parts.left_over.Given as goal

abbrev pub invariant-loop-part : goal.invariant-loop-part
invariant-loop-part l = record {
  left : (l.left + all_bits (drop l.part-index l.parts)) % l.slice ≡ all_bits l.parts % l.slice;
  small : l.left < l.slice;
  narrow : AllNarrow (drop l.part-index l.parts);
}
