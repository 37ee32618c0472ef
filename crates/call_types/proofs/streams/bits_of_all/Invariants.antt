use Rattle.std.proofs.Common.{◌≡◌, ◌≤◌, ◌+◌, min, drop}
use Rattle.expr_type.specs.Operators.{all_bits}
use Rattle.operand_types.specs.Allowed.{AllNarrow}
use Rattle.call_types.proofs.streams.bits_of_all.Given as goal

abbrev pub invariant-loop-part : goal.invariant-loop-part
invariant-loop-part l = record {
  bits : min (l.sum + all_bits (drop l.part-index l.parts)) 65537 ≡ min (all_bits l.parts) 65537;
  few : l.sum ≤ 65537;
  narrow : AllNarrow (drop l.part-index l.parts);
}
