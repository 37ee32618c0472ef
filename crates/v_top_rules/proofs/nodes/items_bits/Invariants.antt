use Rattle.std.proofs.Common.{◌≡◌, drop}
use Rattle.v_top_rules.specs.Sums.{some_bits, bits_from}
use Rattle.v_top_rules.proofs.nodes.items_bits.Given as goal

abbrev pub invariant-loop-item : goal.invariant-loop-item
invariant-loop-item l = bits_from (drop l.item-index l.items) l.bits ≡ bits_from l.fn.items (some_bits 0)
