use Rattle.std.proofs.Common.{◌≡◌, ◌++◌, map, drop}
use Rattle.bit_needs.specs.Writers.{piece}
use Rattle.bit_needs.proofs.writers.add_pieces.Given as goal

abbrev pub invariant-loop-span : goal.invariant-loop-span
invariant-loop-span l = l.to.items ++ map (piece l.by) (drop l.span-index l.spans) ≡ l.fn.to.items ++ map (piece l.by) l.spans
