use Rattle.std.proofs.Common.{◌≡◌, drop}
use Rattle.std.specs.List.{list_all}
use Rattle.memory_breaks.specs.Memories.{is_unknown}
use Rattle.memory_breaks.proofs.memories.are_unknown.Given as goal

abbrev pub invariant-loop-b : goal.invariant-loop-b
invariant-loop-b l = list_all is_unknown (drop l.b-index l.bits) ≡ list_all is_unknown l.bits
