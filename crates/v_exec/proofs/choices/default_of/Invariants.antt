use Rattle.std.proofs.Common.{◌≡◌, drop, map}
use Rattle.v_meaning.specs.Statements.{otherwise}
use Rattle.v_exec.specs.Choices.{item_of}
use Rattle.v_exec.proofs.choices.default_of.Given as goal

abbrev pub invariant-loop-i : goal.invariant-loop-i
invariant-loop-i l = otherwise (map item_of (drop l.i l.items)) ≡ otherwise (map item_of l.fn.items)
