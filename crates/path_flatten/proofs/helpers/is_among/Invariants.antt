use Rattle.std.proofs.Common.{drop}
use Rattle.row_machine.specs.Valuation.{Member}
use Rattle.path_flatten.proofs.helpers.is_among.Given as goal

abbrev pub invariant-loop-other : goal.invariant-loop-other
invariant-loop-other l = Member l.helpers l.h → Member (drop l.other-index l.helpers) l.h
