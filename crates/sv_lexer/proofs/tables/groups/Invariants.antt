use Rattle.std.proofs.Common.{take}
use Rattle.sv_lexer.specs.Groups.{IsGrouped}
use Rattle.sv_lexer.proofs.tables.groups.Given as goal

abbrev pub invariant-loop-at : goal.invariant-loop-at
invariant-loop-at l = IsGrouped (take l.at l.words) l.groups
