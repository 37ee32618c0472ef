use Rattle.std.proofs.Common.{◌≡◌, true, drop}
use Rattle.sv_macro.specs.Definitions.{formals_from}
use Rattle.sv_macro.proofs.FormalLists.{behind_formals}
use Rattle.sv_macro.proofs.definition.some_formals.Given as goal

abbrev pub invariant-loop-at : goal.invariant-loop-at
invariant-loop-at l = behind_formals l.names l.at (formals_from l.wanted (drop l.at l.tokens)) ≡ formals_from true l.tokens
