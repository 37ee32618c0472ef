use Rattle.std.proofs.Common.{◌≡◌, take}
use Rattle.sv_macro.specs.Tables.{macros_in}
use Rattle.sv_preproc.specs.Runs.{command_macros}
use Rattle.sv_preproc.proofs.expansion.command_macros.Given as goal

abbrev pub invariant-loop-define : goal.invariant-loop-define
invariant-loop-define l = macros_in l.table ≡ command_macros (take l.define-index l.defines)
