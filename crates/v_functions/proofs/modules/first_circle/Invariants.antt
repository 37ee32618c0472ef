use Rattle.std.proofs.Common.{◌≡◌, drop}
use Rattle.v_functions.specs.Modules.{modules_added, nothing_found}
use Rattle.v_functions.proofs.modules.first_circle.Given as goal

abbrev pub invariant-loop-module : goal.invariant-loop-module
invariant-loop-module l = modules_added (drop l.module-index l.modules) l.found ≡ modules_added l.fn.modules nothing_found
