use Rattle.std.proofs.Common.{◌≡◌, drop}
use Rattle.sv_macro.specs.Definitions.{first_barred}
use Rattle.sv_macro.proofs.definition.first_barred.Given as goal

abbrev pub invariant-loop-token : goal.invariant-loop-token
invariant-loop-token l = first_barred (drop l.token-index l.body) ≡ first_barred l.body
