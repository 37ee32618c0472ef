use Rattle.std.proofs.Common.{◌≡◌, drop}
use Rattle.std.specs.Option.{is_some}
use Rattle.sv_macro.specs.Definitions.{first_barred}
use Rattle.command_line.proofs.define.has_barred.Given as goal

abbrev pub invariant-loop-token : goal.invariant-loop-token
invariant-loop-token l = is_some (first_barred (drop l.token-index l.tokens)) ≡ is_some (first_barred l.tokens)
