use Rattle.std.proofs.Common.{◌≡◌, false, drop}
use Rattle.sv_lexer.specs.Literals.{string_rest}
use Rattle.sv_lexer.proofs.Scans.{shifted}
use Rattle.sv_lexer.proofs.literals.string_rest.Given as goal

abbrev pub invariant-loop-at : goal.invariant-loop-at
invariant-loop-at l = shifted l.at (string_rest l.escaped (drop l.at l.bytes)) ≡ string_rest false l.bytes
