use Rattle.std.proofs.Common.{◌≡◌, ◌++◌, map, drop}
use Rattle.v_tree.specs.Tokens.{bit_of}
use Rattle.v_lexer.proofs.numbers.vector.Given as goal

abbrev pub invariant-loop-digit : goal.invariant-loop-digit
invariant-loop-digit l = l.bits.items ++ map bit_of (drop l.digit-index l.digits) ≡ map bit_of l.digits
