use Rattle.std.proofs.Common.{◌≡◌, ◌≤◌, min, drop}
use Rattle.std.specs.Str.Parse.{digits_value_after, digits_value}
use Rattle.v_lexer.proofs.numbers.decimal.Given as goal

abbrev pub invariant-loop-digit : goal.invariant-loop-digit
invariant-loop-digit l = record {
  value : min (digits_value_after 10 l.value (drop l.digit-index l.digits)) 4294967296 ≡ min (digits_value 10 l.digits) 4294967296;
  small : l.value ≤ 4294967296;
}
