use Rattle.std.proofs.Common.{◌≡◌, ◌%◌, ◌^◌, drop}
use Rattle.expr_type.specs.Literals.{number_from}
use Rattle.literal_types.proofs.numbers.low_word.Given as goal

-- what is read, and the digits that are left
abbrev pub invariant-loop-c : goal.invariant-loop-c
invariant-loop-c l = record {
  whole : number_from l.n (drop l.c-index l.digits) % 2 ^ 128 ≡ number_from 0 l.digits % 2 ^ 128;
  small : l.n % 2 ^ 128 ≡ l.n;
}
