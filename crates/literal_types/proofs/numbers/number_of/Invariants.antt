use Rattle.std.proofs.Common.{◌≡◌, ◌≤◌, min, drop}
use Rattle.expr_type.specs.Literals.{number_from}
use Rattle.literal_types.proofs.numbers.number_of.Given as goal

-- what is read, and the digits that are left
abbrev pub invariant-loop-c : goal.invariant-loop-c
invariant-loop-c l = record {
  whole : min (number_from l.n (drop l.c-index l.digits)) 4294967296 ≡ min (number_from 0 l.digits) 4294967296;
  small : l.n ≤ 4294967296;
}
