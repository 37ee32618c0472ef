use Rattle.std.proofs.Common.{◌≡◌, ◌≤◌, drop}
use Rattle.sv2v_top.specs.source.Literals.{decimal, decimal_from}
use Rattle.sv2v_top.proofs.literals.decimal_up_to.Given as goal

abbrev pub invariant-loop-c : goal.invariant-loop-c
invariant-loop-c l = record {
  so_far : decimal_from l.number (drop l.c-index l.text) ≡ decimal l.text;
  within : l.number ≤ l.limit;
}
