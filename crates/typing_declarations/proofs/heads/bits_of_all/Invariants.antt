use Rattle.std.proofs.Common.{◌≡◌, ◌≤◌, ◌+◌, min, drop}
use Rattle.routine_fits.specs.Sound.{AllFormalsNarrow}
use Rattle.typing_declarations.specs.FormalRows.{bits_out}
use Rattle.typing_declarations.proofs.heads.bits_of_all.Given as goal

abbrev pub invariant-loop-formal : goal.invariant-loop-formal
invariant-loop-formal l = record {
  bits : min (l.sum + bits_out (drop l.formal-index l.list)) 65537 ≡ min (bits_out l.list) 65537;
  few : l.sum ≤ 65537;
  narrow : AllFormalsNarrow (drop l.formal-index l.list);
}
