use Rattle.std.proofs.Common.{◌≡◌, true, map, drop}
use Rattle.std.specs.List.{list_all}
use Rattle.v_meaning.specs.Modules.{all_some, as_target}
use Rattle.v_meaning.specs.Statements.{target}
use Rattle.v_processes.specs.Connected.{behind}
use Rattle.v_processes.specs.Stems.{is_decimal}
use Rattle.v_processes.proofs.connected.+connected.Given as goal

abbrev pub invariant-lvals_of-loop-item : goal.invariant-lvals_of-loop-item
invariant-lvals_of-loop-item l = record {
  means : behind (map target l.made) (all_some (map as_target (drop l.item-index l.items))) ≡ all_some (map as_target l.fn.items);
  decimal : list_all is_decimal l.made ≡ true;
}
