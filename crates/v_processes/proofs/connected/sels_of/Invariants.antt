use Rattle.std.proofs.Common.{◌≡◌, true, map, drop}
use Rattle.std.specs.List.{list_all}
use Rattle.v_meaning.specs.Modules.{all_some}
use Rattle.v_meaning.specs.Values.{sel_meaning}
use Rattle.v_processes.specs.Connected.{connected_of_sel, behind}
use Rattle.v_processes.specs.Stems.{is_decimal_sel}
use Rattle.v_processes.proofs.connected.sels_of.Given as goal

abbrev pub invariant-loop-sel : goal.invariant-loop-sel
invariant-loop-sel l = record {
  means : behind (map sel_meaning l.made) (all_some (map connected_of_sel (drop l.sel-index l.sels))) ≡ all_some (map connected_of_sel l.fn.sels);
  decimal : list_all is_decimal_sel l.made ≡ true;
}
