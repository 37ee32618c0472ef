use Rattle.std.proofs.Common.{◌≡◌, ◌++◌, map, take, drop}
use Rattle.sv2v_top.specs.source.Names.{port_names, name_of, variables, undeclared_in, first_undeclared}
use Rattle.sv2v_top.specs.source.Lookup.{Numbers}
use Rattle.sv2v_top.proofs.elab_build.names.signal_table.Given as goal

abbrev pub invariant-loop-item : goal.invariant-loop-item
invariant-loop-item l = record {
  named : Numbers l.names (port_names l.source ++ map name_of (variables (take l.item-index l.source.items)));
  rest : undeclared_in l.source.name.word (port_names l.source ++ map name_of (variables (take l.item-index l.source.items))) (drop l.item-index l.source.items) ≡ first_undeclared l.source;
}
