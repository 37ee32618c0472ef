use Rattle.std.proofs.Common.{map, take}
use Rattle.sv2v_top.specs.source.Names.{port_word}
use Rattle.sv2v_top.specs.source.Lookup.{Numbers}
use Rattle.sv2v_top.proofs.elab_build.names.port_table.Given as goal

abbrev pub invariant-loop-port : goal.invariant-loop-port
invariant-loop-port l = Numbers l.names (map port_word (take l.port-index l.ports))
