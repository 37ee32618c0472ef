use Rattle.std.proofs.Common.{◌≡◌, take, flat_map}
use Rattle.v_meaning.specs.Modules.{signals}
use Rattle.v_modules.specs.Tables.{items_of}
use Rattle.cycle_dst.specs.Ports.{input_named}
use Rattle.cycle_dst.proofs.ports.inputs_among.Given as goal

abbrev pub invariant-loop-name : goal.invariant-loop-name
invariant-loop-name l = l.inputs ≡ flat_map (input_named (signals (items_of l.table))) (take l.name-index l.names)
