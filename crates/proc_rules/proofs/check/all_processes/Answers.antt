use Rattle.std.proofs.Common.{flat_map}
use Rattle.flow_breaks.specs.Pieces.{second_breaks}
use Rattle.proc_rules.specs.Processes.{own_breaks}
use Rattle.proc_rules.proofs.Joining.{processes-least}
use Rattle.proc_rules.proofs.check.all_processes.Goals as goal

pub returns : goal.returns
returns c =
    let d = c.args.design.now in
    processes-least d c.lesser.result
    (c.lesser.ensures (second_breaks d) (flat_map (own_breaks d) d.processes) (c.in_ok-twice.ensures d c.as_slice-processes.ensures c.requires.found) c.in_ok-own.ensures)
