use Rattle.cycle_dst.proofs.Running.{where-if}
use Rattle.cycle_dst.proofs.TopPorts.{top-some}
use Rattle.cycle_dst.proofs.ports.inputs_of.Goals as goal

pub returns-in-Some : goal.returns-in-Some
returns-in-Some c =
    let d = c.args.design in
    where-if c.module_inputs.result
    (λ ns got. top-some d.tables.now d.modules.now c.args.top.now c.number_named.result c.in-Some.k _ _ ns c.requires.tables c.number_named.ensures c.in-Some.is c.at.ensures c.at-in-Some.ensures got)
    c.module_inputs.ensures
