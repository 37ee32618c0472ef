use Rattle.v_rules.specs.Tables.{numbers_in}
use Rattle.v_instances.proofs.Counting.{met}
use Rattle.v_instances.proofs.walk.instances.Goals as goal

pub returns : goal.returns
returns c =
    met c.as_slice-modules.result.now c.args.design.now.modules c.args.top.now c.enter.new.walk (numbers_in c.in_ok-table.table) c.new.result c.new-2.result
    c.as_slice-modules.ensures c.new.ensures c.new-2.ensures c.in_ok-table.ensures.numbers c.in_ok-enter.ensures.signals c.in_ok-enter.ensures.instances
