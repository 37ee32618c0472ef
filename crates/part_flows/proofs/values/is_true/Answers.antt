use Rattle.part_flows.proofs.Constants as C
use Rattle.part_flows.proofs.values.is_true.Goals as goal

pub returns : goal.returns
returns c = C.truth-is c.args.known c.args.e.now c.in_ok-value.value c.has_one.result c.requires.constant c.in_ok-value.ensures c.has_one.ensures
