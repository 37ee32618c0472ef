use Rattle.least_laws.proofs.Texts.{tree-ascends, part-ascends, routine-ascends}
use Rattle.least_laws.proofs.trees_ascend.Goals as goal

pub returns : goal.returns
returns c = record { tree = tree-ascends; part = part-ascends; routine = routine-ascends }
