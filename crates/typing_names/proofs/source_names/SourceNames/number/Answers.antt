use Rattle.std.proofs.Common.{arith}
use Rattle.typing_names.proofs.Before.{number-most}
use Rattle.typing_names.proofs.source_names.SourceNames.number.Goals as goal

pub overflow_cast-result : goal.overflow_cast-result
overflow_cast-result c =
    omega (arith, c.declared.ensures, number-most c.args.self.now.tree.now c.args.self.now.names.now c.args.token c.args.self.now.names.now.declared, c.args.self.now.few)
