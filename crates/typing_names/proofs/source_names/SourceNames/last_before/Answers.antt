use Rattle.std.proofs.Common.{arith}
use Rattle.typing_names.proofs.Before.{before-most}
use Rattle.typing_names.proofs.source_names.SourceNames.last_before.Goals as goal

pub overflow_cast-result : goal.overflow_cast-result
overflow_cast-result c = omega (arith, c.saturating_sub.ensures, c.declared_before.ensures, before-most c.args.token c.args.self.now.names.now.declared, c.args.self.now.few)
