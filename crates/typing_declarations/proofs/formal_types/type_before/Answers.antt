use Rattle.typing_declarations.specs.Formals.{before_of}
use Rattle.typing_declarations.proofs.Arms.{before-one}
use Rattle.typing_declarations.proofs.formal_types.type_before.Goals as goal

pub returns-in-None-clause-value : goal.returns-in-None-clause-value
returns-in-None-clause-value c fs = before-one (before_of c.args.before) c.args.direction c.whole_before.result fs c.in-None.is (c.whole_before.ensures.value fs)
