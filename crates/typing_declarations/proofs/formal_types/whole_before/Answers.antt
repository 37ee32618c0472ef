use Rattle.std.proofs.Common.{[]}
use Rattle.typing_declarations.specs.Formals.{before_of}
use Rattle.typing_declarations.proofs.Arms.{before-found, before-none, perhaps-names}
use Rattle.typing_declarations.proofs.formal_types.whole_before.Goals as goal

pub returns-in-None-clause-value : goal.returns-in-None-clause-value
returns-in-None-clause-value c fs = before-none (before_of c.args.before) fs c.in-None.is

pub returns-in-Some-clause-value : goal.returns-in-Some-clause-value
returns-in-Some-clause-value c fs = before-found (before_of c.args.before) c.in-Some.found fs c.in-Some.is

pub returns-in-Some-clause-sound : goal.returns-in-Some-clause-sound
returns-in-Some-clause-sound c = perhaps-names c.args.before.of c.in-Some.found [] c.in-Some.is (c.requires [])
