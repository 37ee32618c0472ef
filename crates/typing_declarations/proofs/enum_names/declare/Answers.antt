use Rattle.routine_fits.specs.Sound.{AllSoundFunctions}
use Rattle.typing_scopes.specs.Scopes.{context_of}
use Rattle.typing_declarations.proofs.Declaring.{name-declared}
use Rattle.typing_declarations.proofs.enum_names.declare.Goals as goal

pub returns-clause-names : goal.returns-clause-names
returns-clause-names g c =
    name-declared AllSoundFunctions (context_of g.B.Names.context c.add_value.new.self) (context_of g.B.Names.context c.args.names.now) c.args.base.now c.args.at c.declaration.result c.args.bits.now c.in_ok-value.value c.add_value.result
    c.declaration.ensures c.in_ok-value.ensures c.requires.bits c.add_value.ensures.context c.requires.full c.requires.short c.requires.names
