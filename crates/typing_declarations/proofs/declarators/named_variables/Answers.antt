use Rattle.routine_fits.specs.Sound.{AllSoundFunctions}
use Rattle.expr_type.specs.Statements.{selected_type}
use Rattle.typing_scopes.specs.Scopes.{context_of}
use Rattle.stmt_laws.proofs.Declared.{selected-keeps}
use Rattle.typing_declarations.proofs.FoundTypes.{found-sound}
use Rattle.typing_declarations.proofs.declarators.named_variables.Goals as goal

pub variables_of-requires-clause-found : goal.variables_of-requires-clause-found
variables_of-requires-clause-found g c =
    let k = context_of g.B.Names.context c.args.names.now in
    let fs = c.args.known.now.functions in
    found-sound AllSoundFunctions c.selected_type-found.result (selected_type k c.args.of c.args.selects.now fs) fs c.selected_type-found.new.known.functions c.selected_type-found.ensures.value
    (selected-keeps AllSoundFunctions k c.args.of c.args.selects.now c.requires.names c.requires.type_written fs c.requires.ready.sound)

pub returns-clause-value : goal.returns-clause-value
returns-clause-value g c =
    let k = context_of g.B.Names.context c.args.names.now in
    c.variables_of.ensures.value (selected_type k c.args.of c.args.selects.now) c.args.known.now.functions c.selected_type-found.ensures.value
