use Rattle.routine_fits.specs.Sound.{AllSoundFunctions}
use Rattle.expr_type.specs.Types.{typed_text}
use Rattle.typing_scopes.specs.Scopes.{context_of}
use Rattle.stmt_laws.proofs.Declared.{text-keeps}
use Rattle.typing_declarations.proofs.FoundTypes.{found-sound}
use Rattle.typing_declarations.proofs.declarators.variables.Goals as goal

pub variables_of-requires-clause-found : goal.variables_of-requires-clause-found
variables_of-requires-clause-found g c =
    let k = context_of g.B.Names.context c.args.names.now in
    let of = c.args.of.now in
    let fs = c.args.known.now.functions in
    found-sound AllSoundFunctions c.typed_text-found.result (typed_text of k fs) fs c.typed_text-found.new.known.functions c.typed_text-found.ensures.value
    (text-keeps AllSoundFunctions k of c.requires.names c.requires.type_written fs c.requires.ready.sound)

pub returns-clause-value : goal.returns-clause-value
returns-clause-value g c =
    let k = context_of g.B.Names.context c.args.names.now in
    c.variables_of.ensures.value (typed_text c.args.of.now k) c.args.known.now.functions c.typed_text-found.ensures.value
