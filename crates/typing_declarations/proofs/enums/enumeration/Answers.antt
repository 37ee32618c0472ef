use Rattle.std.proofs.Common.{◌≡◌, List, subst}
use Rattle.expr_type.specs.Types as T
use Rattle.routine_fits.specs.Sound.{AllSoundFunctions}
use Rattle.typing_scopes.specs.Scopes.{context_of}
use Rattle.typing_declarations.specs.declared.enum_names.Named.{Named}
use Rattle.typing_declarations.specs.Naming.{values_of}
use Rattle.typing_declarations.proofs.Declaring.{base-full, enum-sounds, enum-types}
use Rattle.typing_declarations.proofs.enums.enumeration.Goals as goal

pub names_of-requires-clause-full : goal.names_of-requires-clause-full
names_of-requires-clause-full g c =
    base-full AllSoundFunctions (context_of g.B.Names.context c.args.names.now) c.args.base.now c.in_ok-base.base c.args.known.now.functions c.base_type.new.known.functions c.requires.names c.requires.base c.requires.ready.sound
    c.in_ok-base.ensures.value

pub returns-clause-sound : goal.returns-clause-sound
returns-clause-sound g c =
    let k = context_of g.B.Names.context c.args.names.now in
    let fs = c.args.known.now.functions in
    let gs = c.base_type.new.known.functions in
    let hs = c.names_of.new.known.functions in
    let b = c.in_ok-base.base in
    let of = subst (λ (vs : List Named). c.in_ok-found.found ≡ T.enum_found k c.args.keyword b (values_of b vs)) c.as_slice.ensures c.in_ok-found.ensures in
    enum-sounds AllSoundFunctions k c.args.keyword c.args.base.now c.args.list.now c.in_ok-found.found fs hs c.requires.names c.requires.base c.requires.list c.requires.ready.sound
    (enum-types k c.args.keyword c.args.base.now b c.args.list.now (values_of b c.in_ok-met.met) c.in_ok-found.found fs gs hs c.in_ok-base.ensures.value c.in_ok-met.ensures.value of)
