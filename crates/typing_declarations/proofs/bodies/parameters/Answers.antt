use Rattle.std.proofs.Common.{◌≡◌, List, None, true, sym, ap, ◌∙◌, subst}
use Rattle.sv_types.specs.declared.frame.ParamValue.{ParamValue}
use Rattle.expr_type.specs.Names.{Context, with_values}
use Rattle.expr_type.specs.Statements.{Declared, IsValue, OfValue, nothing, parameters}
use Rattle.routine_fits.specs.Sound.{AllSoundFunctions}
use Rattle.typing_scopes.specs.Scopes.{context_of}
use Rattle.typing_scopes.proofs.Behind.{needs-alike}
use Rattle.typing_walks.specs.Keeps.{Surrounded}
use Rattle.typing_declarations.specs.Blocks.{declared, named}
use Rattle.typing_declarations.specs.Rows.{AheadBy}
use Rattle.typing_declarations.proofs.Joining.{row-begins}
use Rattle.typing_declarations.proofs.bodies.parameters.Goals as goal

pub all_parameters-requires-clause-needs : goal.all_parameters-requires-clause-needs
all_parameters-requires-clause-needs g c =
    needs-alike _ _ _ _ (context_of g.B.Names.context c.new-block.result.scope) (context_of g.B.Names.context c.args.names.now) (ap (λ (k : Context). k.routine) c.new-block.ensures.context) c.requires.needs

pub all_parameters-requires-clause-names : goal.all_parameters-requires-clause-names
all_parameters-requires-clause-names g c =
    let k = context_of g.B.Names.context c.args.names.now in
    let context : context_of g.B.Names.context c.new-block.result.scope ≡ k = c.new-block.ensures.context ∙ ap (λ (vs : List ParamValue). with_values vs k) c.new.ensures in
    subst (λ (j : Context). Surrounded AllSoundFunctions j) (sym context) c.requires.names

pub returns-clause-value : goal.returns-clause-value
returns-clause-value g c =
    let k = context_of g.B.Names.context c.args.names.now in
    let bs = c.args.bodies.now in
    let fs = c.args.known.now.functions in
    let x = parameters k (IsValue (OfValue None)) bs in
    let context : context_of g.B.Names.context c.new-block.result.scope ≡ k = c.new-block.ensures.context ∙ ap (λ (vs : List ParamValue). with_values vs k) c.new.ensures in
    let brings : declared c.new-block.result ≡ nothing = c.new-block.ensures.brings ∙ ap named c.new.ensures in
    c.all_parameters.ensures.value (x fs)
    (subst (λ (d : Declared). AheadBy true d (parameters (context_of g.B.Names.context c.new-block.result.scope) (IsValue (OfValue None)) bs) (x fs) fs) (sym brings)
    (subst (λ (j : Context). AheadBy true nothing (parameters j (IsValue (OfValue None)) bs) (x fs) fs) (sym context) (row-begins x fs)))
