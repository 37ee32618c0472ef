use Rattle.std.proofs.Common.{◌≡◌, List, true, false, arith, rules, Some, None, sym, ap, ◌∙◌, subst}
use Rattle.std.specs.Prelude.{Result, Ok, Err}
use Rattle.sv_types.specs.declared.frame.ParamValue.{ParamValue}
use Rattle.expr_type.specs.declared.halt.Halt.{Halt}
use Rattle.expr_type.specs.declared.halt.Halt.TheVariants as H
use Rattle.expr_type.specs.Names.{Context, with_values}
use Rattle.expr_type.specs.Statements.{nothing, type_names, variables_of}
use Rattle.expr_type.specs.Types.{TypeFound}
use Rattle.routine_fits.specs.Sound.{AllSoundFunctions}
use Rattle.typing_steps.specs.Steps.{TypesTo}
use Rattle.typing_scopes.specs.Scopes.{context_of}
use Rattle.typing_scopes.proofs.Behind.{needs-alike}
use Rattle.typing_walks.specs.Keeps.{Surrounded}
use Rattle.stmt_laws.proofs.Declared.{names-sound}
use Rattle.typing_declarations.specs.Blocks.{declared, named}
use Rattle.typing_declarations.specs.Rows.{FoundSound}
use Rattle.typing_declarations.proofs.FoundTypes.{block-ahead, found-breaks, found-quiet, found-whole}
use Rattle.typing_declarations.proofs.declarators.variables_of.Goals as goal

pub all_variables-requires-clause-needs : goal.all_variables-requires-clause-needs
all_variables-requires-clause-needs g c =
    needs-alike _ _ _ _ (context_of g.B.Names.context c.new-block.result.scope) (context_of g.B.Names.context c.args.names.now) (ap (λ (k : Context). k.routine) c.new-block.ensures.context) c.requires.needs

pub all_variables-requires-clause-names : goal.all_variables-requires-clause-names
all_variables-requires-clause-names g c =
    let k = context_of g.B.Names.context c.args.names.now in
    let f : TypeFound = record { of = c.f.inside.of; names = c.f.inside.names } in
    let is : c.args.found ≡ Ok f = c.in-Ok.is ∙ ap Ok (sym c.f.view_is) in
    let sound : FoundSound (Ok f) c.args.known.now.functions = subst (λ (r : Result TypeFound Halt). FoundSound r c.args.known.now.functions) is c.requires.found in
    subst (λ (j : Context). Surrounded AllSoundFunctions j) (sym c.new-block.ensures.context) (names-sound AllSoundFunctions k f c.args.known.now.functions c.requires.names sound)

pub all_variables-requires-clause-full : goal.all_variables-requires-clause-full
all_variables-requires-clause-full g c =
    let f : TypeFound = record { of = c.f.inside.of; names = c.f.inside.names } in
    let is : c.args.found ≡ Ok f = c.in-Ok.is ∙ ap Ok (sym c.f.view_is) in
    let sound : FoundSound (Ok f) c.args.known.now.functions = subst (λ (r : Result TypeFound Halt). FoundSound r c.args.known.now.functions) is c.requires.found in
    sound.full

pub returns-in-Ok-clause-value : goal.returns-in-Ok-clause-value
returns-in-Ok-clause-value g c =
    λ x fs p.
    let k = context_of g.B.Names.context c.args.names.now in
    let ds = c.args.ds.now in
    let gs = c.args.known.now.functions in
    let f : TypeFound = record { of = c.f.inside.of; names = c.f.inside.names } in
    let is : c.args.found ≡ Ok f = c.in-Ok.is ∙ ap Ok (sym c.f.view_is) in
    let row = variables_of k x ds fs in
    c.all_variables.ensures.value row
    (block-ahead true (declared c.new-block.result) (type_names f) (context_of g.B.Names.context c.new-block.result.scope) (with_values f.names k) (Some f.of) ds row gs c.new-block.ensures.brings c.new-block.ensures.context
    (found-whole k x ds fs gs f (subst (λ (r : Result TypeFound Halt). TypesTo r (x fs) gs) is p)))

pub all_variables-requires-in-Err-Quiet-clause-needs : goal.all_variables-requires-in-Err-Quiet-clause-needs
all_variables-requires-in-Err-Quiet-clause-needs g c =
    needs-alike _ _ _ _ (context_of g.B.Names.context c.new-block-in-Err-Quiet.result.scope) (context_of g.B.Names.context c.args.names.now) (ap (λ (k : Context). k.routine) c.new-block-in-Err-Quiet.ensures.context) c.requires.needs

pub all_variables-requires-in-Err-Quiet-clause-names : goal.all_variables-requires-in-Err-Quiet-clause-names
all_variables-requires-in-Err-Quiet-clause-names g c =
    let k = context_of g.B.Names.context c.args.names.now in
    let context : context_of g.B.Names.context c.new-block-in-Err-Quiet.result.scope ≡ k = c.new-block-in-Err-Quiet.ensures.context ∙ ap (λ (vs : List ParamValue). with_values vs k) c.new.ensures in
    subst (λ (j : Context). Surrounded AllSoundFunctions j) (sym context) c.requires.names

pub returns-in-Err-Quiet-clause-value : goal.returns-in-Err-Quiet-clause-value
returns-in-Err-Quiet-clause-value g c =
    λ x fs p.
    let k = context_of g.B.Names.context c.args.names.now in
    let ds = c.args.ds.now in
    let gs = c.args.known.now.functions in
    let row = variables_of k x ds fs in
    let is : c.args.found ≡ Err H.Quiet = first_of (cc (c.in-Err-Quiet.is, c.in-Err-Quiet.field-0-is), simp (c.in-Err-Quiet.is, c.in-Err-Quiet.field-0-is), search rules, grind (arith, c.in-Err-Quiet.is, c.in-Err-Quiet.field-0-is)) in
    let context : context_of g.B.Names.context c.new-block-in-Err-Quiet.result.scope ≡ k = c.new-block-in-Err-Quiet.ensures.context ∙ ap (λ (vs : List ParamValue). with_values vs k) c.new.ensures in
    let brings : declared c.new-block-in-Err-Quiet.result ≡ nothing = c.new-block-in-Err-Quiet.ensures.brings ∙ ap named c.new.ensures in
    c.all_variables-in-Err-Quiet.ensures.value row
    (block-ahead false (declared c.new-block-in-Err-Quiet.result) nothing (context_of g.B.Names.context c.new-block-in-Err-Quiet.result.scope) k None ds row gs brings context
    (found-quiet k x ds fs gs nothing (subst (λ (r : Result TypeFound Halt). TypesTo r (x fs) gs) is p)))

pub returns-in-Err-Breaks-clause-value : goal.returns-in-Err-Breaks-clause-value
returns-in-Err-Breaks-clause-value g c =
    λ x fs p.
    let k = context_of g.B.Names.context c.args.names.now in
    let gs = c.args.known.now.functions in
    let is : c.args.found ≡ Err (H.Breaks c.in-Err-Breaks.at c.in-Err-Breaks.rule) = first_of (cc (c.in-Err-Breaks.is, c.in-Err-Breaks.field-0-is), simp (c.in-Err-Breaks.is, c.in-Err-Breaks.field-0-is), search rules, grind (arith, c.in-Err-Breaks.is, c.in-Err-Breaks.field-0-is)) in
    found-breaks k x c.args.ds.now fs gs c.in-Err-Breaks.at c.in-Err-Breaks.rule gs (subst (λ (r : Result TypeFound Halt). TypesTo r (x fs) gs) is p)
