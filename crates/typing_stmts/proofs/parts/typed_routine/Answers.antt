use Rattle.std.proofs.Common.{◌≡◌, rules, subst}
use Rattle.std.specs.Prelude.{Result, Ok, Err, IfOk}
use Rattle.expr_type.specs.declared.halt.Halt.{Halt}
use Rattle.expr_type.specs.declared.halt.Halt.TheVariants as H
use Rattle.routine_laws.specs.Sound.{SoundResult}
use Rattle.typing_scopes.specs.Scopes.{context_of}
use Rattle.typing_declarations.specs.declared.results.ResultFound.{ResultFound}
use Rattle.typing_declarations.specs.Giving.{result_of}
use Rattle.typing_stmts.proofs.Made.{found-is, function-broken, function-stops}
use Rattle.typing_stmts.proofs.parts.typed_routine.Goals as goal

pub whole_result-requires-clause-result : goal.whole_result-requires-clause-result
whole_result-requires-clause-result g c = subst (λ (z : Result ResultFound Halt). IfOk z (λ r. SoundResult (result_of r) c.args.known.now.functions)) c.in-Ok.is c.requires.result

pub returns-in-Ok-clause-value : goal.returns-in-Ok-clause-value
returns-in-Ok-clause-value g c h x fs known is = c.whole_result.ensures.value h x fs known (found-is x c.args.found (Ok c.in-Ok.found) fs c.args.known.now.functions c.in-Ok.is is)

pub returns-in-Err-Memory-clause-value : goal.returns-in-Err-Memory-clause-value
returns-in-Err-Memory-clause-value g c h x fs known is = tt

pub returns-in-Err-Breaks-clause-value : goal.returns-in-Err-Breaks-clause-value
returns-in-Err-Breaks-clause-value g c h x fs known is =
    let e : c.args.found ≡ Err (H.Breaks c.in-Err-Breaks.at c.in-Err-Breaks.rule) = search rules in
    function-broken (context_of g.B.Names.context c.args.outer.now) h c.args.name x c.args.list.now c.args.items.now c.args.found fs c.args.known.now.functions c.args.known.now.functions c.in-Err-Breaks.at c.in-Err-Breaks.rule e is

pub returns-clause-value : goal.returns-clause-value
returns-clause-value g c h x fs known is =
    let e : c.args.found ≡ Err H.Quiet = search rules in
    function-stops (context_of g.B.Names.context c.args.outer.now) h c.args.name x c.args.list.now c.args.items.now fs c.without_result.new.known.functions c.without_result.result
    (c.without_result.ensures.value x fs (found-is x c.args.found (Err H.Quiet) fs c.args.known.now.functions e is))
