use Rattle.std.proofs.Common.{◌≡◌, true, ap, sym, subst}
use Rattle.expr_type.specs.Answers.{source}
use Rattle.expr_type.specs.Functions.{name_of}
use Rattle.expr_type.specs.Names.{Context, RoutineText, OfFunction, OfTask, spot}
use Rattle.routine_fits.specs.Sound.{AllSoundFunctions}
use Rattle.routine_laws.specs.Texts.{head_written, items_of}
use Rattle.source_routines.specs.Texts.{text_of}
use Rattle.stmt_laws.specs.Written.{items_written}
use Rattle.typing_scopes.specs.Scopes.{context_of}
use Rattle.typing_scopes.proofs.Behind.{needs-alike}
use Rattle.typing_walks.specs.Keeps.{Surrounded}
use Rattle.typing_stmts.proofs.Made.{known-by, spot-there, text-there}
use Rattle.typing_stmts.proofs.routines.by_text.Goals as goal

pub by_function-requires-clause-needs : goal.by_function-requires-clause-needs
by_function-requires-clause-needs g c = needs-alike _ _ _ _ _ _ (ap (λ (x : Context). x.routine) c.over-outer.ensures.context) c.requires.needs

pub by_function-requires-clause-names : goal.by_function-requires-clause-names
by_function-requires-clause-names g c = subst (λ (x : Context). Surrounded AllSoundFunctions x) (sym c.over-outer.ensures.context) c.requires.names

pub by_function-requires-clause-written : goal.by_function-requires-clause-written
by_function-requires-clause-written g c = subst (λ (t : RoutineText). head_written t ≡ true) (ap text_of c.in-Function.is) c.requires.written

pub by_function-requires-clause-items : goal.by_function-requires-clause-items
by_function-requires-clause-items g c = subst (λ (t : RoutineText). items_written (items_of t) ≡ true) (ap text_of c.in-Function.is) c.requires.items

pub by_task-requires-clause-needs : goal.by_task-requires-clause-needs
by_task-requires-clause-needs g c = needs-alike _ _ _ _ _ _ (ap (λ (x : Context). x.routine) c.over-outer.ensures.context) c.requires.needs

pub by_task-requires-clause-names : goal.by_task-requires-clause-names
by_task-requires-clause-names g c = subst (λ (x : Context). Surrounded AllSoundFunctions x) (sym c.over-outer.ensures.context) c.requires.names

pub by_task-requires-clause-written : goal.by_task-requires-clause-written
by_task-requires-clause-written g c = subst (λ (t : RoutineText). head_written t ≡ true) (ap text_of c.in-Task.is) c.requires.written

pub by_task-requires-clause-items : goal.by_task-requires-clause-items
by_task-requires-clause-items g c = subst (λ (t : RoutineText). items_written (items_of t) ≡ true) (ap text_of c.in-Task.is) c.requires.items

pub returns-in-Function-clause-value : goal.returns-in-Function-clause-value
returns-in-Function-clause-value g c h instance path =
    let k = g.B.Names.context c.args.text.now in
    let j = context_of g.B.Names.context c.over-outer.result in
    let s = text_of c.args.routine in
    let t = OfFunction c.in-Function.function.now in
    let is : s ≡ t = ap text_of c.in-Function.is in
    let at : c.in_ok-spot.spot ≡ spot k.source (name_of s) = spot-there k (source c.text.result) s c.name.result c.in_ok-spot.spot c.in_ok-spot.ensures c.text.ensures c.name.ensures in
    text-there k j h s t c.by_function.result c.args.known.now.functions c.by_function.new.known.functions c.over-outer.ensures.context is
    (c.by_function.ensures.value h (known-by k j h s t c.args.instance c.args.path c.in_ok-spot.spot c.over-outer.ensures.context is at instance path))

pub returns-clause-value : goal.returns-clause-value
returns-clause-value g c h instance path =
    let k = g.B.Names.context c.args.text.now in
    let j = context_of g.B.Names.context c.over-outer.result in
    let s = text_of c.args.routine in
    let t = OfTask c.in-Task.task.now in
    let is : s ≡ t = ap text_of c.in-Task.is in
    let at : c.in_ok-spot.spot ≡ spot k.source (name_of s) = spot-there k (source c.text.result) s c.name.result c.in_ok-spot.spot c.in_ok-spot.ensures c.text.ensures c.name.ensures in
    text-there k j h s t c.by_task.result c.args.known.now.functions c.by_task.new.known.functions c.over-outer.ensures.context is
    (c.by_task.ensures.value h (known-by k j h s t c.args.instance c.args.path c.in_ok-spot.spot c.over-outer.ensures.context is at instance path))
