use Rattle.std.proofs.Common.{◌≡◌, List, [], sym, subst}
use Rattle.std.specs.Prelude.{Result, Err, Vec, take}
use Rattle.std.specs.declared.alloc.Global.{Global}
use Rattle.sv_types.specs.declared.statement.Function.{Function}
use Rattle.sv_types.specs.declared.statement.Stmt.{Stmt}
use Rattle.expr_type.specs.declared.halt.Halt.{Halt}
use Rattle.typing_actions.specs.declared.passing.Actual.{Actual}
use Rattle.typing_actions.specs.Calls.{actual_of, other_call_of}
use Rattle.typing_actions.specs.TaskActuals.{actuals_of}
use Rattle.function_cuts.proofs.Before.{before-is, sound-before, within-longer}
use Rattle.typing_fits.specs.Sound.{Extends}
use Rattle.typing_steps.specs.Steps.{StopsBy, TypesTo}
use Rattle.typing_calls.specs.Lists.{all_meant}
use Rattle.typing_calls.proofs.Counting.{count-stops}
use Rattle.typing_actions.proofs.calls.other_task.Goals as goal

pub uncounted-requires-clause-within : goal.uncounted-requires-clause-within
uncounted-requires-clause-within g c = within-longer c.args.known.now.functions c.actuals.new.known.functions c.len-before.result c.len-before.ensures c.actuals.ensures.keeps

pub uncounted-requires-clause-sound : goal.uncounted-requires-clause-sound
uncounted-requires-clause-sound g c =
    sound-before c.args.known.now.functions c.actuals.new.known.functions c.len-before.result c.len-before.ensures c.actuals.ensures.keeps c.requires.ready.sound

pub returns-in-Err-clause-value : goal.returns-in-Err-clause-value
returns-in-Err-clause-value g c =
    let k = g.S.Names.context c.args.names.now in
    let es = c.args.arguments.now in
    let fs = c.args.known.now.functions in
    let gs = c.actuals.new.known.functions in
    let hs = c.uncounted.new.known.functions in
    let u = c.uncounted.ensures.value in
    let before : take c.len-before.result gs ≡ fs = before-is fs gs c.len-before.result c.len-before.ensures c.actuals.ensures.keeps in
    let stops = subst (λ (r : Result (Vec Actual Global) Halt). TypesTo (all_meant (actual_of k.source) r) (actuals_of k [] es fs) gs) c.in-Err.is c.actuals.ensures.value in
    subst (λ (ls : List Function). StopsBy c.uncounted.result (other_call_of k c.args.of es ls) hs) before
    (count-stops Stmt k c.args.of (actuals_of k [] es) (take c.len-before.result gs) gs hs u.place c.in-Err.halt c.uncounted.result u.called (subst (λ (ls : List Function). StopsBy c.in-Err.halt (actuals_of k [] es ls) gs) (sym before) stops) u.is)

pub returns-in-Err-clause-keeps : goal.returns-in-Err-clause-keeps
returns-in-Err-clause-keeps g c =
    let fs = c.args.known.now.functions in
    let gs = c.actuals.new.known.functions in
    let before : take c.len-before.result gs ≡ fs = before-is fs gs c.len-before.result c.len-before.ensures c.actuals.ensures.keeps in
    subst (λ (ls : List Function). Extends ls c.uncounted.new.known.functions) before c.uncounted.ensures.keeps
