use Rattle.std.proofs.Common.{List, sym, subst}
use Rattle.sv_types.specs.declared.statement.Way.{Way}
use Rattle.typing_parts.proofs.Keeping.{extends-then}
use Rattle.typing_actions.specs.TaskActuals.{AreWays}
use Rattle.typing_actions.proofs.Tasks.{call-types}
use Rattle.typing_actions.proofs.calls.counted_task.Goals as goal

pub returns-clause-value : goal.returns-clause-value
returns-clause-value g c =
    let k = g.S.Names.context c.args.names.now in
    let gs = c.needed-place.new.known.functions in
    let hs = c.actuals-passed.new.known.functions in
    let ways = subst (λ (ws : List Way). AreWays c.needed-place.result gs ws) (sym c.as_slice.ensures.value) c.in_ok-ways.ensures in
    call-types k c.args.of c.args.arguments.now c.args.known.now.functions gs hs c.needed-place.result c.as_slice.result.now c.actuals-passed.result c.called.result c.needed-place.ensures.value ways c.actuals-passed.ensures.value
    c.actuals-passed.ensures.keeps c.called.ensures

pub returns-clause-keeps : goal.returns-clause-keeps
returns-clause-keeps g c = extends-then _ _ _ c.needed-place.ensures.keeps c.actuals-passed.ensures.keeps
