use Rattle.std.proofs.Common.{[], refl}
use Rattle.v_eval.specs.Holding.{holding}
use Rattle.v_exec.specs.Modules.{scope_in, signals_in}
use Rattle.v_steps.proofs.Stepping.{come-from}
use Rattle.v_steps.proofs.runs.run_from.Goals as goal

pub returns : goal.returns
returns c =
    come-from (signals_in c.args.first c.args.of.now) c.args.to.now c.args.port (scope_in c.args.first c.args.depth c.args.of.now) (holding c.args.signals.now [] []) c.in_ok-written.written c.at_once.result refl c.at_once.ensures.written
    c.at_once.ensures.pending c.in_ok-written.ensures.writes c.in_ok-written.ensures.near
