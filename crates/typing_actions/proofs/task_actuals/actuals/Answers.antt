use Rattle.std.proofs.Common.{arith}
use Rattle.std.specs.Option.{option_copied}
use Rattle.typing_parts.proofs.Keeping.{extends-then}
use Rattle.typing_calls.specs.Lists.{all_meant}
use Rattle.typing_actions.specs.Calls.{actual_of}
use Rattle.typing_actions.proofs.Ways.{all-types, turn-types, written-at}
use Rattle.typing_actions.proofs.task_actuals.actuals.Goals as goal

pub actual-next-requires-clause-written : goal.actual-next-requires-clause-written
actual-next-requires-clause-written g c = written-at c.args.es.now c.loop-i.i c.index-es-i.result c.requires.written (omega arith) c.index-es-i.is

pub loop-i-preserved : goal.loop-i-preserved
loop-i-preserved g c =
    let k = g.S.Names.context c.args.names.now in
    let hs = c.loop-i.known.functions in
    let gs = c.actual-next.new.known.functions in
    record {
      made =
          turn-types k c.args.ways.now c.args.es.now c.loop-i.i c.index-es-i.result c.args.known.now.functions hs gs (option_copied c.at.result) c.loop-i.made c.actual-next.result c.followed-made.result (omega arith)
          c.index-es-i.is c.at.ensures c.followed-made.ensures c.loop-i.invariant.made c.actual-next.ensures.value;
      ready = c.actual-next.ensures.ready;
      keeps = extends-then _ _ _ c.loop-i.invariant.keeps c.actual-next.ensures.keeps;
    }

pub returns-clause-value : goal.returns-clause-value
returns-clause-value g c =
    let k = g.S.Names.context c.args.names.now in
    all-types k c.args.ways.now c.args.es.now c.loop-i.i c.args.known.now.functions c.loop-i.known.functions (all_meant (actual_of k.source) c.loop-i.made) (omega arith) c.loop-i.invariant.made
