use Rattle.expr_type.specs.Statements.{condition}
use Rattle.typing_parts.proofs.Keeping.{extends-then}
use Rattle.typing_calls.proofs.Each.{all-types, turn-types}
use Rattle.typing_calls.specs.Lists.{all_meant}
use Rattle.typing_actions.specs.Conditions.{as_itself, conditions_of}
use Rattle.typing_actions.proofs.Testing.{all-themselves, one-itself, written-at}
use Rattle.typing_actions.proofs.conditions.item_values.Goals as goal

pub condition-next-requires-clause-written : goal.condition-next-requires-clause-written
condition-next-requires-clause-written g c = written-at c.args.es.now c.loop-e.e-index c.e-item.result c.requires.written c.loop-e-test.true c.e-item.is

pub loop-e-preserved : goal.loop-e-preserved
loop-e-preserved g c =
    let k = g.S.Names.context c.args.names.now in
    let hs = c.loop-e.known.functions in
    let gs = c.condition-next.new.known.functions in
    record {
      made =
          turn-types as_itself (condition k) c.args.es.now c.loop-e.e-index c.e-item.result c.args.known.now.functions hs gs c.loop-e.made c.condition-next.result c.followed-made.result c.loop-e-test.true c.e-item.is
          c.followed-made.ensures c.loop-e.invariant.made (one-itself c.condition-next.result (condition k c.e-item.result hs) gs c.condition-next.ensures.value);
      ready = c.condition-next.ensures.ready;
      keeps = extends-then _ _ _ c.loop-e.invariant.keeps c.condition-next.ensures.keeps;
    }

pub returns-clause-value : goal.returns-clause-value
returns-clause-value g c =
    let k = g.S.Names.context c.args.names.now in
    let fs = c.args.known.now.functions in
    let gs = c.loop-e.known.functions in
    all-themselves c.loop-e.made (conditions_of k c.args.es.now fs) gs
    (all-types (condition k) c.args.es.now c.loop-e.e-index fs gs (all_meant as_itself c.loop-e.made) c.loop-e-test.false c.loop-e.invariant.made)
