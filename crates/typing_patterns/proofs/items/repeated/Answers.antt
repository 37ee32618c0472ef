use Rattle.std.proofs.Common.{Ok, Err, map, ap, sym, ◌∙◌, subst}
use Rattle.std.proofs.lemmas.Result.{err_from_is_err_and}
use Rattle.typing_steps.specs.Steps.{TypesTo}
use Rattle.typing_parts.proofs.Keeping.{extends-then}
use Rattle.typing_rows.specs.Rows.{mapped}
use Rattle.typing_rows.proofs.Walking.{adds-mapped, turn, turn-ends}
use Rattle.typing_values.proofs.Children.{all-at}
use Rattle.typing_values.specs.Values.{unstreamed_of}
use Rattle.typing_patterns.specs.Written.{as_value, values_by}
use Rattle.typing_patterns.proofs.Placing.{placed-more}
use Rattle.typing_patterns.proofs.items.repeated.Goals as goal

pub placed_item-one-requires-clause-can : goal.placed_item-one-requires-clause-can
placed_item-one-requires-clause-can g c = all-at _ _ _ _ _ _ _ c.args.es.now c.loop-e.e-index _ c.requires.can c.loop-e-test.true c.e-item.is

pub returns-in_err-whole-clause-value : goal.returns-in_err-whole-clause-value
returns-in_err-whole-clause-value g c =
    let k = g.S.Names.context c.args.names.now in
    let f = as_value k.source in
    let e = err_from_is_err_and c.from_residual.result c.from_residual.ensures.1 in
    subst (λ r. TypesTo (mapped (map f) r) (values_by k c.args.es.now c.args.known.now.functions) c.placed_item-one.new.known.functions) (sym (e.1 ∙ ap Err e.2))
    (turn-ends (unstreamed_of k) c.args.es.now c.loop-e.e-index _ c.loop-e.whole (map f c.loop-e.made) (map f c.add.new.made) (mapped f c.placed_item-one.result)
    c.in_err-whole.field-0.0 c.args.known.now.functions c.loop-e.known.functions c.placed_item-one.new.known.functions c.placed_item-one.new.known.functions c.loop-e-test.true c.e-item.is
    (adds-mapped f c.loop-e.made c.add.new.made c.loop-e.whole c.placed_item-one.result (Err c.in_err-whole.field-0.0) c.in_err-whole.ensures) c.loop-e.invariant.typed
    c.placed_item-one.ensures.operand)

pub loop-e-preserved : goal.loop-e-preserved
loop-e-preserved g c =
    let k = g.S.Names.context c.args.names.now in
    let f = as_value k.source in
    record {
      typed =
          turn (unstreamed_of k) c.args.es.now c.loop-e.e-index _ c.loop-e.whole c.in_ok-whole.whole (map f c.loop-e.made) (map f c.add.new.made)
          (mapped f c.placed_item-one.result) c.args.known.now.functions c.loop-e.known.functions c.placed_item-one.new.known.functions c.loop-e-test.true c.e-item.is
          (adds-mapped f c.loop-e.made c.add.new.made c.loop-e.whole c.placed_item-one.result (Ok c.in_ok-whole.whole) c.in_ok-whole.ensures) c.loop-e.invariant.typed
          c.placed_item-one.ensures.operand;
      ready = c.placed_item-one.ensures.ready;
      keeps = extends-then _ _ _ c.loop-e.invariant.keeps c.placed_item-one.ensures.keeps;
      placed = placed-more c.loop-e.made c.add.new.made c.loop-e.whole c.in_ok-whole.whole c.placed_item-one.result c.in_ok-whole.ensures c.loop-e.invariant.placed c.placed_item-one.ensures.placed;
    }
