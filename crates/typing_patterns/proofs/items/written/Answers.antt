use Rattle.std.proofs.Common.{Ok, Err, map, ap, sym, ◌∙◌, subst}
use Rattle.std.proofs.lemmas.Result.{err_from_is_err_and}
use Rattle.typing_steps.specs.Steps.{TypesTo}
use Rattle.typing_parts.proofs.Keeping.{extends-then}
use Rattle.typing_rows.specs.Rows.{mapped}
use Rattle.typing_rows.proofs.Walking.{adds-mapped, turn, turn-ends}
use Rattle.typing_values.specs.Children.{in_item}
use Rattle.typing_patterns.specs.Written.{as_item, item_by, items_by}
use Rattle.typing_patterns.proofs.Among.{can-in}
use Rattle.typing_patterns.proofs.Placing.{found-more}
use Rattle.typing_patterns.proofs.items.written.Goals as goal

pub item-one-requires-clause-can : goal.item-one-requires-clause-can
item-one-requires-clause-can g c = can-in _ _ _ _ _ _ _ in_item c.args.of.now c.loop-i.i-index _ c.requires.can c.loop-i-test.true c.i-item.is

pub returns-in_err-whole-clause-value : goal.returns-in_err-whole-clause-value
returns-in_err-whole-clause-value g c =
    let k = g.S.Names.context c.args.names.now in
    let f = as_item k.source in
    let e = err_from_is_err_and c.from_residual.result c.from_residual.ensures.1 in
    subst (λ r. TypesTo (mapped (map f) r) (items_by k c.args.of.now c.args.known.now.functions) c.item-one.new.known.functions) (sym (e.1 ∙ ap Err e.2))
    (turn-ends (item_by k) c.args.of.now c.loop-i.i-index _ c.loop-i.whole (map f c.loop-i.made) (map f c.add.new.made) (mapped f c.item-one.result)
    c.in_err-whole.field-0.0 c.args.known.now.functions c.loop-i.known.functions c.item-one.new.known.functions c.item-one.new.known.functions c.loop-i-test.true c.i-item.is
    (adds-mapped f c.loop-i.made c.add.new.made c.loop-i.whole c.item-one.result (Err c.in_err-whole.field-0.0) c.in_err-whole.ensures) c.loop-i.invariant.typed
    c.item-one.ensures.value)

pub loop-i-preserved : goal.loop-i-preserved
loop-i-preserved g c =
    let k = g.S.Names.context c.args.names.now in
    let f = as_item k.source in
    record {
      typed =
          turn (item_by k) c.args.of.now c.loop-i.i-index _ c.loop-i.whole c.in_ok-whole.whole (map f c.loop-i.made) (map f c.add.new.made)
          (mapped f c.item-one.result) c.args.known.now.functions c.loop-i.known.functions c.item-one.new.known.functions c.loop-i-test.true c.i-item.is
          (adds-mapped f c.loop-i.made c.add.new.made c.loop-i.whole c.item-one.result (Ok c.in_ok-whole.whole) c.in_ok-whole.ensures) c.loop-i.invariant.typed
          c.item-one.ensures.value;
      ready = c.item-one.ensures.ready;
      keeps = extends-then _ _ _ c.loop-i.invariant.keeps c.item-one.ensures.keeps;
      found = found-more k c.loop-i.made c.add.new.made c.loop-i.whole c.in_ok-whole.whole c.item-one.result c.in_ok-whole.ensures c.loop-i.invariant.found c.item-one.ensures.found;
    }
