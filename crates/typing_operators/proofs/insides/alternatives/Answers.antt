use Rattle.std.proofs.Common.{Ok, Err, map, ap, sym, ◌∙◌, subst}
use Rattle.std.proofs.lemmas.Result.{err_from_is_err_and}
use Rattle.inside_types.specs.Alternatives.{alternative}
use Rattle.typing_steps.specs.Steps.{TypesTo}
use Rattle.typing_parts.proofs.Keeping.{extends-then}
use Rattle.typing_rows.specs.Rows.{mapped}
use Rattle.typing_rows.proofs.Walking.{adds-mapped, turn, turn-ends}
use Rattle.typing_values.specs.Children.{in_range}
use Rattle.typing_operators.specs.Ranges.{range_of, ranges_of}
use Rattle.typing_operators.proofs.Ranges.{can-in}
use Rattle.typing_operators.proofs.insides.alternatives.Goals as goal

pub alternative-item-requires-clause-can : goal.alternative-item-requires-clause-can
alternative-item-requires-clause-can g c = can-in _ _ _ _ _ _ _ in_range c.args.ranges.now c.loop-range.range-index _ c.requires.can c.loop-range-test.true c.range-item.is

pub returns-in_err-whole-clause-value : goal.returns-in_err-whole-clause-value
returns-in_err-whole-clause-value g c =
    let k = g.S.Names.context c.args.names.now in
    let e = err_from_is_err_and c.from_residual.result c.from_residual.ensures.1 in
    subst (λ r. TypesTo (mapped (map alternative) r) (ranges_of k c.args.ranges.now c.args.known.now.functions) c.alternative-item.new.known.functions) (sym (e.1 ∙ ap Err e.2))
    (turn-ends (range_of k) c.args.ranges.now c.loop-range.range-index _ c.loop-range.whole (map alternative c.loop-range.made) (map alternative c.add_item.new.made) (mapped alternative c.alternative-item.result)
    c.in_err-whole.field-0.0 c.args.known.now.functions c.loop-range.known.functions c.alternative-item.new.known.functions c.alternative-item.new.known.functions c.loop-range-test.true c.range-item.is
    (adds-mapped alternative c.loop-range.made c.add_item.new.made c.loop-range.whole c.alternative-item.result (Err c.in_err-whole.field-0.0) c.in_err-whole.ensures.value) c.loop-range.invariant.typed
    c.alternative-item.ensures.value)

pub loop-range-preserved : goal.loop-range-preserved
loop-range-preserved g c =
    let k = g.S.Names.context c.args.names.now in
    record {
      typed =
          turn (range_of k) c.args.ranges.now c.loop-range.range-index _ c.loop-range.whole c.in_ok-whole.whole (map alternative c.loop-range.made) (map alternative c.add_item.new.made)
          (mapped alternative c.alternative-item.result) c.args.known.now.functions c.loop-range.known.functions c.alternative-item.new.known.functions c.loop-range-test.true c.range-item.is
          (adds-mapped alternative c.loop-range.made c.add_item.new.made c.loop-range.whole c.alternative-item.result (Ok c.in_ok-whole.whole) c.in_ok-whole.ensures.value) c.loop-range.invariant.typed
          c.alternative-item.ensures.value;
      ready = c.alternative-item.ensures.ready;
      keeps = extends-then _ _ _ c.loop-range.invariant.keeps c.alternative-item.ensures.keeps;
      narrow = c.in_ok-whole.ensures.narrow;
    }
