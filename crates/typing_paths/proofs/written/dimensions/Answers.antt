use Rattle.std.proofs.Common.{map, take}
use Rattle.typing_parts.proofs.Keeping.{extends-then}
use Rattle.typing_values.specs.Children.{in_dimension}
use Rattle.typing_paths.specs.Dimensions.{dimension_of}
use Rattle.typing_paths.proofs.Rows.{next-turn}
use Rattle.typing_paths.proofs.Typable.{can-in}
use Rattle.typing_paths.proofs.written.dimensions.Goals as goal

pub next_dimension-dims-requires-clause-can : goal.next_dimension-dims-requires-clause-can
next_dimension-dims-requires-clause-can g c =
    can-in _ _ _ _ _ _ _ in_dimension c.args.ds.now c.loop-d.d-index c.d-item.result c.loop-d-test.true c.d-item.is c.requires.can

pub loop-d-preserved : goal.loop-d-preserved
loop-d-preserved g c =
    let k = g.S.Names.context c.args.names.now in
    let fs = c.args.known.now.functions in
    record {
      value =
          next-turn (dimension_of k) c.args.ds.now c.loop-d.d-index c.d-item.result _ fs _ c.loop-d-test.true c.d-item.is
          (c.next_dimension-dims.ensures.value (map (dimension_of k) (take c.loop-d.d-index c.args.ds.now)) fs c.loop-d.invariant.value);
      ready = c.next_dimension-dims.ensures.ready;
      keeps = extends-then _ _ _ c.loop-d.invariant.keeps c.next_dimension-dims.ensures.keeps;
    }
