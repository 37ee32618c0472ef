use Rattle.std.proofs.Common.{take}
use Rattle.typing_parts.proofs.Keeping.{extends-then}
use Rattle.typing_paths.specs.TypingValues.{in_select}
use Rattle.typing_paths.proofs.Typable.{can-in}
use Rattle.typing_paths.specs.Paths.{path_of}
use Rattle.typing_paths.proofs.Selecting.{path-turn}
use Rattle.typing_paths.proofs.paths.path.Goals as goal

pub selected-made-requires-clause-can : goal.selected-made-requires-clause-can
selected-made-requires-clause-can g c =
    can-in _ _ _ _ _ _ _ in_select c.args.selects.now c.loop-select.select-index c.select-item.result c.loop-select-test.true c.select-item.is c.requires.can

pub loop-select-preserved : goal.loop-select-preserved
loop-select-preserved g c =
    let k = g.S.Names.context c.args.names.now in
    let ss = c.args.selects.now in
    let i = c.loop-select.select-index in
    record {
      value = λ x fs h.
          path-turn k x ss i c.select-item.result fs c.selected-made.new.known.functions c.selected-made.result c.loop-select-test.true c.select-item.is
          (c.selected-made.ensures.value (path_of k x (take i ss)) fs (c.loop-select.invariant.value x fs h));
      narrow = c.selected-made.ensures.narrow;
      ready = c.selected-made.ensures.ready;
      keeps = extends-then _ _ _ c.loop-select.invariant.keeps c.selected-made.ensures.keeps;
    }
