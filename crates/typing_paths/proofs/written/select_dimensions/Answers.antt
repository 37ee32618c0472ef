use Rattle.typing_values.specs.Children.{in_select}
use Rattle.typing_paths.proofs.Rows.{selected}
use Rattle.typing_paths.proofs.Typable.{can-in}
use Rattle.typing_paths.proofs.written.select_dimensions.Goals as goal

pub next_select-dims-requires-clause-can : goal.next_select-dims-requires-clause-can
next_select-dims-requires-clause-can g c =
    can-in _ _ _ _ _ _ _ in_select c.args.selects.now c.loop-select.select-index c.select-item.result c.loop-select-test.true c.select-item.is c.requires.can

pub returns-clause-value : goal.returns-clause-value
returns-clause-value g c =
    selected (g.S.Names.context c.args.names.now) c.args.selects.now c.loop-select.select-index c.loop-select.dims c.args.known.now.functions
    c.loop-select.known.functions c.loop-select-test.false c.loop-select.invariant.value
