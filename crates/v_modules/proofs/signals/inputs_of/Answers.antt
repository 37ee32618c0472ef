use Rattle.std.proofs.Common.{◌+◌, ◌++◌, drop, map, sym, ap, ◌∙◌, List}
use Rattle.v_tree.specs.declared.items.VItem.{VItem}
use Rattle.v_meaning.specs.Machine.{is_input}
use Rattle.v_meaning.specs.Modules.{Signal, signals}
use Rattle.v_modules.proofs.Naming.{drop-here, next-inputs}
use Rattle.v_modules.proofs.signals.inputs_of.Goals as goal

pub loop-item-preserved : goal.loop-item-preserved
loop-item-preserved c =
    let i = c.loop-item.item-index in
    let here = drop-here c.args.items.now i c.item-item.result c.loop-item-test.true c.item-item.is in
    next-inputs (λ (s : Signal). is_input s.kind) c.item-item.result (drop (i + 1) c.args.items.now) c.loop-item.inputs c.add_input.new.inputs _ c.in_ok-add_input.ensures
    (ap (λ (is : List VItem). c.loop-item.inputs ++ map (λ (s : Signal). is_input s.kind) (signals is)) (sym here) ∙ c.loop-item.invariant)
