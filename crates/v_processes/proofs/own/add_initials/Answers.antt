use Rattle.std.proofs.Common.{◌+◌, [], ◌∷◌, List, drop, ap, ◌∙◌}
use Rattle.v_tree.specs.declared.items.VItem.{VItem}
use Rattle.v_meaning.specs.Modules.{initials}
use Rattle.v_eval.specs.Scopes.{scope_of}
use Rattle.v_processes.specs.Walks.{initials_of}
use Rattle.v_processes.proofs.Kept.{drop-here, turn}
use Rattle.v_processes.proofs.ItemParts.{initials-cons}
use Rattle.v_processes.proofs.own.add_initials.Goals as goal

pub loop-item-preserved : goal.loop-item-preserved
loop-item-preserved c =
    let sc = scope_of c.args.scope in
    let i = c.loop-item.item-index in
    let rest = drop (i + 1) c.args.items.now in
    let here = drop-here c.args.items.now i c.item-item.result c.loop-item-test.true c.item-item.is in
    turn (initials_of c.loop-item.to) (initials_of c.add_initial.new.to) (initials sc (c.item-item.result ∷ [])) (initials sc rest) (initials sc (drop i c.args.items.now)) _ c.in_ok-add_initial.ensures
    (ap (λ (is : List VItem). initials sc is) here ∙ initials-cons sc c.item-item.result rest) c.loop-item.invariant
