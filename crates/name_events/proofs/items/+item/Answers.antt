use Rattle.std.proofs.Common.{◌≡◌, ◌+◌, OnOk, sym, subst, arith}
use Rattle.name_events.proofs.Deeper.{item-deeper}
use Rattle.name_events.proofs.items.+item.Goals as goal

pub item-returns-in-Some : goal.item-returns-in-Some
item-returns-in-Some t c =
    let down = c.in-Some.ensures in
    let one : c.args.depth ≡ c.in-Some.inner + 1 = omega arith in
    subst (λ o. OnOk c.item_around.result (c.item_around.new.to ≡ o)) (sym (item-deeper c.args.depth c.in-Some.inner c.args.inside c.args.around c.args.one.now c.args.to.now one)) c.item_around.ensures
