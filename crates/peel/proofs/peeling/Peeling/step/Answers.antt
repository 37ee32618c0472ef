use Rattle.std.proofs.Common.{◌<◌, length, arith, ap, sym, ◌∙◌}
use Rattle.peel.proofs.Ending.{last-low, stepped-finished, stepped-on, stepped-back}
use Rattle.peel.proofs.peeling.Peeling.step.Goals as goal

pub needs_of-list-requires : goal.needs_of-list-requires
needs_of-list-requires c = last-low c.args.needs.now c.args.self.now c.requires.going c.requires.some c.last-p.result c.last-p.ensures

pub bounds-as_slice-p : goal.bounds-as_slice-p
bounds-as_slice-p c =
    let low = last-low c.args.needs.now c.args.self.now c.requires.going c.requires.some c.last-p.result c.last-p.ensures in
    omega (arith, low, c.requires.going.tracked, ap length c.as_slice-2.ensures)

pub finish-requires : goal.finish-requires
finish-requires c =
    let low = last-low c.args.needs.now c.args.self.now c.requires.going c.requires.some c.last-p.result c.last-p.ensures in
    omega (arith, low, c.requires.going.marked)

pub returns-then-k-list : goal.returns-then-k-list
returns-then-k-list c =
    stepped-finished c.args.needs.now c.args.self.now c.requires.going c.requires.some c.last-p.result c.last-p.ensures
    c.as_slice.result.now c.needs_of-list.result.now c.first_open-k.result c.finish.new.self c.as_slice.ensures c.needs_of-list.ensures c.first_open-k.ensures.before
    c.if-k-list.true c.in_ok-finish.ensures

pub returns-then-is_fresh : goal.returns-then-is_fresh
returns-then-is_fresh c =
    let below : c.first_open-k.result < length c.needs_of-list.result.now = omega (arith, c.first_open-k.ensures.within, c.if-k-list.false) in
    stepped-on c.args.needs.now c.args.self.now c.requires.going c.requires.some c.last-p.result c.last-p.ensures
    c.as_slice.result.now c.needs_of-list.result.now c.first_open-k.result c.go_on.new.self c.as_slice.ensures c.needs_of-list.ensures c.first_open-k.ensures.before
    below c.first_open-k.ensures.here c.as_slice-3.result.now c.mark_of.result c.as_slice-3.ensures c.mark_of.ensures (sym c.is_fresh.ensures ∙ c.if-is_fresh.true) c.in_ok-go_on.ensures

pub returns : goal.returns
returns c =
    let below : c.first_open-k.result < length c.needs_of-list.result.now = omega (arith, c.first_open-k.ensures.within, c.if-k-list.false) in
    stepped-back c.args.needs.now c.args.self.now c.requires.going c.requires.some c.last-p.result c.last-p.ensures
    c.as_slice.result.now c.needs_of-list.result.now c.first_open-k.result c.give_up.new.self c.as_slice.ensures c.needs_of-list.ensures c.first_open-k.ensures.before
    below c.first_open-k.ensures.here c.as_slice-3.result.now c.mark_of.result c.as_slice-3.ensures c.mark_of.ensures (sym c.is_fresh.ensures ∙ c.if-is_fresh.false) c.give_up.ensures
