-- All bits were added.
use Rattle.std.proofs.Common.{◌≡◌, ◌≤◌, ◌++◌, ◌&&◌, Bool, length, map, take, ap, ◌∙◌, arith}
use Rattle.std.proofs.lemmas.List.{take_all}
use Rattle.sv_types.proofs.Marks.{kept}
use Rattle.sv_types.proofs.convert.push_if.Goals as goal

pub returns : goal.returns
returns c =
    let end : length c.args.marks.items ≤ c.loop-two.two-index = omega (arith, ap length c.deref-two-items.ensures.value) in
    let entire : take c.loop-two.two-index c.args.marks.items ≡ c.args.marks.items = take_all c.loop-two.two-index c.args.marks.items end in
    c.loop-two.invariant
    ∙ ap (λ bs. c.args.to.now.items ++ map (λ (b : Bool). b && c.args.all) bs) entire
    ∙ ap (λ bs. c.args.to.now.items ++ bs) (kept c.args.all c.args.marks.items)
