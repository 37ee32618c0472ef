use Rattle.std.proofs.Common.{◌≡◌, Some, sym, ◌∙◌}
use Rattle.built_forms.specs.Built.{item_of}
use Rattle.built_forms.proofs.Gathering.{step-gathered}
use Rattle.built_forms.proofs.items.items.Goals as goal

pub loop-one-preserved : goal.loop-one-preserved
loop-one-preserved c =
    let read : item_of c.args.tokens.now c.one-item.result ≡ Some c.in-Some.found = sym c.in_ok-found.ensures ∙ c.in-Some.is in
    step-gathered (item_of c.args.tokens.now) _ _ c.args.list.now c.loop-one.one-index c.one-item.result c.in-Some.found c.loop-one-test.true c.one-item.is read c.in_ok-put.ensures
    ∙ c.loop-one.invariant
