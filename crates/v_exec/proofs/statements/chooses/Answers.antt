use Rattle.std.proofs.Common.{map, subst}
use Rattle.v_meaning.specs.Values.{meaning}
use Rattle.v_eval.specs.Holding.{holds}
use Rattle.v_eval.specs.Scopes.{scope_of}
use Rattle.v_exec.specs.Choices.{item_of, selector_of, ChoosesIn}
use Rattle.v_exec.proofs.Choosing.{chooses-in}
use Rattle.v_exec.proofs.Running.{if-ok}
use Rattle.v_exec.proofs.statements.chooses.Goals as goal

pub returns : goal.returns
returns g c =
    let items = map item_of c.args.items.now in
    let sc = scope_of c.args.scope in
    if-ok
    (λ o h. subst (λ held. ChoosesIn c.args.kind (meaning c.args.on.now) items sc held o) c.held-held.ensures
    (chooses-in c.args.kind (meaning c.args.on.now) items sc (holds c.held-held.result) (selector_of c.in_ok-selector.selector) o c.in_ok-selector.ensures.selector h)) c.chosen.result c.chosen.ensures
