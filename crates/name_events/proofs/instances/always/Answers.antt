use Rattle.std.proofs.Common.{◌≡◌, OnOk, sym, subst}
use Rattle.name_events.specs.Items as means
use Rattle.name_events.proofs.instances.always.Goals as goal

pub returns-in-Plain : goal.returns-in-Plain
returns-in-Plain c =
    subst (λ o. OnOk c.plain_always.result (c.plain_always.new.to ≡ means.always o c.args.to.now)) (sym c.in-Plain.is) c.plain_always.ensures
