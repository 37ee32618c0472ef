use Rattle.std.proofs.Common.{ap, ◌∙◌, None}
use Rattle.value_breaks.specs.Signals.{is_foreign, least_by}
use Rattle.value_breaks.proofs.Values.{inputs-law}
use Rattle.value_breaks.proofs.writes_input.Goals as goal

pub returns : goal.returns
returns c =
    let ss = c.args.signals.now in
    let k = c.args.process.now.kind in
    inputs-law ss c.args.process.now c.args.found.now c.least_foreign.result
    (c.least_foreign.ensures
    ∙ ap (λ o. least_by (is_foreign ss k) o c.as_slice-2.result.now) (c.least_foreign-at_once.ensures ∙ ap (least_by (is_foreign ss k) None) c.as_slice.ensures)
    ∙ ap (least_by (is_foreign ss k) (least_by (is_foreign ss k) None c.args.found.now.writes)) c.as_slice-2.ensures)
