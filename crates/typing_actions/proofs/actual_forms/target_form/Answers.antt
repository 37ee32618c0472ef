use Rattle.std.proofs.Common.{◌≡◌, rules}
use Rattle.typing_actions.proofs.Forming.{concatenation-form, name-form}
use Rattle.typing_actions.proofs.actual_forms.target_form.Goals as goal

pub returns-in-None : goal.returns-in-None
returns-in-None c =
    let same : c.as_slice.result.now ≡ c.in-Name.selects = search rules in
    name-form c.in-Name.of c.in-Name.selects c.as_slice.result.now c.in-Name.cast c.args.e.now c.in-Name.is c.in-None.is same

pub returns-in-Concatenation : goal.returns-in-Concatenation
returns-in-Concatenation c =
    let same : c.as_slice-in-Concatenation.result.now ≡ c.in-Concatenation.items = search rules in
    concatenation-form c.in-Concatenation.opening c.in-Concatenation.items c.as_slice-in-Concatenation.result.now c.in-Concatenation.closing c.args.e.now c.in-Concatenation.is same
