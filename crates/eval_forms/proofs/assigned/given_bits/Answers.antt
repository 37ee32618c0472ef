use Rattle.eval_forms.proofs.Giving.{given-stream}
use Rattle.eval_forms.proofs.assigned.given_bits.Goals as goal

pub returns-in_ok-from_top-in-Some : goal.returns-in_ok-from_top-in-Some
returns-in_ok-from_top-in-Some c =
    given-stream c.args.e.now c.in-Some.stream.reversed c.in-Some.stream.slice _ c.args.width c.own_width-total.result c.args.value.now c.in_ok-bits-in-Some.bits c.in_ok-from_top-in-Some.field-0 c.in-Some.ensures c.requires.typed
    c.own_width-total.ensures c.in_ok-bits-in-Some.ensures c.in_ok-from_top-in-Some.ensures
