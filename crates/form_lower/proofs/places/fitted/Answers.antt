use Rattle.v_meaning.specs.Values as T
use Rattle.form_lower.proofs.Placing.{fits-cut}
use Rattle.form_lower.proofs.places.fitted.Goals as goal

pub returns-in_ok-made-clause-fits : goal.returns-in_ok-made-clause-fits
returns-in_ok-made-clause-fits c =
    fits-cut c.args.whole (T.meaning c.args.bits) c.args.to c.args.signed c.cut_bits.new.helpers (T.meaning c.in_ok-context.context) (T.meaning c.in_ok-made.made) c.in_ok-context.ensures c.in_ok-made.ensures.calls
