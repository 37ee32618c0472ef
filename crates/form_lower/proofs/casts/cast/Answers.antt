use Rattle.sv_types.specs.Expressions.{meaning}
use Rattle.v_meaning.specs.Values as T
use Rattle.form_lower.proofs.Casting.{casts}
use Rattle.form_lower.proofs.casts.cast.Goals as goal

pub returns-clause-casts : goal.returns-clause-casts
returns-clause-casts c =
    casts (meaning c.args.x.now) c.args.to.now (T.meaning c.args.part) c.converted.new.helpers c.is_signed.result (T.meaning c.in_ok-bits.bits) (T.meaning c.in_ok-made.made) c.in_ok-bits.ensures.converts
    c.is_signed.ensures c.in_ok-made.ensures
