use Rattle.v_meaning.specs.Values as T
use Rattle.form_lower.proofs.Casting.{widens}
use Rattle.form_lower.proofs.casts.widened.Goals as goal

pub returns-clause-widens : goal.returns-clause-widens
returns-clause-widens c =
    widens c.args.zeros c.args.to.now (T.meaning c.args.of) c.stored_bits.new.helpers (T.meaning c.in_ok-bits.bits) (T.meaning c.in_ok-kept.kept) c.in_ok-bits.ensures c.in_ok-kept.ensures.stores c.in_ok-kept.ensures.names
