use Rattle.v_round_trip.proofs.RoundTrip.{readable}
use Rattle.v_round_trip.proofs.rewriting.write_read.Goals as goal

pub text_of-requires-clause-grammar : goal.text_of-requires-clause-grammar
text_of-requires-clause-grammar c = readable c.args.bytes.now c.args.design.now c.requires
