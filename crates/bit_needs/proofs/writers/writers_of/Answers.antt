use Rattle.std.proofs.Common.{subst}
use Rattle.bit_needs.specs.Writers.{AreReached}
use Rattle.bit_needs.proofs.Pieces.{tells-pieces}
use Rattle.bit_needs.proofs.writers.writers_of.Goals as goal

pub returns : goal.returns
returns c = record {
  in_order = record { ordered = c.in_ok-written.ensures.ordered; ends = subst (λ ws. AreReached ws c.in_ok-ends.ends) c.as_slice.ensures c.in_ok-ends.ensures };
  tells_writes = tells-pieces c.args.footprints.now c.in_ok-written.written c.in_ok-written.ensures.same;
}
