use Rattle.flow_sets.proofs.Sequences as S
use Rattle.flow_sets.proofs.found.or_else.Goals as goal

pub returns-clause-flow : goal.returns-clause-flow
returns-clause-flow c = λ f g h k.
    S.either-is _ c.args.a c.args.b f g c.in_ok-reads.ensures c.in_ok-writes.ensures c.in_ok-later.ensures c.in_ok-ends.ensures c.in_ok-early.ensures c.in_ok-unset.ensures c.both.ensures c.count.ensures h k
