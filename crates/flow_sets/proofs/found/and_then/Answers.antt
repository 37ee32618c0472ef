use Rattle.std.proofs.Common.{◌++◌, ◌∙◌, ap, cond, []}
use Rattle.bit_sets.specs.Sets.{tokens_at}
use Rattle.flow_sets.specs.Ends.{leaves_out}
use Rattle.flow_sets.proofs.Sequences as S
use Rattle.flow_sets.proofs.found.and_then.Goals as goal

pub returns-clause-flow : goal.returns-clause-flow
returns-clause-flow c = λ f g h k.
    S.then-is _ c.args.first c.args.then f g c.in_ok-reads.ensures c.in_ok-writes.ensures c.in_ok-later.ensures c.in_ok-ends.ensures
    (λ n. c.in_ok-early.ensures n ∙ ap (λ us. tokens_at c.args.first.early n ++ cond (leaves_out c.args.first.ends.normal n) (tokens_at us n) []) c.as_slice.ensures)
    c.in_ok-unset.ensures c.both.ensures c.count.ensures h k
