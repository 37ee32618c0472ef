use Rattle.std.proofs.Common.{map}
use Rattle.expr_type.specs.Expressions.{Meaning, meaning}
use Rattle.expr_type.specs.Forms.{reverses, stream_of, streamed_part}
use Rattle.expr_type.specs.Operators.{exprs}
use Rattle.expr_type.specs.Typings.{all, rule}
use Rattle.typing_operators.specs.Joins.{slice_of_size}
use Rattle.typing_operators.proofs.Exprs.{both-types}
use Rattle.typing_operators.proofs.joins.stream.Goals as goal

pub returns-clause-value : goal.returns-clause-value
returns-clause-value g c =
    let k = g.S.Names.context c.args.names.now in
    both-types (slice_of_size k c.args.size.now) (all (map (λ (e : Meaning). streamed_part k.source (e.typed k)) (map meaning c.args.es.now))) exprs (λ n xs. rule (stream_of k.source c.args.opening (reverses c.args.operator) n xs))
    c.args.known.now.functions c.streamed.new.known.functions c.streamed.result c.streamed.ensures.value
