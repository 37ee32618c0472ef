use Rattle.std.proofs.Common.{map}
use Rattle.expr_type.specs.Expressions.{meaning, parts}
use Rattle.expr_type.specs.Operators.{exprs, repeat_of}
use Rattle.expr_type.specs.Typings.{rule}
use Rattle.typing_operators.proofs.Exprs.{both-types}
use Rattle.typing_values.specs.Numbers.{count_of}
use Rattle.typing_operators.proofs.joins.replication.Goals as goal

pub returns-clause-value : goal.returns-clause-value
returns-clause-value g c =
    let k = g.S.Names.context c.args.names.now in
    both-types (count_of k c.args.times.now) (parts k (map meaning c.args.es.now)) exprs (λ n xs. rule (repeat_of k.source c.args.opening n xs)) c.args.known.now.functions c.replicated.new.known.functions c.replicated.result
    c.replicated.ensures.value
