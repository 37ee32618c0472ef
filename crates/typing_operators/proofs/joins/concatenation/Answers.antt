use Rattle.std.proofs.Common.{map}
use Rattle.expr_type.specs.Expressions.{meaning, parts}
use Rattle.expr_type.specs.Operators.{concat_of, exprs}
use Rattle.expr_type.specs.Typings.{rule}
use Rattle.typing_operators.proofs.Exprs.{then-types}
use Rattle.typing_operators.proofs.joins.concatenation.Goals as goal

pub returns-clause-value : goal.returns-clause-value
returns-clause-value g c =
    let k = g.S.Names.context c.args.names.now in
    then-types (parts k (map meaning c.args.es.now)) exprs (λ xs. rule (concat_of k.source c.args.opening xs)) c.args.known.now.functions c.joined.new.known.functions c.joined.result c.joined.ensures.value
