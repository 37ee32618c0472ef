use Rattle.typing_declarations.proofs.Declaring.{base-by-name}
use Rattle.typing_declarations.proofs.types.base_type.Goals as goal

pub returns-in-Named-clause-value : goal.returns-in-Named-clause-value
returns-in-Named-clause-value g c =
    base-by-name (g.S.Names.context c.args.names.now) c.args.base.now c.in-Some.base c.in-Named.of c.in-Named.packed c.as_slice-in-Named.result.now c.named_base.result c.args.known.now.functions c.named_base.new.known.functions
    c.in-Some.is c.in-Named.is c.as_slice-in-Named.ensures c.named_base.ensures.value
