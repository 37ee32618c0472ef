use Rattle.typing_scopes.specs.Scopes.{context_of}
use Rattle.typing_declarations.specs.Giving.{with_dims}
use Rattle.typing_declarations.proofs.formal_types.typed_formal.Goals as goal

pub returns-clause-value : goal.returns-clause-value
returns-clause-value g c x fs p =
    let k = context_of g.B.Names.context c.args.names.now in
    c.formal_found.ensures k (with_dims k x c.args.ds.now) fs c.with_dims-typed.new.known.functions (c.with_dims-typed.ensures.value x fs p)
