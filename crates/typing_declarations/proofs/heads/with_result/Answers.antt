use Rattle.std.proofs.Common.{◌∙◌}
use Rattle.typing_scopes.specs.Scopes.{context_of}
use Rattle.typing_declarations.proofs.Placing.{own-is}
use Rattle.typing_declarations.proofs.heads.with_result.Goals as goal

pub returns : goal.returns
returns g c =
    let of = g.B.Names.context in
    c.within.ensures.context
    ∙ own-is (context_of of c.args.front) (context_of of c.add_local.new.self) c.args.name c.declaration.result c.args.of.now c.in_ok-copy.copy c.declaration.ensures c.in_ok-copy.ensures c.in_ok-add_local.ensures.context
