use Rattle.std.proofs.Common.{ap, ◌∙◌}
use Rattle.expr_type.specs.Names.{with_values}
use Rattle.expr_type.specs.Types.{TypeFound}
use Rattle.typing_scopes.specs.Scopes.{context_of}
use Rattle.typing_declarations.proofs.FormalUnder.{same-found}
use Rattle.typing_declarations.proofs.head_names.declare_found.Goals as goal

pub returns-clause-same : goal.returns-clause-same
returns-clause-same g c = same-found c.found.inside.of c.in_ok-names.names c.found.inside.names c.args.found c.in_ok-names.ensures.same c.found.view_is

pub returns-clause-context : goal.returns-clause-context
returns-clause-context g c =
    let k = context_of g.B.Names.context c.args.inner.now in
    c.in_ok-names.ensures.context ∙ ap (λ (f : TypeFound). with_values f.names k) c.found.view_is
