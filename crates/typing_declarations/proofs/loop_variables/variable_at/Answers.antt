use Rattle.std.proofs.Common.{ap, ◌∙◌}
use Rattle.expr_type.specs.Names.{local_id}
use Rattle.expr_type.specs.Types.{TypeFound}
use Rattle.typing_scopes.specs.Scopes.{context_of}
use Rattle.typing_declarations.proofs.loop_variables.variable_at.Goals as goal

pub returns : goal.returns
returns g c =
    (c.in_ok-of.of, c.in_ok-of.ensures.0, c.in_ok-of.ensures.1, c.named_local.ensures ∙ ap (λ (f : TypeFound). local_id (context_of g.B.Names.context c.args.names.now) c.args.at f.of) c.of.view_is)
