use Rattle.std.proofs.Common.{ap, ◌∙◌}
use Rattle.expr_type.specs.Names.{Context, with_values}
use Rattle.typing_declarations.proofs.heads.behind_names.Goals as goal

pub returns : goal.returns
returns g c = c.in_ok-add_values.ensures.context ∙ ap (λ (x : Context). with_values c.args.names x) c.inside-inner.ensures.context
