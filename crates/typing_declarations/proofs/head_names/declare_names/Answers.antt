use Rattle.std.proofs.Common.{List, ap, ◌∙◌}
use Rattle.sv_types.specs.declared.frame.ParamValue.{ParamValue}
use Rattle.expr_type.specs.Names.{with_values}
use Rattle.typing_scopes.specs.Scopes.{context_of}
use Rattle.typing_declarations.proofs.head_names.declare_names.Goals as goal

pub returns-clause-same : goal.returns-clause-same
returns-clause-same g c = c.in_ok-kept.ensures.first ∙ c.in_ok-list.ensures

pub returns-clause-context : goal.returns-clause-context
returns-clause-context g c =
    let k = context_of g.B.Names.context c.args.inner.now in
    c.in_ok-add_values.ensures.context ∙ ap (λ (vs : List ParamValue). with_values vs k) (c.in_ok-kept.ensures.second ∙ c.in_ok-list.ensures)
