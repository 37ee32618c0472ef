use Rattle.std.proofs.Common.{[], ◌∷◌, ap, ◌∙◌}
use Rattle.expr_type.specs.Names.{Context, LocalId, with_locals}
use Rattle.typing_scopes.specs.Scopes.{context_of}
use Rattle.typing_declarations.specs.Formals.{formal_at}
use Rattle.typing_declarations.proofs.putting.put_local.Goals as goal

pub returns-clause-formal : goal.returns-clause-formal
returns-clause-formal g c = c.in_ok-formal.ensures ∙ ap (λ (q : Context). formal_at q c.args.way c.args.at c.args.of) c.in_ok-add_local.ensures.context

pub returns-clause-context : goal.returns-clause-context
returns-clause-context g c =
    let k = context_of g.B.Names.context c.args.inner.now in
    c.in_ok-add_local.ensures.context ∙ ap (λ (l : LocalId). with_locals (l ∷ []) k) c.in_ok-local.ensures
