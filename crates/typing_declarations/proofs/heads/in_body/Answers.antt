use Rattle.std.proofs.Common.{◌≡◌, ◌∙◌, subst}
use Rattle.std.specs.Prelude.{IfOk}
use Rattle.expr_type.specs.Names.{Context}
use Rattle.typing_scopes.specs.Scopes.{context_of}
use Rattle.typing_declarations.proofs.Placing.{in-none, in-plain}
use Rattle.typing_declarations.proofs.heads.in_body.Goals as goal

pub returns-then-plain : goal.returns-then-plain
returns-then-plain g c =
    let of = g.B.Names.context in
    subst (λ (x : Context). IfOk c.with_result.result (λ s. context_of of s ≡ x))
    (in-plain (context_of of c.args.outer.now) (context_of of c.in_ok-inner.inner) c.args.name c.args.plain c.args.of.now c.args.names c.if-plain.true c.in_ok-inner.ensures) c.with_result.ensures

pub returns-else-plain : goal.returns-else-plain
returns-else-plain g c =
    let of = g.B.Names.context in
    c.within.ensures.context ∙ in-none (context_of of c.args.outer.now) (context_of of c.in_ok-inner.inner) c.args.name c.args.plain c.args.of.now c.args.names c.if-plain.false c.in_ok-inner.ensures
