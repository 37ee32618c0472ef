use Rattle.std.proofs.Common.{◌≡◌, Bool, cond, [], refl, sym, subst}
use Rattle.std.specs.Prelude.{OnOk}
use Rattle.expr_type.specs.Names.{with_values}
use Rattle.typing_scopes.specs.Scopes.{context_of}
use Rattle.typing_declarations.proofs.head_names.declare.Goals as goal

pub returns-then-declares-clause-context : goal.returns-then-declares-clause-context
returns-then-declares-clause-context g c =
    let of = g.B.Names.context in
    let k = context_of of c.args.inner.now in
    subst (λ (b : Bool). OnOk c.declare_found.result (context_of of c.declare_found.new.inner ≡ with_values (cond b c.args.found.names []) k)) (sym c.if-declares.true) c.declare_found.ensures.context

pub returns-else-declares-clause-context : goal.returns-else-declares-clause-context
returns-else-declares-clause-context g c =
    let k = context_of g.B.Names.context c.args.inner.now in
    subst (λ (b : Bool). k ≡ with_values (cond b c.args.found.names []) k) (sym c.if-declares.false) refl
