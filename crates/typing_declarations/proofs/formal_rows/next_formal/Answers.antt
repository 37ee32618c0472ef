use Rattle.std.proofs.Common.{subst}
use Rattle.sv_types.specs.declared.statement.Way.{Way}
use Rattle.expr_type.specs.Functions.{formal_text}
use Rattle.typing_scopes.specs.Scopes.{context_of}
use Rattle.typing_declarations.specs.Formals.{TurnsTo, before_of}
use Rattle.typing_declarations.proofs.formal_rows.next_formal.Goals as goal

pub returns-clause-value : goal.returns-clause-value
returns-clause-value g c =
    let of = g.B.Names.context in
    let k = context_of of c.args.inner.now in
    let one = c.args.one.now in
    let t = formal_text k (before_of c.args.before) one.direction one.text c.args.known.now.functions in
    let gs = c.formal-found.new.known.functions in
    subst (λ (w : Way). TurnsTo c.turn_of.result w (context_of of c.turn_of.new.inner) k t gs) c.way_by-way.ensures (c.turn_of.ensures t gs c.formal-found.ensures.value)
