use Rattle.typing_scopes.specs.Scopes.{context_of}
use Rattle.typing_stmts.proofs.Bodied.{behind-err, behind-ok, where-ok}
use Rattle.typing_stmts.proofs.bodies.body_behind.Goals as goal

pub with_body-requires-clause-needs : goal.with_body-requires-clause-needs
with_body-requires-clause-needs g c = where-ok _ c.args.made c.in-Ok.made c.in-Ok.is c.requires.behind

pub with_body-requires-clause-names : goal.with_body-requires-clause-names
with_body-requires-clause-names g c = where-ok _ c.args.made c.in-Ok.made c.in-Ok.is c.requires.inside

pub returns-in-Ok-clause-value : goal.returns-in-Ok-clause-value
returns-in-Ok-clause-value g c =
    let of = g.B.Names.context in
    behind-ok (context_of of c.args.inner.now) (context_of of c.args.outer.now) c.args.made c.in-Ok.made c.with_body.result c.args.items.now c.args.known.now.functions c.with_body.new.known.functions c.in-Ok.is c.with_body.ensures.value

pub returns-in-Err-clause-value : goal.returns-in-Err-clause-value
returns-in-Err-clause-value g c =
    let of = g.B.Names.context in
    behind-err (context_of of c.args.inner.now) (context_of of c.args.outer.now) c.args.made c.in-Err.halt c.stopped_on.result c.args.items.now c.args.known.now.functions c.stopped_on.new.known.functions c.in-Err.is c.stopped_on.ensures.value
