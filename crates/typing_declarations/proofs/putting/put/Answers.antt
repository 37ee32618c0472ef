use Rattle.std.proofs.Common.{Some, refl}
use Rattle.typing_scopes.specs.Scopes.{context_of}
use Rattle.typing_declarations.proofs.Placing.{put-by}
use Rattle.typing_declarations.proofs.putting.put.Goals as goal

pub returns : goal.returns
returns g c =
    let of = g.B.Names.context in
    put-by (context_of of c.args.inner.now) (context_of of c.declare.new.inner) (context_of of c.put_local.new.inner) c.args.one c.in_ok-kept.kept c.in_ok-formal.formal (record { way = c.args.one.way; of = Some c.in_ok-kept.kept })
    c.in_ok-kept.ensures.same c.in_ok-kept.ensures.context c.in_ok-formal.ensures.formal c.in_ok-formal.ensures.context refl
