use Rattle.std.proofs.Common.{ap, sym, subst}
use Rattle.expr_type.specs.Names.{Context}
use Rattle.routine_fits.specs.Sound.{AllSoundFunctions}
use Rattle.typing_parts.proofs.Keeping.{extends-then}
use Rattle.typing_scopes.specs.Scopes.{context_of}
use Rattle.typing_scopes.proofs.Behind.{needs-alike}
use Rattle.typing_walks.specs.Keeps.{Surrounded}
use Rattle.typing_stmts.proofs.Bodied.{lost-by}
use Rattle.typing_stmts.proofs.bodies.without_result.Goals as goal

pub formals-made-requires-clause-needs : goal.formals-made-requires-clause-needs
formals-made-requires-clause-needs g c = needs-alike _ _ _ _ _ _ (ap (λ (x : Context). x.routine) c.inside-inner.ensures.context) c.requires.needs

pub formals-made-requires-clause-names : goal.formals-made-requires-clause-names
formals-made-requires-clause-names g c = subst (λ (x : Context). Surrounded AllSoundFunctions x) (sym c.inside-inner.ensures.context) c.requires.names

pub returns-clause-value : goal.returns-clause-value
returns-clause-value g c x fs is =
    let of = g.B.Names.context in
    lost-by (context_of of c.args.outer.now) c.args.name x c.args.list.now c.args.items.now (context_of of c.formals-made.new.inner) (context_of of c.inside-inner.result) c.formals-made.result c.behind_quiet-stop.result
    c.stopped_on.result fs c.args.known.now.functions c.formals-made.new.known.functions c.stopped_on.new.known.functions c.inside-inner.ensures.context c.behind_quiet-stop.ensures is c.formals-made.ensures.value
    c.stopped_on.ensures.value

pub returns-clause-keeps : goal.returns-clause-keeps
returns-clause-keeps g c = extends-then c.args.known.now.functions c.formals-made.new.known.functions c.stopped_on.new.known.functions c.formals-made.ensures.keeps c.stopped_on.ensures.keeps
