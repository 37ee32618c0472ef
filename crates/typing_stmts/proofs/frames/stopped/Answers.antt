use Rattle.std.proofs.Common.{Err, ap, ◌∙◌}
use Rattle.std.proofs.lemmas.Result.{err_from_is_err_and}
use Rattle.typing_stmts.proofs.Framed.{nothing-answered, refused-by}
use Rattle.typing_stmts.proofs.frames.stopped.Goals as goal

pub returns-in_err-refused-in-Breaks : goal.returns-in_err-refused-in-Breaks
returns-in_err-refused-in-Breaks g c =
    let e = err_from_is_err_and c.from_residual.result c.from_residual.ensures.1 in
    λ t fs s. nothing-answered c.args.source.now.tree.now.tokens t fs c.from_residual.result (e.1 ∙ ap Err e.2)

pub returns-in_ok-refused-in-Breaks : goal.returns-in_ok-refused-in-Breaks
returns-in_ok-refused-in-Breaks g c = λ t fs s.
    refused-by c.args.source.now.tree.now.tokens c.args.halt c.in-Breaks.token c.in-Breaks.rule t fs c.in_ok-refused-in-Breaks.refused c.in-Breaks.is c.in_ok-refused-in-Breaks.ensures s
