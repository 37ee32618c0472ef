use Rattle.std.proofs.Common.{get_or, ◌∙◌, ap}
use Rattle.std.proofs.lemmas.Option.{slice_get-get_or}
use Rattle.v_eval.specs.Scopes.{scope_of}
use Rattle.v_meaning.specs.Statements.{doing_of}
use Rattle.cycle_dst.proofs.Collected.{names-of-star}
use Rattle.cycle_dst.proofs.making.star.Goals as goal

pub on_change-requires-clause-names : goal.on_change-requires-clause-names
on_change-requires-clause-names c =
    let g = c.args.ground in
    let p = get_or g.procs.now c.args.k c.index-ground-k.result in
    let at = slice_get-get_or g.procs.now c.args.k c.index-ground-k.result c.requires.there in
    let one = c.requires.ground.runnable.each c.args.k p at in
    names-of-star g c.args.k p (get_or g.tables.now p.of c.index-ground-process.result) c.args.body.now c.args.mark ((doing_of c.args.body.now).names (scope_of c.scope_in-scope.result)) c.names_without_repeats.new.marks c.in_ok-names.names c.requires.ground at
    (slice_get-get_or g.tables.now p.of c.index-ground-process.result one.there) c.requires.body (ap ((doing_of c.args.body.now).names) c.scope_in-scope.ensures) (c.names_without_repeats.ensures.long ∙ c.requires.long) c.in_ok-names.ensures.listed
