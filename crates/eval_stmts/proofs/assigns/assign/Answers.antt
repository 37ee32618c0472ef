use Rattle.std.proofs.Common.{subst, sym}
use Rattle.eval_exprs.specs.Held.{formals}
use Rattle.eval_stmts.specs.Stepping.{GoesOn}
use Rattle.eval_stmts.specs.Targets.{assign_step}
use Rattle.eval_stmts.proofs.Collecting.{parts-narrow}
use Rattle.eval_stmts.proofs.Given as G
use Rattle.eval_stmts.proofs.assigns.assign.Goals as goal

pub total_width-width-requires-clause-narrow : goal.total_width-width-requires-clause-narrow
total_width-width-requires-clause-narrow g c = parts-narrow c.args.to.now (formals c.args.scope) c.requires.fits.targets

pub assign_later-requires-clause-runs : goal.assign_later-requires-clause-runs
assign_later-requires-clause-runs g c =
    G.places-run c.args.scope c.args.to.now c.args.env.now c.value_places.new.env c.value_given.new.env c.in_ok-value_places.ensures.same c.in_ok-given.ensures.same c.in_ok-value_places.ensures.gives

pub assign_now-requires-clause-runs : goal.assign_now-requires-clause-runs
assign_now-requires-clause-runs g c =
    G.places-run c.args.scope c.args.to.now c.args.env.now c.value_places.new.env c.value_given.new.env c.in_ok-value_places.ensures.same c.in_ok-given.ensures.same c.in_ok-value_places.ensures.gives

pub returns-then-later : goal.returns-then-later
returns-then-later g c =
    let new = c.assign_later.new.env in
    subst (λ b. GoesOn c.assign_later.result c.args.scope (assign_step b c.args.to.now c.args.value.now) c.args.env.now new) (sym c.if-later.true)
    (G.later-goes c.assign_later.result c.args.scope c.args.to.now c.args.value.now c.in_ok-given.given c.args.env.now c.value_places.new.env c.value_given.new.env new
    (record { first = c.in_ok-value_places.ensures.same; places = c.in_ok-value_places.ensures.gives; second = c.in_ok-given.ensures.same; given = c.in_ok-given.ensures.gives.0; values = c.in_ok-given.ensures.gives.1 })
    c.assign_later.ensures.budget c.assign_later.ensures.pending)

pub returns : goal.returns
returns g c =
    let new = c.assign_now.new.env in
    subst (λ b. GoesOn c.assign_now.result c.args.scope (assign_step b c.args.to.now c.args.value.now) c.args.env.now new) (sym c.if-later.false)
    (G.now-goes c.assign_now.result c.args.scope c.args.to.now c.args.value.now c.in_ok-given.given c.args.env.now c.value_places.new.env c.value_given.new.env new
    (record { first = c.in_ok-value_places.ensures.same; places = c.in_ok-value_places.ensures.gives; second = c.in_ok-given.ensures.same; given = c.in_ok-given.ensures.gives.0; values = c.in_ok-given.ensures.gives.1 })
    c.assign_now.ensures)
