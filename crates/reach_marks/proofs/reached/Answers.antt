use Rattle.std.proofs.Common.{◌<◌, List, ℕ, sym, subst}
use Rattle.reach_marks.specs.declared.Reaching.{Reaching}
use Rattle.reach_marks.specs.Reach.{visited, work}
use Rattle.reach_marks.proofs.Going.{Going, going-start, going-on, work-falls, going-done}
use Rattle.reach_marks.proofs.reached.Goals as goal

pub steps-init : goal.steps-init
steps-init c = going-start c.args.roots.now c.args.next.now c.in_ok-marks.marks c.in_ok-todo.todo c.in_ok-marks.ensures c.in_ok-todo.ensures

pub steps-smaller : goal.steps-smaller
steps-smaller c =
    subst (λ (s : Reaching). work c.args.next.now s < work c.args.next.now c.steps.state) (sym c.in_ok-visit.ensures)
    (subst (λ (t : List ℕ). work c.args.next.now (visited c.args.next.now (record { marks = c.steps.state.marks; todo = c.pop.new.self }) c.in-Some.n) < work c.args.next.now (record { marks = c.steps.state.marks; todo = t }))
    (sym c.in-Some.ensures)
    (work-falls c.args.roots.now c.args.next.now c.steps.state.marks c.pop.new.self c.in-Some.n
    (subst (λ (t : List ℕ). Going c.args.roots.now c.args.next.now (record { marks = c.steps.state.marks; todo = t })) c.in-Some.ensures c.steps.invariant)))

pub steps-preserved : goal.steps-preserved
steps-preserved c =
    subst (Going c.args.roots.now c.args.next.now) (sym c.in_ok-visit.ensures)
    (going-on c.args.roots.now c.args.next.now c.steps.state.marks c.pop.new.self c.in-Some.n
    (subst (λ (t : List ℕ). Going c.args.roots.now c.args.next.now (record { marks = c.steps.state.marks; todo = t })) c.in-Some.ensures c.steps.invariant))

pub returns : goal.returns
returns c =
    going-done c.args.roots.now c.args.next.now c.steps.state.marks
    (subst (λ (t : List ℕ). Going c.args.roots.now c.args.next.now (record { marks = c.steps.state.marks; todo = t })) c.in_default.ensures.0 c.steps.invariant)
