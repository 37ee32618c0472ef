use Rattle.std.proofs.Common.{◌≡◌, ◌||◌, ◌==◌, sym, ap, ◌∙◌, arith}
use Rattle.std.proofs.lemmas.Bool.{or_left, eq-eqb, ne_eqb}
use Rattle.std.specs.List.{list_any}
use Rattle.call_circles.specs.Calls.{enough}
use Rattle.call_circles.specs.Rounds.{stands_in, rounds}
use Rattle.call_circles.proofs.Finding.{rounds-reach}
use Rattle.call_circles.proofs.slow.leads_to.Goals as goal
use Rattle.call_circles.proofs.slow.leads_to.Goals.{then-routine-goal, else-routine-goal}

pub returns : goal.returns
returns c =
    let cs = c.args.calls.now in
    let r = c.args.routine in
    let g = c.args.goal in
    let reach = rounds-reach cs (enough cs) r g in
    let turns : c.loop-turn.turn ≡ enough cs = omega arith in
    let found : c.as_slice-2.result.now ≡ rounds cs (enough cs) g = c.as_slice-2.ensures ∙ c.loop-turn.invariant ∙ ap (λ n. rounds cs n g) turns in
    let reached : c.any_in-reached.result ≡ list_any (stands_in r) (rounds cs (enough cs) g) = c.any_in-reached.ensures ∙ ap (list_any (stands_in r)) found in
    elim c.if-routine-goal.branch [
      | then-routine-goal w ↦ w.result-is ∙ eq-eqb r g w.if-routine-goal.true ∙ sym (or_left (r == g) (list_any (stands_in r) (rounds cs (enough cs) g)) (eq-eqb r g w.if-routine-goal.true)) ∙ reach
      | else-routine-goal w ↦ w.result-is ∙ reached ∙ sym (ap (λ b. b || list_any (stands_in r) (rounds cs (enough cs) g)) (ne_eqb r g w.if-routine-goal.false)) ∙ reach
    ]
