use Rattle.std.proofs.Common.{◌≡◌, ◌+◌, true, false, map, drop, arith, ap, sym, ◌∙◌}
use Rattle.std.proofs.Math.ListN.{drop_of_length-le}
use Rattle.sv_types.specs.Meanings.{total}
use Rattle.sv_types.specs.Expressions.{meaning}
use Rattle.eval_parts.proofs.Nodes.{nodes}
use Rattle.eval_exprs.proofs.Turns.{at-front}
use Rattle.expr_flows.proofs.Parting as G
use Rattle.loop_rules.specs.Targets.{names, roots_in}
use Rattle.loop_rules.proofs.Roots as R
use Rattle.loop_rules.proofs.Writing as W
use Rattle.loop_rules.proofs.targets.+roots.Goals as goal

pub is_target-are_targets-requires : goal.is_target-are_targets-requires
is_target-are_targets-requires t c = let p = G.parted c.args.e.now c.in-Some.parts.now c.in-Some.ensures in omega (arith, c.decreases, p.nodes)

pub is_target-returns-in-None : goal.is_target-returns-in-None
is_target-returns-in-None t c = R.alone c.args.e.now c.args.number c.stands_on.result c.in-None.ensures c.stands_on.ensures

pub is_target-returns-in-Some : goal.is_target-returns-in-Some
is_target-returns-in-Some t c = R.joined c.args.e.now c.in-Some.parts.now c.args.number c.are_targets.result c.in-Some.ensures c.are_targets.ensures

pub are_targets-is_target-requires : goal.are_targets-is_target-requires
are_targets-is_target-requires t c =
    let es = c.args.es.now in
    let i = c.loop-e.e-index in
    let x = c.e-item.result in
    let here = at-front es i x (omega arith) c.e-item.is in
    omega (arith, c.decreases, c.loop-e.invariant.few, ap (λ xs. total (map nodes xs)) here)

pub are_targets-returns-then-is_target : goal.are_targets-returns-then-is_target
are_targets-returns-then-is_target t c =
    let n = c.args.number in
    let es = c.args.es.now in
    let i = c.loop-e.e-index in
    let x = c.e-item.result in
    let rest = drop (i + 1) es in
    let hit : names n (meaning x).roots ≡ true = sym c.is_target.ensures ∙ c.if-is_target.true in
    sym (W.hit n (meaning x).roots (roots_in rest) hit) ∙ sym (ap (λ xs. names n (roots_in xs)) (at-front es i x (omega arith) c.e-item.is)) ∙ c.loop-e.invariant.same

pub are_targets-loop-e-preserved : goal.are_targets-loop-e-preserved
are_targets-loop-e-preserved t c =
    let n = c.args.number in
    let es = c.args.es.now in
    let i = c.loop-e.e-index in
    let x = c.e-item.result in
    let rest = drop (i + 1) es in
    let here = at-front es i x (omega arith) c.e-item.is in
    let miss : names n (meaning x).roots ≡ false = sym c.is_target.ensures ∙ c.if-is_target.false in
    record {
      few = omega (arith, c.loop-e.invariant.few, ap (λ xs. total (map nodes xs)) here);
      same = sym (W.skip n (meaning x).roots (roots_in rest) miss) ∙ sym (ap (λ xs. names n (roots_in xs)) here) ∙ c.loop-e.invariant.same;
    }

pub are_targets-returns : goal.are_targets-returns
are_targets-returns t c =
    let n = c.args.number in
    sym (ap (λ xs. names n (roots_in xs)) (drop_of_length-le c.args.es.now (omega arith))) ∙ c.loop-e.invariant.same
