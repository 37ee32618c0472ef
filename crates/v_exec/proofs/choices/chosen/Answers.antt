use Rattle.std.proofs.Common.{rules, ◌<◌, ◌≤◌, ◌+◌, drop, map, length, ap, sym, ◌∙◌, subst}
use Rattle.v_meaning.specs.Runs.{one_of, first_match}
use Rattle.v_meaning.specs.Statements.{item_runs}
use Rattle.v_meaning.specs.Values.{meaning}
use Rattle.v_eval.specs.Holding.{holds}
use Rattle.v_eval.specs.Limits.{limits}
use Rattle.v_eval.specs.Scopes.{scope_of}
use Rattle.v_eval.proofs.Loops.{at-front}
use Rattle.v_exec.specs.Choices.{item_of, selector_of}
use Rattle.v_exec.specs.Limits.{limits_of_item, values_in, most_at}
use Rattle.v_exec.proofs.Choosing.{match-next, first-narrow, rest-narrow}
use Rattle.v_exec.proofs.choices.chosen.Goals as goal

pub is_matched-requires-clause-narrow : goal.is_matched-requires-clause-narrow
is_matched-requires-clause-narrow g c =
    let items = c.args.items.now in
    let i = c.loop-i.i in
    let x = c.index-items-i.result in
    let sc = scope_of c.args.around.scope in
    let w = c.args.selector.now.at.width in
    let inside : i < length items = search rules in
    let front = at-front items i x inside c.index-items-i.is in
    first-narrow w (limits_of_item x) (map limits_of_item (drop (i + 1) items)) (map limits c.values_of.result.now) sc c.values_of.ensures.limits
    (subst (λ xs. most_at w (values_in (map limits_of_item xs)) sc ≤ 128) front c.loop-i.invariant.narrow)

pub loop-i-preserved : goal.loop-i-preserved
loop-i-preserved g c =
    let items = c.args.items.now in
    let i = c.loop-i.i in
    let x = c.index-items-i.result in
    let sc = scope_of c.args.around.scope in
    let held = holds c.args.around.held in
    let on = selector_of c.args.selector.now in
    let w = c.args.selector.now.at.width in
    let inside : i < length items = search rules in
    let front = at-front items i x inside c.index-items-i.is in
    let rest = map item_of (drop (i + 1) items) in
    record {
      left = λ other v s now.
          (
          sym (ap (λ b. one_of b (item_of x).body.run (first_match on (item_runs rest) other) sc v s) c.if-branch.false)
          ∙ sym (match-next on (item_of x) rest (map meaning c.values_of.result.now) c.in_ok-is_matched.field-0 held other sc v s c.in_ok-is_matched.ensures c.values_of.ensures.meaning now)
          ∙ ap (λ xs. first_match on (item_runs (map item_of xs)) other sc v s) (sym front) ∙ c.loop-i.invariant.left other v s now
          );
      narrow = rest-narrow w (limits_of_item x) (map limits_of_item (drop (i + 1) items)) sc (subst (λ xs. most_at w (values_in (map limits_of_item xs)) sc ≤ 128) front c.loop-i.invariant.narrow);
    }
