use Rattle.std.proofs.Common.{◌≡◌, ◌+◌, max, drop, map, arith, subst}
use Rattle.v_meaning.specs.Statements.{item_values}
use Rattle.v_eval.specs.Scopes.{scope_of}
use Rattle.v_eval.proofs.Loops.{at-front}
use Rattle.v_eval.specs.Limits.{limits}
use Rattle.v_meaning.specs.Values.{meaning}
use Rattle.v_exec.specs.Choices.{item_of, widened}
use Rattle.v_exec.specs.Limits.{limits_of_item, values_in, widest_of}
use Rattle.v_exec.proofs.Choosing.{widened-next, widest-next}
use Rattle.v_exec.proofs.selectors.with_items.Goals as goal

pub loop-item-preserved : goal.loop-item-preserved
loop-item-preserved c =
    let items = c.args.items.now in
    let i = c.loop-item.item-index in
    let x = c.item-item.result in
    let sc = scope_of c.args.scope in
    let front = at-front items i x (omega arith) c.item-item.is in
    record {
      meaning = widened-next (item_of x) (map item_of (drop (i + 1) items)) (map meaning c.values_of.result.now) c.loop-item.at c.in_ok-at.at (widened c.args.at (item_values (map item_of items)) sc) sc c.values_of.ensures.meaning
          c.in_ok-at.ensures.meaning (subst (λ xs. widened c.loop-item.at (item_values (map item_of xs)) sc ≡ widened c.args.at (item_values (map item_of items)) sc) front c.loop-item.invariant.meaning);
      limits = widest-next (limits_of_item x) (map limits_of_item (drop (i + 1) items)) (map limits c.values_of.result.now) c.loop-item.at.width c.in_ok-at.at.width (max c.args.at.width (widest_of (values_in (map limits_of_item items)) sc)) sc
          c.values_of.ensures.limits c.in_ok-at.ensures.limits
          (subst (λ xs. max c.loop-item.at.width (widest_of (values_in (map limits_of_item xs)) sc) ≡ max c.args.at.width (widest_of (values_in (map limits_of_item items)) sc)) front c.loop-item.invariant.limits);
    }
