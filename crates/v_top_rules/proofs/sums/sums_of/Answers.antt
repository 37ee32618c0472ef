use Rattle.std.proofs.Common.{rules, ◌≡◌, ◌∙◌, ap, length}
use Rattle.v_top_rules.specs.Sums as means
use Rattle.v_top_rules.specs.Orders.{Settled}
use Rattle.v_top_rules.proofs.Ordered.{settled_rounds}
use Rattle.v_top_rules.proofs.sums.sums_of.Goals as goal

-- src/sums.rt:155:9
pub returns-then-are_settled : goal.returns-then-are_settled
returns-then-are_settled c =
    let nodes = c.as_slice-nodes.result.now in
    let places = c.as_slice.result.now in
    let sums = c.as_slice-2.result.now in
    let good : Settled nodes places sums = search rules in
    let same : c.in_ok-places.field-0.sums ≡ sums = search rules in
    let own : nodes ≡ c.args.nodes.now = search rules in
    same ∙ settled_rounds nodes places sums good ∙ ap (λ ns. means.rounds (length ns) ns) own
