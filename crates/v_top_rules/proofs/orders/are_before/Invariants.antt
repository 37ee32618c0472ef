use Rattle.std.proofs.Common.{◌≡◌, drop, nat_lt}
use Rattle.std.specs.List.{list_all}
use Rattle.v_top_rules.specs.Orders as means
use Rattle.v_top_rules.proofs.orders.are_before.Given as goal

abbrev pub invariant-loop-number : goal.invariant-loop-number
invariant-loop-number l =
    list_all (λ c. nat_lt (means.place_at l.places c) l.place) (drop l.number-index l.below)
    ≡ list_all (λ c. nat_lt (means.place_at l.places c) l.place) l.below
