-- Sums that are found in an order in which the modules of instances stand before those that hold them.
use Rattle.std.specs.Prelude.{◌≡◌, ℕ, ◌<◌, nat_lt, nat_le, Bool, true, ◌&&◌, List, length, Option, Some, None, slice_get}
use Rattle.std.specs.List.{list_all}
use Rattle.v_top_rules.specs.declared.nodes.Node.{Node}
use Rattle.v_top_rules.specs.declared.sums.Sum.{Sum}
use Rattle.v_top_rules.specs.Sums.{alone, sum_at, sum_from, is_same}

-- the place of a module in the order, from 1 on; 0 where it has none
abbrev pub place_or : Option ℕ → ℕ
place_or None = 0
place_or (Some place) = place

abbrev pub place_at : List ℕ → Option ℕ → ℕ
place_at places None = 0
place_at places (Some number) = place_or (slice_get places number)

-- a module has a place behind those of its instances, and its sum is that of theirs
abbrev pub is_settled : ℕ → List ℕ → List Sum → Node → ℕ → Bool
is_settled most places sums node number =
    let place = place_at places (Some number) in
    (nat_lt 0 place && nat_le place most)
    && (list_all (λ c. nat_lt (place_at places c) place) node.below && is_same (sum_at sums (Some number)) (sum_from node.below sums (alone node)))

abbrev pub is_settled_if : ℕ → List ℕ → List Sum → Option Node → ℕ → Bool
is_settled_if most places sums None number = true
is_settled_if most places sums (Some node) number = is_settled most places sums node number

-- this is so of each module
pub record Settled (nodes : List Node) (places : List ℕ) (sums : List Sum) : Type 0 where
  pub long : length sums ≡ length nodes
  pub each : (k : ℕ) → k < length nodes → is_settled_if (length nodes) places sums (slice_get nodes k) k ≡ true
