-- Sums that are found in an order are those of the last round.
use Rattle.std.proofs.Common.{◌≡◌, ℕ, zero, suc, ◌≤◌, ◌<◌, nat_lt, nat_le, true, ◌&&◌, List, [], ◌∷◌, length, get_or, slice_get, Option, Some, None, option_map, refl, sym, ap, ◌∙◌, arith}
use Rattle.std.specs.List.{list_all}
use Rattle.std.proofs.lemmas.Bool.{leb-true, ltb-true}
use Rattle.std.proofs.lemmas.List.{ext_get_or, length-map}
use Rattle.std.proofs.lemmas.Option.{slice_get-map, slice_get_past, slice_get_within}
use Rattle.v_top_rules.proofs.Rounds.{and-first, and-second, same-sum}
use Rattle.v_top_rules.specs.declared.nodes.Node.{Node}
use Rattle.v_top_rules.specs.declared.sums.Sum.{Sum}
use Rattle.v_top_rules.specs.Sums.{alone, added, nothing, sum_or, sum_at, sum_from, round, rounds, is_same}
use Rattle.v_top_rules.specs.Orders.{place_at, is_settled, is_settled_if, Settled}

outside : {A : Type 0} (xs : List A) (k : ℕ) → slice_get xs k ≡ None → length xs ≤ k
outside [] k e = omega arith
outside (x ∷ xs) zero e = cc
outside (x ∷ xs) (suc k) e = let h = outside xs k e in omega (arith, h)

or-nothing : (xs : List Sum) (k : ℕ) → sum_or (slice_get xs k) ≡ get_or xs k nothing
or-nothing [] k = refl
or-nothing (x ∷ xs) zero = refl
or-nothing (x ∷ xs) (suc k) = or-nothing xs k

-- sums agree where they agree for the modules of the instances
below-same : (below : List (Option ℕ)) (places : List ℕ) (place : ℕ) (S T : List Sum) (s : Sum)
    → list_all (λ c. nat_lt (place_at places c) place) below ≡ true
    → ((c : Option ℕ) → place_at places c < place → sum_at S c ≡ sum_at T c) → sum_from below S s ≡ sum_from below T s
below-same [] places place S T s all same = refl
below-same (c ∷ cs) places place S T s all same =
    let first = nat_lt (place_at places c) place in
    let rest = list_all (λ c. nat_lt (place_at places c) place) cs in
    below-same cs places place S T (added s (sum_at S c)) (and-second first rest all) same
    ∙ ap (λ x. sum_from cs T (added s x)) (same c (ltb-true (place_at places c) place (and-first first rest all)))

module _ (nodes : List Node) (places : List ℕ) (sums : List Sum) (h : Settled nodes places sums) where
  abbrev Told : ℕ → Type 0
  Told d = (c : Option ℕ) → place_at places c ≤ d → sum_at (rounds d nodes) c ≡ sum_at sums c

  rounds-long : (d : ℕ) → length (rounds d nodes) ≡ length nodes
  rounds-long zero = length-map nodes alone
  rounds-long (suc d) = length-map nodes (λ (n : Node). sum_from n.below (rounds d nodes) (alone n))

  past : (d k : ℕ) → length nodes ≤ k → sum_at (rounds d nodes) (Some k) ≡ sum_at sums (Some k)
  past d k le =
      let long = rounds-long d in
      let own = h.long in
      ap sum_or (slice_get_past (rounds d nodes) k (omega (arith, le, long)) ∙ sym (slice_get_past sums k (omega (arith, le, own))))

  here : (d k : ℕ) (node : Node) → slice_get nodes k ≡ Some node → is_settled (length nodes) places sums node k ≡ true
      → place_at places (Some k) ≤ suc d → Told d → sum_at (round nodes (rounds d nodes)) (Some k) ≡ sum_at sums (Some k)
  here d k node at good le told =
      let place = place_at places (Some k) in
      let bounds = nat_lt 0 place && nat_le place (length nodes) in
      let order = list_all (λ c. nat_lt (place_at places c) place) node.below in
      let same = is_same (sum_at sums (Some k)) (sum_from node.below sums (alone node)) in
      let rest = and-second bounds (order && same) good in
      ap sum_or (slice_get-map (λ (n : Node). sum_from n.below (rounds d nodes) (alone n)) nodes k)
      ∙ ap (λ o. sum_or (option_map (λ (n : Node). sum_from n.below (rounds d nodes) (alone n)) o)) at
      ∙ below-same node.below places place (rounds d nodes) sums (alone node) (and-first order same rest) (λ c low. told c (omega (arith, le, low)))
      ∙ sym (same-sum (sum_at sums (Some k)) (sum_from node.below sums (alone node)) (and-second order same rest))

  by-place : (k : ℕ) (node : Node) → is_settled (length nodes) places sums node k ≡ true → 0 < place_at places (Some k)
  by-place k node good =
      let place = place_at places (Some k) in
      let low = nat_lt 0 place in
      let high = nat_le place (length nodes) in
      let order = list_all (λ c. nat_lt (place_at places c) place) node.below in
      let same = is_same (sum_at sums (Some k)) (sum_from node.below sums (alone node)) in
      ltb-true 0 place (and-first low high (and-first (low && high) (order && same) good))

  good : (k : ℕ) (node : Node) → slice_get nodes k ≡ Some node → is_settled (length nodes) places sums node k ≡ true
  good k node at = ap (λ o. is_settled_if (length nodes) places sums o k) (sym at) ∙ h.each k (slice_get_within nodes k node at)

  nowhere : (k : ℕ) → 0 < k → k ≤ 0 → ⊥
  nowhere k more none = omega (arith, more, none)

  zero-at : (k : ℕ) (o : Option Node) → slice_get nodes k ≡ o → place_at places (Some k) ≤ 0 → sum_at (rounds 0 nodes) (Some k) ≡ sum_at sums (Some k)
  zero-at k None at le = past 0 k (outside nodes k at)
  zero-at k (Some node) at le = absurd (nowhere (place_at places (Some k)) (by-place k node (good k node at)) le)

  next-at : (d k : ℕ) (o : Option Node) → slice_get nodes k ≡ o → place_at places (Some k) ≤ suc d → Told d
      → sum_at (rounds (suc d) nodes) (Some k) ≡ sum_at sums (Some k)
  next-at d k None at le told = past (suc d) k (outside nodes k at)
  next-at d k (Some node) at le told = here d k node at (good k node at) le told

  -- what is told of a module with a place up to d is what d rounds tell of it
  told : (d : ℕ) → Told d
  told zero None le = refl
  told zero (Some k) le = zero-at k (slice_get nodes k) refl le
  told (suc d) None le = refl
  told (suc d) (Some k) le = next-at d k (slice_get nodes k) refl le (told d)

  last-place : (k : ℕ) (node : Node) → is_settled (length nodes) places sums node k ≡ true → place_at places (Some k) ≤ length nodes
  last-place k node good =
      let place = place_at places (Some k) in
      let low = nat_lt 0 place in
      let high = nat_le place (length nodes) in
      let order = list_all (λ c. nat_lt (place_at places c) place) node.below in
      let same = is_same (sum_at sums (Some k)) (sum_from node.below sums (alone node)) in
      leb-true place (length nodes) (and-second low high (and-first (low && high) (order && same) good))

  all-at : (k : ℕ) (o : Option Node) → slice_get nodes k ≡ o → sum_at sums (Some k) ≡ sum_at (rounds (length nodes) nodes) (Some k)
  all-at k None at = sym (past (length nodes) k (outside nodes k at))
  all-at k (Some node) at = sym (told (length nodes) (Some k) (last-place k node (good k node at)))

  pub settled_rounds : sums ≡ rounds (length nodes) nodes
  settled_rounds =
      let long = rounds-long (length nodes) in
      ext_get_or nothing sums (rounds (length nodes) nodes) (h.long ∙ sym long)
      (λ k low. sym (or-nothing sums k) ∙ all-at k (slice_get nodes k) refl ∙ or-nothing (rounds (length nodes) nodes) k)
