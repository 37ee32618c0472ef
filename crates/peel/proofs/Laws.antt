-- The proofs of the laws, as crates above cite them.
use Rattle.std.proofs.Common.{◌≡◌, ℕ, zero, suc, ◌<◌, ◌≤◌, true, false, List, [], ◌∷◌, length, take, slice_index_or, sym, ap, ◌∙◌, subst, inl, inr, arith}
use Rattle.std.proofs.lemmas.List.{append-nil, get_or_default}
use Rattle.row_machine.specs.Valuation.{Member}
use Rattle.row_machine.specs.Machine.{Process}
use Rattle.row_machine.specs.Order.{Free, free, follows, Ordered}
use Rattle.row_machine.specs.Stuck.{Stuck, at_places, IsOrderOfPlaces}
use Rattle.row_machine.proofs.Basics.{true_or_false, member_at}
use Rattle.row_machine.proofs.Members.{member-place, member-front, member-back, map-member, member-map}
use Rattle.row_machine.proofs.Laws as Machine
use Rattle.peel.specs.Peeled.{IsPeeled}
use Rattle.peel.specs.Laws.{NeedsFollowed, PeeledIsAnOrder, OrderedAreFree, RestIsStuck}
use Rattle.peel.proofs.Lists.{distinct_places, place-in_take, distinct-front}

module _ (ps : List Process) (d : Process) (needs : List (List ℕ)) (tied : NeedsFollowed ps d needs) where
  abbrev at : ℕ → Process
  at p = slice_index_or ps p d

  module _ (order left : List ℕ) (peeled : IsPeeled needs order left) where
    ordered_low : (p : ℕ) → Member order p → p < length ps
    ordered_low p m = omega (arith, peeled.within p (member-front order left p m), tied.count)

    left_low : (p : ℕ) → Member left p → p < length ps
    left_low p m = omega (arith, peeled.within p (member-back order left p m), tied.count)

    -- a process that one in the order follows stands before it
    stands_before : (i q : ℕ) → i < length order → q < length ps → follows (at (slice_index_or order i 0)) (at q) ≡ true → Member (take i order) q
    stands_before i q low there f =
        peeled.earlier i q low (omega (arith, tied.count)) (tied.needs_it (slice_index_or order i 0) q (ordered_low (slice_index_or order i 0) (member_at order i 0 low)) there f)

    free_at : (n i : ℕ) → i < n → i < length order → Free ps (at (slice_index_or order i 0))
    free_at zero i below low = absurd (omega arith)
    free_at (suc n) i below low =
        free (λ q m f.
        let k = member-place ps q m in
        let same : at k.0 ≡ q = get_or_default ps k.0 d q k.1 ∙ k.2 in
        let j = place-in_take order i k.0 (stands_before i k.0 low k.1 (ap (follows (at (slice_index_or order i 0))) same ∙ f)) in
        subst (Free ps) (ap at j.3 ∙ same) (free_at n j.0 (omega (arith, j.1)) j.2)
        )

    pub ordered_free : (p : ℕ) → Member order p → Free ps (at p)
    ordered_free p m =
        let k = member-place order p m in
        subst (λ x. Free ps (at x)) (get_or_default order k.0 0 p k.1 ∙ k.2) (free_at (suc k.0) k.0 (omega arith) k.1)

    pub left_stuck : (p : ℕ) → Member left p → Stuck ps (at p)
    left_stuck p m = Machine.left_are_stuck ps (at_places ps d left) within next (at p) (member-map at left p m)
      where
        within : (p : Process) → Member (at_places ps d left) p → Member ps p
        within p m = let k = map-member at left p m in subst (Member ps) (sym k.2) (member_at ps k.0 d (left_low k.0 k.1))

        next : (p : Process) → Member (at_places ps d left) p → (q : Process) × Member (at_places ps d left) q × (follows p q ≡ true)
        next p m =
            let k = map-member at left p m in
            let r = peeled.waiting k.0 k.1 in (
              at r.0,
              member-map at left r.0 r.2,
              subst (λ x. follows x (at r.0) ≡ true) (sym k.2) (tied.followed k.0 r.0 (left_low k.0 k.1) (left_low r.0 r.2) r.1),
            )

  -- no process follows itself or a later one, by places
  ordered_by : (ks : List ℕ) → ((i j : ℕ) → i ≤ j → j < length ks → follows (at (slice_index_or ks i 0)) (at (slice_index_or ks j 0)) ≡ false) → Ordered (at_places ps d ks)
  ordered_by [] none = tt
  ordered_by (k ∷ ks) none = (first, ordered_by ks (λ i j le low. none (suc i) (suc j) (omega arith) (omega arith)))
    where
      first : (q : Process) → Member (at_places ps d (k ∷ ks)) q → follows (at k) q ≡ false
      first q m =
          let r = map-member at (k ∷ ks) q m in
          let j = member-place (k ∷ ks) r.0 r.1 in
          let same : slice_index_or (k ∷ ks) j.0 0 ≡ r.0 = get_or_default (k ∷ ks) j.0 0 r.0 j.1 ∙ j.2 in
          subst (λ x. follows (at k) x ≡ false) (ap at same ∙ sym r.2) (none 0 j.0 (omega arith) j.1)

  module _ (order : List ℕ) (peeled : IsPeeled needs order []) where
    none_later : (i j : ℕ) → i ≤ j → j < length order → follows (at (slice_index_or order i 0)) (at (slice_index_or order j 0)) ≡ false
    none_later i j le low =
        elim (true_or_false (follows (at (slice_index_or order i 0)) (at (slice_index_or order j 0)))) [
          | inl t ↦ (let k = place-in_take order i (slice_index_or order j 0)
              (stands_before order [] peeled i (slice_index_or order j 0) (omega arith) (ordered_low order [] peeled (slice_index_or order j 0) (member_at order j 0 low)) t) in
              absurd (distinct_places order k.0 j (distinct-front order [] peeled.distinct) (omega (arith, k.1)) low k.3))
          | inr f ↦ f
        ]

    pub is_order : IsOrderOfPlaces ps d order
    is_order = record {
      within = ordered_low order [] peeled;
      every = λ k low. subst (λ xs. Member xs k) (append-nil order) (peeled.every k (omega (arith, tied.count)));
      distinct = distinct-front order [] peeled.distinct;
      ordered = ordered_by order none_later;
    }

pub peeled_is_an_order : PeeledIsAnOrder
peeled_is_an_order ps d needs order tied peeled = is_order ps d needs tied order peeled

pub ordered_are_free : OrderedAreFree
ordered_are_free ps d needs order left tied peeled p m = ordered_free ps d needs tied order left peeled p m

pub rest_is_stuck : RestIsStuck
rest_is_stuck ps d needs order left tied peeled p m = left_stuck ps d needs tied order left peeled p m
