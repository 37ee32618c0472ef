-- An order that is given by the places of the processes.
use Rattle.std.proofs.Common.{◌≡◌, ℕ, ◌<◌, true, false, List, [], ◌∷◌, length, slice_index_or, refl, sym, ◌∙◌, subst, inl, inr}
use Rattle.std.proofs.lemmas.Bool.{cases_order}
use Rattle.row_machine.specs.Valuation.{Place, Member, has, NoneWrites, OneWriter}
use Rattle.row_machine.specs.Machine.{Process}
use Rattle.row_machine.specs.Order.{IsOrder}
use Rattle.row_machine.specs.Stuck.{Distinct, at_places, IsOrderOfPlaces}
use Rattle.row_machine.proofs.Basics.{true_or_false, clash, member_at}
use Rattle.row_machine.proofs.Members.{member-place, member-map, map-member, one_writer_at}
use Rattle.row_machine.proofs.Stuck.{same_element}
use Rattle.row_machine.proofs.Told.{of_process}

module _ (ps : List Process) (d : Process) (one : OneWriter of_process ps) where
  abbrev at : ℕ → Process
  at k = slice_index_or ps k d

  not_both : (k j : ℕ) → k < length ps → j < length ps → (k ≡ j → ⊥) → (q : Place) → has (at k).writes q ≡ true → has (at j).writes q ≡ false
  not_both k j hk hj other q h =
      elim (cases_order k j) [
        | inl e ↦ absurd (other e)
        | inr less ↦ elim less [
          | inl l ↦ one_writer_at of_process ps one k j d l hj q h
          | inr l ↦ elim (true_or_false (has (at j).writes q)) [
            | inl t ↦ clash (has (at k).writes q) h (one_writer_at of_process ps one j k d l hk q t)
            | inr f ↦ f
          ]
        ]
      ]

  one_writer : (ks : List ℕ) → ((k : ℕ) → Member ks k → k < length ps) → Distinct ks → OneWriter of_process (at_places ps d ks)
  one_writer [] within distinct = tt
  one_writer (k ∷ ks) within distinct = (later, one_writer ks (λ j m. within j (inr m)) distinct.1)
    where
      later : (q : Place) → has (at k).writes q ≡ true → NoneWrites of_process (at_places ps d ks) q
      later q h p m =
          let j = map-member at ks p m in
          (λ i. has (j.2 i).writes q)
          ∙ not_both k j.0 (within k (inl refl)) (within j.0 (inr j.1)) (λ e. distinct.0 (subst (λ n. Member ks n) (sym e) j.1)) q h

  pub order_of_places : (ks : List ℕ) → IsOrderOfPlaces ps d ks → IsOrder ps (at_places ps d ks)
  order_of_places ks order = record {
    every = λ p m.
        let k = member-place ps p m in
        subst (Member (at_places ps d ks)) (same_element ps k.0 d p k.1 ∙ k.2) (member-map at ks k.0 (order.every k.0 k.1));
    only = λ p m.
        let k = map-member at ks p m in
        subst (Member ps) (sym k.2) (member_at ps k.0 d (order.within k.0 k.1));
    one_writer = one_writer ks order.within order.distinct;
    ordered = order.ordered;
  }
