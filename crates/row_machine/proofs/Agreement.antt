-- A target that simulates its source settles where the source does.
use Rattle.std.proofs.Common.{◌≡◌, ◌⊎◌, Bool, true, false, not, ◌&&◌, ◌||◌, Option, Some, None, refl, sym, ap, ◌∙◌, inl, inr}
use Rattle.std.proofs.lemmas.Bool.{or_left, false_from_ne_true}
use Rattle.b4_core.specs.declared.bit.Bit4.{Bit4}
use Rattle.row_machine.specs.Valuation.{Place, Valuation, Member, has, changed, only_if, put_each, NoneWrites}
use Rattle.row_machine.specs.Machine.{Process, Machine, Started, told}
use Rattle.row_machine.specs.Settle.{Settled, differs, woken, adds}
use Rattle.row_machine.specs.Order.{Sound}
use Rattle.row_machine.specs.Agreement.{Map, image_or, lifted, Typed, Overwritten, Twin, Copy, Simulates}
use Rattle.row_machine.proofs.Basics.{true_or_false, clash, member-any, any-member}
use Rattle.row_machine.proofs.Writes.{writer}
use Rattle.row_machine.proofs.Told.{of_process, at_rest, at_writer, only_if-same}

some_or_none : {A : Type 0} (o : Option A) → ((x : A) × (o ≡ Some x)) ⊎ (o ≡ None)
some_or_none (Some x) = inl (x, refl)
some_or_none None = inr refl

pub none_some : {A C : Type 0} {x : A} (o : Option A) → o ≡ None → o ≡ Some x → C
none_some o n e = absurd (apart (sym n ∙ e))
  where
    apart : {A : Type 0} {x : A} → None ≡ Some x → ⊥
    apart e = cc

same_Bool : (a b : Bool) → (a ≡ true → b ≡ true) → (b ≡ true → a ≡ true) → a ≡ b
same_Bool true b f g = sym (f refl)
same_Bool false b f g = sym (false_from_ne_true b (λ e. clash false (g e) refl))

module _ (m : Map) where
  pub lifted_image : (v : Valuation) (q q' : Place) → m.origin q' ≡ Some q → lifted m v q' ≡ v q
  lifted_image v q q' e = ap (λ o. image_or o v (m.extra v q')) e

  pub lifted_extra : (v : Valuation) (q' : Place) → m.origin q' ≡ None → lifted m v q' ≡ m.extra v q'
  lifted_extra v q' e = ap (λ o. image_or o v (m.extra v q')) e

  module _ (d e : Machine) (simulates : Simulates m d e) (sound_d : Sound d) (sound_e : Sound e) where
    -- the started sets are alike: twins together, copies and what runs from time zero always
    pub record Matched (s s' : Started) : Type 0 where
      pub twins : (p t : Process) → Member d.combs p → Member e.combs t → Twin m d e p t → s' t ≡ s p
      pub copies : (t : Process) → Member e.combs t → Copy m t → s' t ≡ true
      pub from_zero : (p : Process) → Member d.combs p → p.from_zero ≡ true → s p ≡ true

    -- the bases are alike, but for bits that are written anyway
    pub record SameBase (base base' : Valuation) : Type 0 where
      pub images : (q q' : Place) → m.origin q' ≡ Some q → (base' q' ≡ base q) ⊎ Overwritten m d q
      pub others : (q' : Place) → m.origin q' ≡ None → NoneWrites of_process e.combs q' → base' q' ≡ e.start q'

    pub matched_woken : (s s' : Started) (v : Valuation) → Typed m v → Matched s s' → Matched (woken d v s) (woken e (lifted m v) s')
    matched_woken s s' v typed h = record {
      twins = λ p t mp mt twin. λ i. h.twins p t mp mt twin i || twin.wakes v typed i;
      copies = λ t mt copy. or_left (s' t) (differs t.waits_for (lifted m v) e.initial) (h.copies t mt copy);
      from_zero = λ p mp z. or_left (s p) (differs p.waits_for v d.initial) (h.from_zero p mp z);
    }

    -- the same processes are started next, so settling goes on or ends in both
    module _ (s s' : Started) (v : Valuation) (typed : Typed m v) (h : Matched s s') where
      abbrev test : Process → Bool
      test p = not (s p) && differs p.waits_for v d.initial

      abbrev test' : Process → Bool
      test' t = not (s' t) && differs t.waits_for (lifted m v) e.initial

      same_test : (p t : Process) → Member d.combs p → Member e.combs t → Twin m d e p t → test' t ≡ test p
      same_test p t mp mt twin = λ i. not (h.twins p t mp mt twin i) && twin.wakes v typed i

      no_test : (t : Process) → s' t ≡ true → test' t ≡ false
      no_test t started = ap (λ b. not b && differs t.waits_for (lifted m v) e.initial) started

      pub adds_alike : adds e (lifted m v) s' ≡ adds d v s
      adds_alike = same_Bool (adds e (lifted m v) s') (adds d v s) down up
        where
          down : adds e (lifted m v) s' ≡ true → adds d v s ≡ true
          down more =
              let r = any-member test' e.combs more in
              elim (simulates.source r.0 r.1) [
                | inl p ↦ member-any test d.combs p.0 p.1 (sym (same_test p.0 r.0 p.1 r.1 p.2) ∙ r.2)
                | inr copy ↦ clash (test' r.0) r.2 (no_test r.0 (h.copies r.0 r.1 copy))
              ]

          up : adds d v s ≡ true → adds e (lifted m v) s' ≡ true
          up more =
              let r = any-member test d.combs more in
              let t = simulates.twin r.0 r.1 in
              member-any test' e.combs t.0 t.1 (same_test r.0 t.0 r.1 t.1 t.2 ∙ r.2)

    module _ (s s' : Started) (base base' v : Valuation) (typed : Typed m v) (h : Matched s s') (bases : SameBase base base') (settled : Settled d s base v) where
      after : Place → Bit4
      after q' = put_each (told s' (lifted m v)) e.combs base' q'

      -- a bit that a twin writes
      at_twin : (q q' : Place) → m.origin q' ≡ Some q → (p t : Process) → Member d.combs p → Member e.combs t → Twin m d e p t → has p.writes q ≡ true
          → (told s v p q ≡ told s' (lifted m v) t q') × (after q' ≡ changed (told s v p q) (base' q')) × (v q ≡ changed (told s v p q) (base q))
      unfolding after
      at_twin q q' o p t mp mt twin w =
          let same : told s v p q ≡ told s' (lifted m v) t q' =
          only_if-same (s p) (p.assigns v) (t.assigns (lifted m v)) q q' (sym (twin.assigns v typed q q' o w)) ∙ ap (λ b. only_if b (t.assigns (lifted m v)) q') (sym (h.twins p t mp mt twin)) in (
            same,
            at_writer e sound_e.well_written s' (lifted m v) base' t mt q' (twin.writes.images q q' o ∙ w) ∙ ap (λ x. changed x (base' q')) (sym same),
            ap (λ f. f q) settled ∙ at_writer d sound_d.well_written s v base p mp q w,
          )

      always_written : (q : Place) (over : Overwritten m d q) → has over.by.writes q ≡ true
      always_written q over =
          elim (true_or_false (has over.by.writes q)) [
            | inl t ↦ t
            | inr f ↦ none_some (over.by.assigns v q) ((sound_d.honest over.by over.is_process).within v q f) (over.always v typed).1
          ]

      -- a bit that is written in each run
      at_overwritten : (q q' : Place) → m.origin q' ≡ Some q → Overwritten m d q → v q ≡ after q'
      at_overwritten q q' o over =
          let t = simulates.twin over.by over.is_process in
          let r = at_twin q q' o over.by t.0 over.is_process t.1 t.2 (always_written q over) in
          let x = over.always v typed in
          let value : told s v over.by q ≡ Some x.0 = (λ i. only_if (h.from_zero over.by over.is_process over.from_zero i) (over.by.assigns v) q) ∙ x.1 in
          r.2 ∙ ap (λ c. changed c (base q)) value ∙ ap (λ c. changed c (base' q')) (sym value) ∙ sym r.1

      -- a bit whose base is the same
      at_image : (q q' : Place) → m.origin q' ≡ Some q → base' q' ≡ base q → v q ≡ after q'
      unfolding after
      at_image q q' o same =
          elim (writer of_process d.combs q) [
            | inl w ↦ (let t = simulates.twin w.0 w.1 in
                let r = at_twin q q' o w.0 t.0 w.1 t.1 t.2 w.2 in
                r.2 ∙ ap (λ b. changed (told s v w.0 q) b) (sym same) ∙ sym r.1)
            | inr n ↦
                ap (λ f. f q) settled ∙ at_rest d sound_d.well_written s v base q n ∙ sym same ∙ sym (at_rest e sound_e.well_written s' (lifted m v) base' q' (none q q' o n))
          ]
        where
          none : (q q' : Place) → m.origin q' ≡ Some q → NoneWrites of_process d.combs q → NoneWrites of_process e.combs q'
          none q q' o n t mt =
              elim (simulates.source t mt) [
                | inl p ↦ p.2.writes.images q q' o ∙ n p.0 p.1
                | inr copy ↦ false_from_ne_true (has t.writes q') (λ w. none_some (m.origin q') (copy.writes q' w) o)
              ]

      at_other : (q' : Place) → m.origin q' ≡ None → m.extra v q' ≡ after q'
      unfolding after
      at_other q' o =
          elim (writer of_process e.combs q') [
            | inl w ↦ elim (simulates.source w.0 w.1) [
              | inl p ↦ clash (has w.0.writes q') w.2 (p.2.writes.no_more q' o)
              | inr copy ↦
                  sym (at_writer e sound_e.well_written s' (lifted m v) base' w.0 w.1 q' w.2
                  ∙ ap (λ b. changed (only_if b (w.0.assigns (lifted m v)) q') (base' q')) (h.copies w.0 w.1 copy)
                  ∙ ap (λ c. changed c (base' q')) (copy.assigns v typed q' w.2))
            ]
            | inr n ↦ simulates.unwritten q' o n v typed ∙ sym (bases.others q' o n) ∙ sym (at_rest e sound_e.well_written s' (lifted m v) base' q' n)
          ]

      pub settled_alike : Settled e s' base' (lifted m v)
      unfolding after
      settled_alike = λ i q'. at q' i
        where
          at : (q' : Place) → lifted m v q' ≡ put_each (told s' (lifted m v)) e.combs base' q'
          at q' =
              elim (some_or_none (m.origin q')) [
                | inl o ↦ elim (bases.images o.0 q' o.1) [
                  | inl same ↦ lifted_image v o.0 q' o.1 ∙ at_image o.0 q' o.1 same
                  | inr over ↦ lifted_image v o.0 q' o.1 ∙ at_overwritten o.0 q' o.1 over
                ]
                | inr o ↦ lifted_extra v q' o ∙ at_other q' o
              ]
