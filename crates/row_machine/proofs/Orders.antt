-- An order of the processes shows that none is stuck, and one run in it settles.
use Rattle.std.proofs.Common.{◌≡◌, ◌⊎◌, true, false, List, [], ◌∷◌, refl, sym, ap, ◌∙◌, subst, inl, inr}
use Rattle.row_machine.specs.Valuation.{Place, Valuation, Member, has, changed, put, NoneWrites, OneWriter}
use Rattle.row_machine.specs.Machine.{Process, Machine, Started, told}
use Rattle.row_machine.specs.Settle.{Settled}
use Rattle.row_machine.specs.Order.{Sound, Free, free, follows, Ordered, IsOrder, run}
use Rattle.row_machine.proofs.Basics.{true_or_false, clash, follows_writer}
use Rattle.row_machine.proofs.Told.{of_process, told-within, at_rest, at_writer, only_if-same}

freed : (ps qs : List Process) → Ordered qs → ((p : Process) → Member ps p → Free ps p ⊎ Member qs p) → (p : Process) → Member ps p → Free ps p
freed ps [] order left p m = elim (left p m) [ inl f ↦ f | inr k ↦ elim k [ ] ]
freed ps (x ∷ qs) order left p m = freed ps qs order.1 rest p m
  where
    before : (q : Process) → Member ps q → follows x q ≡ true → Free ps q
    before q mq f = elim (left q mq) [ inl done ↦ done | inr k ↦ clash (follows x q) f (order.0 q k) ]

    rest : (q : Process) → Member ps q → Free ps q ⊎ Member qs q
    rest q mq =
        elim (left q mq) [
          | inl done ↦ inl done
          | inr k ↦ elim k [
            | inl e ↦ inl (subst (Free ps) (sym e) (free before))
            | inr later ↦ inr later
          ]
        ]

pub order_frees : (ps qs : List Process) → IsOrder ps qs → (p : Process) → Member ps p → Free ps p
order_frees ps qs order = freed ps qs order.ordered (λ p m. inr (order.every p m))

module _ (d : Machine) (sound : Sound d) (s : Started) (base u : Valuation) (settled : Settled d s base u) where
  -- what is already run holds its settled values, what is to come its base
  record Half (qs : List Process) (v : Valuation) : Type 0 where
    alike : (q : Place) → NoneWrites of_process qs q → v q ≡ u q
    ahead : (p : Process) → Member qs p → (q : Place) → has p.writes q ≡ true → v q ≡ base q

  none_of : (p : Process) (qs : List Process) (q : Place) → has p.writes q ≡ false → NoneWrites of_process qs q → NoneWrites of_process (p ∷ qs) q
  none_of p qs q e n x (inl same) = subst (λ (z : Process). has z.writes q ≡ false) (sym same) e
  none_of p qs q e n x (inr m) = n x m

  unread : (p : Process) (qs : List Process) → ((x : Process) → Member qs x → follows p x ≡ false) → (r : Place) → has p.reads r ≡ true → NoneWrites of_process qs r
  unread p qs order r reads x m =
      elim (true_or_false (has x.writes r)) [ inl t ↦ clash (follows p x) (follows_writer p x r reads t) (order x m) | inr f ↦ f ]

  not_again : (p : Process) (qs : List Process) → OneWriter of_process (p ∷ qs) → (x : Process) → Member qs x → (q : Place) → has x.writes q ≡ true → has p.writes q ≡ false
  not_again p qs one x m q h =
      elim (true_or_false (has p.writes q)) [ inl t ↦ clash (has x.writes q) h (one.0 q t x m) | inr f ↦ f ]

  one_more : (p : Process) (qs : List Process) (v : Valuation) → Member d.combs p → OneWriter of_process (p ∷ qs) → Ordered (p ∷ qs) → Half (p ∷ qs) v → Half qs (put (told s v p) v)
  one_more p qs v m one order half = record { alike = alike; ahead = λ x k q h. kept q (not_again p qs one x k q h) ∙ half.ahead x (inr k) q h }
    where
      told_alike : (q : Place) → told s v p q ≡ told s u p q
      told_alike q =
          only_if-same (s p) (p.assigns v) (p.assigns u) q q
          ((sound.honest p m).by_reads v u (λ r reads. half.alike r (unread p (p ∷ qs) order.0 r reads)) q)

      kept : (q : Place) → has p.writes q ≡ false → put (told s v p) v q ≡ v q
      kept q e = ap (λ o. changed o (v q)) (told-within d sound.well_written s v p m q e)

      alike : (q : Place) → NoneWrites of_process qs q → put (told s v p) v q ≡ u q
      alike q n =
          elim (true_or_false (has p.writes q)) [
            | inl t ↦
                ap (λ o. changed o (v q)) (told_alike q)
                ∙ ap (λ b. changed (told s u p q) b) (half.ahead p (inl refl) q t)
                ∙ sym (at_writer d sound.well_written s u base p m q t)
                ∙ sym (ap (λ f. f q) settled)
            | inr f ↦ kept q f ∙ half.alike q (none_of p qs q f n)
          ]

  run_comes : (qs : List Process) (v : Valuation) → ((p : Process) → Member qs p → Member d.combs p) → OneWriter of_process qs → Ordered qs → Half qs v → (q : Place) → run s qs v q ≡ u q
  run_comes [] v only one order half q = half.alike q (λ x m. elim m [ ])
  run_comes (p ∷ qs) v only one order half q =
      run_comes qs (put (told s v p) v) (λ x m. only x (inr m)) one.1 order.1 (one_more p qs v (only p (inl refl)) one order half) q

  at_first : (qs : List Process) → IsOrder d.combs qs → Half qs base
  at_first qs order = record {
    alike = λ q n. sym (at_rest d sound.well_written s u base q (λ p m. n p (order.every p m))) ∙ sym (ap (λ f. f q) settled);
    ahead = λ p m q h. refl;
  }

  pub run_settles : (qs : List Process) → IsOrder d.combs qs → run s qs base ≡ u
  run_settles qs order = λ i q. run_comes qs base order.only order.one_writer order.ordered (at_first qs order) q i
