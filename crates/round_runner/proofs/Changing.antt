-- Rounds over the groups for which something has changed.
use Rattle.std.proofs.Common.{◌≡◌, ◌≢◌, ℕ, ◌-◌, ◌<◌, ◌==◌, ◌⊎◌, Bool, true, false, List, [], length, All, slice_index_or, refl, sym, ap, ◌∙◌, subst, inl, inr}
use Rattle.std.proofs.lemmas.Bool.{cases_Bool, eq-eqb, true≢false, cases_lt}
use Rattle.std.proofs.lemmas.List.{get_or_past}
use Rattle.b4_core.specs.declared.bit.Bit4.{Bit4}
use Rattle.b4_core.specs.declared.bit.Bit4.TheVariants.{X}
use Rattle.row_machine.specs.Valuation.{Place, Valuation}
use Rattle.row_machine.specs.Machine.{Machine, Started}
use Rattle.row_machine.specs.Rounds.{round, written_bits}
use Rattle.round_runner.specs.declared.plan.Plan.{Plan}
use Rattle.round_runner.specs.declared.rounds.Ended.{Ended}
use Rattle.round_runner.specs.declared.rounds.Ended.TheVariants.{Rests, Changes}
use Rattle.round_runner.specs.Stores.{holding, widths}
use Rattle.round_runner.specs.Parts.{Marks}
use Rattle.round_runner.specs.Rounds.{IsRound, RoundsEnd, ComeToRest}
use Rattle.round_runner.specs.Plans.{is_in, under, group_of, IsPlan, Grouped, Taken, Remade, AreChanges, AreTold, AllNumbers, LastOf}
use Rattle.round_runner.proofs.Running.{RanOn, Running, running_at_start, running_on, come_to_rest, go_on}

abbrev Store : Type 0
Store = List (List Bit4)

-- Both stores hold what the rounds so far came to, and another round changes only signals of these groups.
pub record Changing (d : Machine) (plan : Plan) (flags : List Bool) (base now next : Store) (groups : List ℕ) (left : ℕ) : Type 0 where
  pub running : Running d flags base now left
  pub same : (s : Started) → Marks d.combs s flags → holding next ≡ holding now
  pub next_shape : widths next ≡ widths base
  pub there : All (λ g. g < length plan.places) groups
  pub still : (s : Started) → Marks d.combs s flags → (q : Place) → is_in groups (group_of plan q.signal) ≡ false → round d s (holding base) (holding now) q ≡ holding now q

group_within : (plan : Plan) (n : ℕ) → Grouped plan → ((group_of plan n < length plan.places) ⊎ ((group_of plan n == length plan.places) ≡ true))
group_within plan n grouped =
    elim (cases_lt n (length plan.places)) [
      | inl l ↦ inl (grouped.places_there n (length plan.places) l)
      | inr past ↦ inr (eq-eqb (group_of plan n) (length plan.places) (get_or_past plan.places n (length plan.places) past))
    ]

pub changing_at_start : (d : Machine) (plan : Plan) (flags : List Bool) (base now next : Store) (groups : List ℕ) (left : ℕ) → IsPlan d plan → now ≡ base → next ≡ base
    → AllNumbers (length plan.places) groups → left ≡ written_bits d.combs → Changing d plan flags base now next groups left
changing_at_start d plan flags base now next groups left is_plan is_now is_next numbers count = record {
  running = running_at_start d flags base now left is_now count;
  same = λ s m. ap holding (is_next ∙ sym is_now);
  next_shape = ap widths is_next;
  there = numbers.there;
  still = λ s m q e. elim (group_within plan q.signal is_plan.grouped) [
    | inl l ↦ absurd (true≢false (sym (numbers.all (group_of plan q.signal) l) ∙ e))
    | inr outside ↦ is_plan.outside s (holding now) (holding base) q outside ∙ ap (λ vs. holding vs q) (sym is_now)
  ];
}

-- the other store, after a round
module _ (d : Machine) (plan : Plan) (flags : List Bool) (base now next made : Store) (groups : List ℕ) (left : ℕ) (is_plan : IsPlan d plan)
    (remade : Remade d plan flags base now groups next made) (changing : Changing d plan flags base now next groups left) where
  at_place : (s : Started) → Marks d.combs s flags → (q : Place) → holding made q ≡ round d s (holding base) (holding now) q
  at_place s m q =
      elim (cases_Bool (is_in groups (group_of plan q.signal))) [
        | inl in_group ↦ remade.anew s m q in_group
        | inr elsewhere ↦ remade.kept s m q elsewhere ∙ ap (λ (v : Valuation). v q) (changing.same s m) ∙ sym (changing.still s m q elsewhere)
      ]

  pub made_round : IsRound d flags base now made
  made_round = record { values = λ s m. (λ k q. at_place s m q k); shape = remade.shape ∙ changing.next_shape }

  -- a signal that isn't among the changes
  unchanged : (ns : List ℕ) → AreChanges plan groups now made ns → (s : Started) → Marks d.combs s flags → (q : Place) → is_in ns q.signal ≡ false → holding made q ≡ holding now q
  unchanged ns changes s m q e =
      elim (cases_Bool (is_in groups (group_of plan q.signal))) [
        | inl in_group ↦ ap (λ (v : List Bit4). slice_index_or v q.bit X) (changes.others q.signal in_group e)
        | inr elsewhere ↦ remade.kept s m q elsewhere ∙ ap (λ (v : Valuation). v q) (changing.same s m)
      ]

  pub rests_now : (ns : List ℕ) (result : Store) → AreChanges plan groups now made ns → ns ≡ [] → result ≡ now → ComeToRest d flags base result
  rests_now ns result changes none is_now =
      subst (ComeToRest d flags base) (sym is_now)
      (come_to_rest d flags base now made left made_round (λ s m. (λ k q. still_there s m q k)) changing.running)
    where
      still_there : (s : Started) → Marks d.combs s flags → (q : Place) → holding now q ≡ holding made q
      still_there s m q = sym (unchanged ns changes s m q (ap (λ ms. is_in ms q.signal) none))

  pub ends_now : (ended : Ended) → left ≡ 0 → LastOf now made ended → RoundsEnd d flags base ended
  ends_now (Rests result) over last =
      subst (ComeToRest d flags base) (sym last.0) (come_to_rest d flags base now made left made_round (λ s m. ap holding last.1) changing.running)
  ends_now (Changes c) over last = go_on d flags base now made left c.signal c over made_round last.first refl last.before last.after changing.running

  module _ (ns more : List ℕ) (synced : Store) (changes : AreChanges plan groups now made ns) (taken : Taken ns made now synced) (told_them : AreTold plan ns more) where
    synced_at : (s : Started) → Marks d.combs s flags → (q : Place) → holding synced q ≡ holding made q
    synced_at s m q =
        elim (cases_Bool (is_in ns q.signal)) [
          | inl among ↦ ap (λ (v : List Bit4). slice_index_or v q.bit X) (taken.taken q.signal among)
          | inr other ↦ ap (λ (v : List Bit4). slice_index_or v q.bit X) (taken.kept q.signal other) ∙ sym (unchanged ns changes s m q other)
        ]

    synced_is : (s : Started) → Marks d.combs s flags → holding synced ≡ holding made
    synced_is s m = λ k q. synced_at s m q k

    still_so : (s : Started) → Marks d.combs s flags → (q : Place) → is_in more (group_of plan q.signal) ≡ false → round d s (holding base) (holding synced) q ≡ holding synced q
    still_so s m q e =
        is_plan.told_of (group_of plan q.signal) s (holding synced) (holding now) (holding base) alike q (eq-eqb (group_of plan q.signal) (group_of plan q.signal) refl)
        ∙ sym (at_place s m q) ∙ sym (synced_at s m q)
      where
        alike : (r : Place) → is_in (under plan.readers r.signal) (group_of plan q.signal) ≡ true → holding synced r ≡ holding now r
        alike r reads =
            elim (cases_Bool (is_in ns r.signal)) [
              | inl among ↦ absurd (true≢false (sym (told_them.all r.signal (group_of plan q.signal) among reads) ∙ e))
              | inr other ↦ ap (λ (v : List Bit4). slice_index_or v r.bit X) (taken.kept r.signal other)
            ]

    pub changing_on : (n : ℕ) → left ≢ 0 → is_in ns n ≡ true → Changing d plan flags base synced made more (left - 1)
    changing_on n some among =
        let apart = changes.differ n among in
        let q : Place = record { signal = n; bit = apart.bit } in
        let running = running_on d flags base now made left q some made_round apart.differs changing.running in record {
          running = record {
            within = running.within;
            ran = λ s m. subst (λ (v : Valuation). RanOn d s (holding base) (written_bits d.combs - (left - 1)) v) (sym (synced_is s m)) (running.ran s m);
            shape = taken.shape ∙ changing.running.shape;
          };
          same = λ s m. sym (synced_is s m);
          next_shape = remade.shape ∙ changing.next_shape;
          there = told_them.there;
          still = still_so;
        }
