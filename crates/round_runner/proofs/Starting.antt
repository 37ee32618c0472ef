-- How a settled store starts processes.
use Rattle.std.proofs.Common.{◌≡◌, ◌≢◌, ℕ, ◌+◌, ◌<◌, ◌≤◌, ◌||◌, ◌&&◌, Bool, true, false, not, List, length, map, drop, Some, slice_get, slice_index_or, slice_set, count_by, cond, refl, sym, ap, ◌∙◌, subst, inl, inr, arith}
use Rattle.std.specs.List.{list_any}
use Rattle.std.proofs.Math.Bool.{or-true, or-false}
use Rattle.std.proofs.lemmas.Bool.{cases_order, cases_Bool, and_parts, and_cases, or_left, or_right, or_from, not_from_false, true≢false, false≢true}
use Rattle.std.proofs.lemmas.Option.{same_Some}
use Rattle.std.proofs.lemmas.List.Sums.{sum_by-set}
use Rattle.std.proofs.lemmas.List.{drop_all, length-map, ext_get_or, get_or-set_other, get_or-set_same}
use Rattle.b4_core.specs.declared.bit.Bit4.{Bit4}
use Rattle.row_machine.specs.Valuation.{Valuation}
use Rattle.row_machine.specs.Machine.{Process, Machine, Started}
use Rattle.row_machine.specs.Settle.{adds, woken, differs}
use Rattle.round_runner.specs.Stores.{holding}
use Rattle.round_runner.specs.Parts.{Marks}
use Rattle.round_runner.specs.Settling.{Adds, Woken}
use Rattle.round_runner.proofs.Elements.{element, rest_at, mapped_at}

-- a flag that is set is one that is off less
count-set : (flags : List Bool) (i : ℕ) → i < length flags → not (slice_index_or flags i false) ≡ true → count_by not (slice_set flags i true) + 1 ≡ count_by not flags
count-set flags i room off =
    let one : cond {A = ℕ} (not (slice_index_or flags i false)) 1 0 ≡ 1 = ap (λ b. cond {A = ℕ} b 1 0) off in
    let moved : count_by not (slice_set flags i true) + cond {A = ℕ} (not (slice_index_or flags i false)) 1 0 ≡ count_by not flags + 0 = sum_by-set (λ b. cond {A = ℕ} (not b) 1 0) flags i true false room in
    omega arith

-- the processes before the i-th have been looked at
pub record Waking (d : Machine) (v : Valuation) (s : Started) (flags : List Bool) (more : Bool) (i : ℕ) : Type 0 where
  pub below : (k : ℕ) (p : Process) → k < i → slice_get d.combs k ≡ Some p → slice_index_or flags k false ≡ woken d v s p
  pub above : (k : ℕ) (p : Process) → i ≤ k → slice_get d.combs k ≡ Some p → slice_index_or flags k false ≡ s p
  pub rest : (more || list_any (λ p. not (s p) && differs p.waits_for v d.initial) (drop i d.combs)) ≡ adds d v s

waking_at_start : (d : Machine) (v : Valuation) (s : Started) (flags : List Bool) → Marks d.combs s flags → Waking d v s flags false 0
waking_at_start d v s flags m = record {
  below = λ k p h e. absurd (omega arith);
  above = λ k p h e. mapped_at s d.combs flags k p false m.all e;
  rest = refl;
}

-- an answer that the next process gives
module _ (d : Machine) (v : Valuation) (s : Started) (flags : List Bool) (more new : Bool) (i : ℕ) (p : Process)
    (e : slice_get d.combs i ≡ Some p) (told : new ≡ (not (slice_index_or flags i false) && differs p.waits_for v d.initial)) (waking : Waking d v s flags more i) where
  g : Process → Bool
  g p = not (s p) && differs p.waits_for v d.initial

  is_g : new ≡ g p
  unfolding g
  is_g = told ∙ ap (λ b. not b && differs p.waits_for v d.initial) (waking.above i p (omega arith) e)

  rest_is : (more || (new || list_any g (drop (i + 1) d.combs))) ≡ adds d v s
  unfolding g
  rest_is = ap (λ b. more || (b || list_any g (drop (i + 1) d.combs))) is_g ∙ ap (λ ps. more || list_any g ps) (sym (rest_at d.combs i p e)) ∙ waking.rest

  same_process : (q : Process) → slice_get d.combs i ≡ Some q → p ≡ q
  same_process q h = same_Some p q (sym e ∙ h)

  waking_added : new ≡ true → i < length flags → Waking d v s (slice_set flags i true) true (i + 1)
  unfolding g
  waking_added so room = record {
    below = λ k q h there. elim (cases_order k i) [
      | inl same ↦
          ap (λ j. slice_index_or (slice_set flags i true) j false) same ∙ get_or-set_same flags i true false room
          ∙ sym (or_right (s q) (differs q.waits_for v d.initial) (subst (λ (r : Process). differs r.waits_for v d.initial ≡ true) (same_process q (sym (ap (slice_get d.combs) same) ∙ there)) is_woken))
      | inr other ↦
          let apart : k ≢ i = elim other [ inl l ↦ (λ z. absurd (omega arith)) | inr l ↦ (λ z. absurd (omega arith)) ] in
          get_or-set_other flags i k true false apart ∙ waking.below k q (omega arith) there
    ];
    above = λ k q h there.
        let apart : k ≢ i = λ z. absurd (omega arith) in
        get_or-set_other flags i k true false apart ∙ waking.above k q (omega arith) there;
    rest = sym (or-true more) ∙ ap (λ b. more || (b || list_any g (drop (i + 1) d.combs))) (sym so) ∙ rest_is;
  }
    where
      is_woken : differs p.waits_for v d.initial ≡ true
      is_woken = (and_parts (not (s p)) (differs p.waits_for v d.initial) (sym is_g ∙ so)).1

  waking_kept : new ≡ false → Waking d v s flags more (i + 1)
  unfolding g
  waking_kept isnt = record {
    below = λ k q h there. elim (cases_order k i) [
      | inl same ↦ ap (λ j. slice_index_or flags j false) same ∙ subst (λ r. slice_index_or flags i false ≡ woken d v s r) (same_process q (sym (ap (slice_get d.combs) same) ∙ there)) unchanged
      | inr other ↦ waking.below k q (elim other [ inl l ↦ l | inr l ↦ absurd (omega arith) ]) there
    ];
    above = λ k q h there. waking.above k q (omega arith) there;
    rest = ap (λ b. more || (b || list_any g (drop (i + 1) d.combs))) (sym isnt) ∙ rest_is;
  }
    where
      unchanged : slice_index_or flags i false ≡ woken d v s p
      unchanged =
          waking.above i p (omega arith) e
          ∙ elim (cases_Bool (s p)) [
            | inl on ↦ on ∙ sym (or_left (s p) (differs p.waits_for v d.initial) on)
            | inr off ↦ off ∙ sym (or_from (s p) (differs p.waits_for v d.initial) off
                (elim (and_cases (not (s p)) (differs p.waits_for v d.initial) (sym is_g ∙ isnt)) [ inl z ↦ absurd (true≢false (sym (not_from_false (s p) off) ∙ z)) | inr z ↦ z ]))
          ]

-- all that is known at the i-th process
pub record Looking (d : Machine) (now : List (List Bit4)) (before flags : List Bool) (more : Bool) (i : ℕ) : Type 0 where
  pub marks : (s : Started) → Marks d.combs s before → Waking d (holding now) s flags more i
  pub fewer : count_by not flags ≤ count_by not before
  pub falls : more ≡ true → count_by not flags < count_by not before
  pub same : more ≡ false → flags ≡ before

pub looking_at_start : (d : Machine) (now : List (List Bit4)) (flags : List Bool) → Looking d now flags flags false 0
looking_at_start d now flags = record {
  marks = λ s m. waking_at_start d (holding now) s flags m;
  fewer = omega arith;
  falls = λ e. absurd (false≢true e);
  same = λ e. refl;
}

pub looking_added : (d : Machine) (now : List (List Bit4)) (before flags : List Bool) (more new b : Bool) (i : ℕ) → i < length d.combs → i < length flags → b ≡ slice_index_or flags i false
    → Adds d i b now new → new ≡ true → Looking d now before flags more i → Looking d now before (slice_set flags i true) true (i + 1)
looking_added d now before flags more new b i h room is_b adding so looking =
    let p = element d.combs i h in
    let told : new ≡ (not (slice_index_or flags i false) && differs p.0.waits_for (holding now) d.initial) = adding.told p.0 p.1 ∙ ap (λ c. not c && differs p.0.waits_for (holding now) d.initial) is_b in
    let off : not (slice_index_or flags i false) ≡ true = (and_parts (not (slice_index_or flags i false)) (differs p.0.waits_for (holding now) d.initial) (sym told ∙ so)).0 in
    let less : count_by not (slice_set flags i true) + 1 ≡ count_by not flags = count-set flags i room off in record {
      marks = λ s m. waking_added d (holding now) s flags more new i p.0 p.1 told (looking.marks s m) so room;
      fewer = omega (arith, looking.fewer);
      falls = λ e. omega (arith, looking.fewer);
      same = λ e. absurd (true≢false e);
    }

pub looking_kept : (d : Machine) (now : List (List Bit4)) (before flags : List Bool) (more new b : Bool) (i : ℕ) → i < length d.combs → b ≡ slice_index_or flags i false
    → Adds d i b now new → new ≡ false → Looking d now before flags more i → Looking d now before flags more (i + 1)
looking_kept d now before flags more new b i h is_b adding isnt looking =
    let p = element d.combs i h in
    let told : new ≡ (not (slice_index_or flags i false) && differs p.0.waits_for (holding now) d.initial) = adding.told p.0 p.1 ∙ ap (λ c. not c && differs p.0.waits_for (holding now) d.initial) is_b in record {
      marks = λ s m. waking_kept d (holding now) s flags more new i p.0 p.1 told (looking.marks s m) isnt;
      fewer = looking.fewer;
      falls = looking.falls;
      same = looking.same;
    }

pub looked : (d : Machine) (now : List (List Bit4)) (before flags : List Bool) (more : Bool) (i : ℕ) → i ≡ length d.combs → length flags ≡ length d.combs
    → Looking d now before flags more i → Woken d now before flags more
looked d now before flags more i end size looking = record {
  marks = λ s m. record { all = ext_get_or false flags (map (woken d (holding now) s) d.combs) (size ∙ sym (length-map d.combs (woken d (holding now) s))) (at s m) };
  added = λ s m. sym (or-false more) ∙ ap (λ ps. more || list_any (λ p. not (s p) && differs p.waits_for (holding now) d.initial) ps) (sym (drop_all i d.combs (omega arith))) ∙ (looking.marks s m).rest;
  kept = looking.same;
}
  where
    at : (s : Started) → Marks d.combs s before → (k : ℕ) → k < length flags → slice_index_or flags k false ≡ slice_index_or (map (woken d (holding now) s) d.combs) k false
    at s m k h =
        let p = element d.combs k (omega arith) in
        (looking.marks s m).below k p.0 (omega arith) p.1 ∙ sym (mapped_at (woken d (holding now) s) d.combs (map (woken d (holding now) s) d.combs) k p.0 false refl p.1)
