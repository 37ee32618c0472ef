-- Groups that are made anew, and what changes in them.
use Rattle.std.proofs.Common.{◌≡◌, ℕ, ◌+◌, ◌<◌, ◌≤◌, ◌==◌, ◌||◌, Bool, true, false, List, [], ◌∷◌, ◌++◌, length, take, All, slice_index_or, refl, sym, ap, ◌∙◌, subst, inl, inr}
use Rattle.std.proofs.Math.Bool.{or-false}
use Rattle.std.proofs.lemmas.Bool.{cases_Bool, eqb-true, eqb-false, eq-eqb, ne_eqb, false≢true, or_parts, or_cases}
use Rattle.std.proofs.lemmas.List.{take_all}
use Rattle.std.proofs.lemmas.List.Folds.{list_any-append}
use Rattle.std.proofs.lemmas.List.Elements.{All-push, All-nil}
use Rattle.b4_core.specs.declared.bit.Bit4.{Bit4}
use Rattle.b4_core.specs.declared.bit.Bit4.TheVariants.{X}
use Rattle.row_machine.specs.Valuation.{Place, Valuation, Changes, put, put_each, changed}
use Rattle.row_machine.specs.Machine.{Machine, told}
use Rattle.round_runner.specs.declared.plan.Plan.{Plan}
use Rattle.round_runner.specs.Stores.{holding, vector_of}
use Rattle.round_runner.specs.Plans.{is_in, under, group_of, picked, Grouped, IsPlan, Taken, Picked, Remade, DiffersAt, AddsChanges, AreChanges}
use Rattle.round_runner.proofs.Picking.{is_in_more}

abbrev Store : Type 0
Store = List (List Bit4)

-- what is put at a place hangs on what stood there
pub put_alike : {A : Type 0} (c : A → Changes) (xs : List A) (v u : Valuation) (q : Place) → v q ≡ u q → put_each c xs v q ≡ put_each c xs u q
put_alike c [] v u q e = e
put_alike c (x ∷ xs) v u q e = put_alike c xs (put (c x) v) (put (c x) u) q (ap (changed (c x q)) e)

alone : (g k : ℕ) → is_in (g ∷ []) k ≡ (g == k)
alone g k = or-false (g == k)

turned : (a b : ℕ) (t : Bool) → (a == b) ≡ t → (b == a) ≡ t
turned a b true e = eq-eqb b a (sym (eqb-true a b e))
turned a b false e = ne_eqb b a (λ same. eqb-false a b e (sym same))

pub remade_one : (d : Machine) (plan : Plan) (flags : List Bool) (base held old mid new : Store) (g : ℕ) → IsPlan d plan → g < length plan.places
    → Taken (under plan.signals g) base old mid → Picked d flags (under plan.processes g) held mid new → Remade d plan flags base held (g ∷ []) old new
remade_one d plan flags base held old mid new g is_plan there taken put_over = record {
  anew = λ s m q e.
      let here = turned g (group_of plan q.signal) true (sym (alone g (group_of plan q.signal)) ∙ e) in
      let from_base = taken.taken q.signal (is_plan.grouped.signals g q.signal there ∙ here) in
      ap (λ (v : Valuation). v q) (put_over.values s m)
      ∙ put_alike (told s (holding held)) (picked d.combs (under plan.processes g)) (holding mid) (holding base) q (ap (λ (v : List Bit4). slice_index_or v q.bit X) from_base)
      ∙ is_plan.whole g s (holding held) (holding base) q here;
  kept = λ s m q e.
      let there_not = turned g (group_of plan q.signal) false (sym (alone g (group_of plan q.signal)) ∙ e) in
      let from_old = taken.kept q.signal (is_plan.grouped.signals g q.signal there ∙ there_not) in
      ap (λ (v : Valuation). v q) (put_over.values s m)
      ∙ is_plan.own g s (holding held) (holding mid) q there_not
      ∙ ap (λ (v : List Bit4). slice_index_or v q.bit X) from_old;
  shape = put_over.shape ∙ taken.shape;
}

pub remade_more : (d : Machine) (plan : Plan) (flags : List Bool) (base held old mid new : Store) (gs : List ℕ) (i g : ℕ) → i < length gs → g ≡ slice_index_or gs i 0
    → Remade d plan flags base held (take i gs) old mid → Remade d plan flags base held (g ∷ []) mid new → Remade d plan flags base held (take (i + 1) gs) old new
remade_more d plan flags base held old mid new gs i g h is_g before last = record {
  anew = λ s m q e.
      let k = group_of plan q.signal in
      elim (cases_Bool (g == k)) [
        | inl same ↦ last.anew s m q (alone g k ∙ same)
        | inr other ↦
            last.kept s m q (alone g k ∙ other)
            ∙ before.anew s m q (sym (or-false (is_in (take i gs) k)) ∙ ap (λ b. is_in (take i gs) k || b) (sym other) ∙ sym (is_in_more gs i k g h is_g) ∙ e)
      ];
  kept = λ s m q e.
      let k = group_of plan q.signal in
      let parts = or_parts (is_in (take i gs) k) (g == k) (sym (is_in_more gs i k g h is_g) ∙ e) in
      last.kept s m q (alone g k ∙ parts.1) ∙ before.kept s m q parts.0;
  shape = last.shape ∙ before.shape;
}

pub remade_none : (d : Machine) (plan : Plan) (flags : List Bool) (base held store : Store) (gs : List ℕ) → Remade d plan flags base held (take 0 gs) store store
remade_none d plan flags base held store gs = record { anew = λ s m q e. absurd (false≢true e); kept = λ s m q e. refl; shape = refl }

-- those of the first i signals that differ are added
pub record Adding (signals : List ℕ) (old new : Store) (before now : List ℕ) (i : ℕ) : Type 0 where
  pub others : (k : ℕ) → is_in (take i signals) k ≡ true → is_in now k ≡ false → vector_of new k ≡ vector_of old k
  pub kept : (k : ℕ) → is_in now k ≡ false → is_in before k ≡ false
  pub there : (size : ℕ) → All (λ n. n < size) signals → All (λ n. n < size) before → All (λ n. n < size) now
  pub differ : ((n : ℕ) → is_in before n ≡ true → DiffersAt old new n) → (n : ℕ) → is_in now n ≡ true → DiffersAt old new n

pub adding_at_start : (signals : List ℕ) (old new : Store) (before : List ℕ) → Adding signals old new before before 0
adding_at_start signals old new before = record { others = λ k e f. absurd (false≢true e); kept = λ k e. e; there = λ size s b. b; differ = λ b. b }

pub is_in_push : (ns : List ℕ) (n k : ℕ) → is_in (ns ++ n ∷ []) k ≡ (is_in ns k || (n == k))
is_in_push ns n k = list_any-append (λ m. m == k) ns (n ∷ []) ∙ ap (λ b. is_in ns k || b) (or-false (n == k))

pub adding_pushed : (signals : List ℕ) (old new : Store) (before now next : List ℕ) (i n : ℕ) → i < length signals → n ≡ slice_index_or signals i 0 → next ≡ now ++ n ∷ [] → DiffersAt old new n
    → Adding signals old new before now i → Adding signals old new before next (i + 1)
adding_pushed signals old new before now next i n h is_n pushed apart adding = record {
  others = λ k e f.
      let parts = not_pushed k f in
      adding.others k (sym (or-false (is_in (take i signals) k)) ∙ ap (λ b. is_in (take i signals) k || b) (sym parts.1) ∙ sym (is_in_more signals i k n h is_n) ∙ e) parts.0;
  kept = λ k f. adding.kept k (not_pushed k f).0;
  there = λ size s b.
      subst (All (λ m. m < size)) (sym pushed) (All-push (λ m. m < size) now n (adding.there size s b) (subst (λ m. m < size) (sym is_n) (s i 0 h)));
  differ = λ b k e.
      elim (or_cases (is_in now k) (n == k) (sym (is_in_push now n k) ∙ ap (λ ns. is_in ns k) (sym pushed) ∙ e)) [
        | inl l ↦ adding.differ b k l
        | inr r ↦ subst (DiffersAt old new) (eqb-true n k r) apart
      ];
}
  where
    not_pushed : (k : ℕ) → is_in next k ≡ false → (is_in now k ≡ false) × ((n == k) ≡ false)
    not_pushed k f = or_parts (is_in now k) (n == k) (sym (is_in_push now n k) ∙ ap (λ ns. is_in ns k) (sym pushed) ∙ f)

pub adding_passed : (signals : List ℕ) (old new : Store) (before now : List ℕ) (i n : ℕ) → i < length signals → n ≡ slice_index_or signals i 0 → vector_of new n ≡ vector_of old n
    → Adding signals old new before now i → Adding signals old new before now (i + 1)
adding_passed signals old new before now i n h is_n same_vector adding = record {
  others = λ k e f. elim (cases_Bool (n == k)) [
    | inl same ↦ subst (λ m. vector_of new m ≡ vector_of old m) (eqb-true n k same) same_vector
    | inr other ↦ adding.others k (sym (or-false (is_in (take i signals) k)) ∙ ap (λ b. is_in (take i signals) k || b) (sym other) ∙ sym (is_in_more signals i k n h is_n) ∙ e) f
  ];
  kept = adding.kept;
  there = adding.there;
  differ = adding.differ;
}

pub all_added : (signals : List ℕ) (old new : Store) (before now : List ℕ) (i : ℕ) → length signals ≤ i → Adding signals old new before now i → AddsChanges signals old new before now
all_added signals old new before now i h adding = record {
  others = λ k e f. adding.others k (ap (λ ns. is_in ns k) (take_all i signals h) ∙ e) f;
  kept = adding.kept;
  there = adding.there;
  differ = adding.differ;
}

pub changes_none : (plan : Plan) (gs : List ℕ) (old new : Store) (ns : List ℕ) → ns ≡ [] → AreChanges plan (take 0 gs) old new ns
changes_none plan gs old new ns none = record { others = λ k e f. absurd (false≢true e); there = subst (All (λ n. n < length plan.places)) (sym none) (All-nil (λ n. n < length plan.places)); differ = λ n e. absurd (false≢true (sym (ap (λ ms. is_in ms n) none) ∙ e)) }

pub changes_more : (plan : Plan) (gs : List ℕ) (old new : Store) (before after : List ℕ) (i g : ℕ) → Grouped plan → i < length gs → g ≡ slice_index_or gs i 0 → g < length plan.places
    → AddsChanges (under plan.signals g) old new before after → AreChanges plan (take i gs) old new before → AreChanges plan (take (i + 1) gs) old new after
changes_more plan gs old new before after i g grouped h is_g room adds changes = record {
  others = λ k e f.
      elim (cases_Bool (g == group_of plan k)) [
        | inl same ↦ adds.others k (grouped.signals g k room ∙ turned g (group_of plan k) true same) f
        | inr other ↦
            changes.others k
            (sym (or-false (is_in (take i gs) (group_of plan k))) ∙ ap (λ b. is_in (take i gs) (group_of plan k) || b) (sym other) ∙ sym (is_in_more gs i (group_of plan k) g h is_g) ∙ e)
            (adds.kept k f)
      ];
  there = adds.there (length plan.places) (grouped.signals_there g) changes.there;
  differ = adds.differ changes.differ;
}
