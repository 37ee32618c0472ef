-- A plan, process by process.
use Rattle.std.proofs.Common.{◌≡◌, ◌≢◌, ℕ, zero, suc, ◌+◌, ◌<◌, ◌≤◌, ◌==◌, ◌||◌, true, false, List, [], ◌∷◌, ◌++◌, length, take, All, Some, slice_get, slice_index_or, slice_set, refl, sym, ap, ◌∙◌, subst, inl, inr, arith}
use Rattle.std.specs.List.{cons_option}
use Rattle.std.proofs.Math.Bool.{or-false}
use Rattle.std.proofs.lemmas.Bool.{cases_Bool, cases_order, cases_lt, eqb-true, eqb-false, eq-eqb, ne_eqb, false≢true, or_cases, or_left, or_right}
use Rattle.std.proofs.lemmas.Grind.{get_or-set_at}
use Rattle.std.proofs.lemmas.List.{get_or-set_other, get_or_past, get_or_default, take_all}
use Rattle.std.proofs.lemmas.List.Elements.{All-nil, All-push, All-head, All-tail, filter_map-append}
use Rattle.b4_core.specs.declared.bit.Bit4.{Bit4}
use Rattle.row_machine.specs.Valuation.{Place, Valuation, Changes, put, put_each, changed}
use Rattle.row_machine.specs.Machine.{Process, Machine, Started, told}
use Rattle.row_machine.proofs.Told.{only_if-none, only_if-same}
use Rattle.round_runner.specs.declared.plan.Plan.{Plan}
use Rattle.round_runner.specs.Parts.{ReadsAlone, WritesAlone}
use Rattle.round_runner.specs.Plans.{is_in, under, group_at, picked, Grouped, IsPlan, ArePlaces, Labelled, AllEmpty, Tells, Built, Listed}
use Rattle.round_runner.proofs.Picking.{is_in_more}
use Rattle.round_runner.proofs.Groups.{is_in_push}

-- what holds of all numbers holds of each
in_all : (P : ℕ → Type 0) (ns : List ℕ) (k : ℕ) → All P ns → is_in ns k ≡ true → P k
in_all P [] k all e = absurd (false≢true e)
in_all P (n ∷ ns) k all e =
    elim (or_cases (n == k) (is_in ns k) e) [ inl l ↦ subst P (eqb-true n k l) (All-head P n ns all) | inr r ↦ in_all P ns k (All-tail P n ns all) r ]

pub labelled : (d : Machine) (places signals : List ℕ) (i g : ℕ) → WritesAlone d.combs i signals → All (λ n. group_at places n ≡ g) signals → g < length places → Labelled d places i g
labelled d places signals i g writes all there = record {
  none = λ p at v q e.
      elim (cases_Bool (is_in signals q.signal)) [
        | inl among ↦ absurd (eqb-false (group_at places q.signal) g e (in_all (λ n. group_at places n ≡ g) signals q.signal all among))
        | inr other ↦ writes.none p at v q other
      ];
  there = there;
}

pub none_empty : (lists : List (List ℕ)) → lists ≡ [] → AllEmpty 0 lists
none_empty lists e = record { long = ap length e; none = λ k. ap (λ ls. under ls k) e }

-- one number more under another one
pub under_same : (lists after : List (List ℕ)) (k n j : ℕ) → k < length lists → after ≡ slice_set lists k (under lists k ++ n ∷ []) → j ≡ k → under after j ≡ under lists k ++ n ∷ []
under_same lists after k n j h e same = ap (λ ls. under ls j) e ∙ get_or-set_at lists k j (under lists k ++ n ∷ []) [] same h

pub under_other : (lists after : List (List ℕ)) (k n j : ℕ) → after ≡ slice_set lists k (under lists k ++ n ∷ []) → j ≢ k → under after j ≡ under lists j
under_other lists after k n j e apart = ap (λ ls. under ls j) e ∙ get_or-set_other lists k j (under lists k ++ n ∷ []) [] apart

pub tells_none : (ns : List ℕ) (g : ℕ) (lists : List (List ℕ)) → Tells (take 0 ns) g lists lists
tells_none ns g lists = record { told = λ n e. absurd (false≢true e); kept = λ n h e. e; there = λ size l all. all }

pub tells_more : (ns : List ℕ) (g : ℕ) (before mid after : List (List ℕ)) (i n : ℕ) → i < length ns → n ≡ slice_index_or ns i 0 → n < length mid
    → after ≡ slice_set mid n (under mid n ++ g ∷ []) → Tells (take i ns) g before mid → Tells (take (i + 1) ns) g before after
tells_more ns g before mid after i n h is_n there e tells = record {
  told = λ k f.
      elim (cases_Bool (n == k)) [
        | inl same ↦ ap (λ ms. is_in ms g) (here k (eqb-true n k same)) ∙ is_in_push (under mid n) g g ∙ or_right (is_in (under mid n) g) (g == g) (eq-eqb g g refl)
        | inr other ↦
            grows k g (tells.told k (sym (or-false (is_in (take i ns) k)) ∙ ap (λ b. is_in (take i ns) k || b) (sym other) ∙ sym (is_in_more ns i k n h is_n) ∙ f))
      ];
  kept = λ k m f. grows k m (tells.kept k m f);
  there = λ size l all k.
      elim (cases_Bool (n == k)) [
        | inl same ↦ subst (All (λ m. m < size)) (sym (here k (eqb-true n k same))) (All-push (λ m. m < size) (under mid n) g (tells.there size l all n) l)
        | inr other ↦ subst (All (λ m. m < size)) (sym (elsewhere k other)) (tells.there size l all k)
      ];
}
  where
    here : (k : ℕ) → n ≡ k → under after k ≡ under mid n ++ g ∷ []
    here k same = under_same mid after n g k there e (sym same)

    elsewhere : (k : ℕ) → (n == k) ≡ false → under after k ≡ under mid k
    elsewhere k other = under_other mid after n g k e (λ z. eqb-false n k other (sym z))

    grows : (k m : ℕ) → is_in (under mid k) m ≡ true → is_in (under after k) m ≡ true
    grows k m f =
        elim (cases_Bool (n == k)) [
          | inl same ↦
              ap (λ ms. is_in ms m) (here k (eqb-true n k same)) ∙ is_in_push (under mid n) g m
              ∙ or_left (is_in (under mid n) m) (g == m) (ap (λ j. is_in (under mid j) m) (eqb-true n k same) ∙ f)
          | inr other ↦ ap (λ ms. is_in ms m) (elsewhere k other) ∙ f
        ]

-- one more is put
put_last : {A : Type 0} (c : A → Changes) (xs : List A) (x : A) (v : Valuation) → put_each c (xs ++ x ∷ []) v ≡ put (c x) (put_each c xs v)
put_last c [] x v = refl
put_last c (y ∷ xs) x v = put_last c xs x (put (c y) v)

taken_one : {A : Type 0} (xs : List A) (k : ℕ) (x : A) → slice_get xs k ≡ Some x → take (k + 1) xs ≡ take k xs ++ x ∷ []
taken_one [] k x e = cc
taken_one (y ∷ xs) zero x e = let same : y ≡ x = cc in ap (λ z. z ∷ []) same
taken_one (y ∷ xs) (suc k) x e =
    (let n : suc k + 1 ≡ suc (k + 1) = omega arith in ap (λ j. take j (y ∷ xs)) n) ∙ ap (λ ys. y ∷ ys) (taken_one xs k x e)

picked_one : (ps : List Process) (is : List ℕ) (k : ℕ) (p : Process) → slice_get ps k ≡ Some p → picked ps (is ++ k ∷ []) ≡ picked ps is ++ p ∷ []
picked_one ps is k p e = filter_map-append (slice_get ps) is (k ∷ []) ∙ ap (λ o. picked ps is ++ cons_option o []) e

pub built_at_start : (d : Machine) (places : List ℕ) (processes readers : List (List ℕ)) → AllEmpty (length places) processes → AllEmpty (length places) readers → Built d places processes readers 0
built_at_start d places processes readers none_of none_reads = record {
  whole = λ g s v base q e. ap (λ is. put_each (told s v) (picked d.combs is) base q) (none_of.none g);
  own = λ g s v base q e. ap (λ is. put_each (told s v) (picked d.combs is) base q) (none_of.none g);
  told_of = λ g s v u base alike q e. refl;
  outside = λ s v base q e. refl;
  processes_there = λ g. subst (All (λ i. i < length d.combs)) (sym (none_of.none g)) (All-nil (λ i. i < length d.combs));
  readers_there = λ n. subst (All (λ g. g < length places)) (sym (none_reads.none n)) (All-nil (λ g. g < length places));
}

module _ (d : Machine) (places : List ℕ) (processes readers after told_lists : List (List ℕ)) (k h : ℕ) (p : Process) (signals : List ℕ)
    (at : slice_get d.combs k ≡ Some p) (size : length processes ≡ length places) (room : k < length d.combs) (label : Labelled d places k h) (reads : ReadsAlone d.combs k signals)
    (tells : Tells signals h readers told_lists) (e : after ≡ slice_set processes h (under processes h ++ k ∷ [])) (built : Built d places processes readers k) where
  group : Place → ℕ
  group q = group_at places q.signal

  here : (g : ℕ) → (g == h) ≡ true → under after g ≡ under processes g ++ k ∷ []
  here g same =
      under_same processes after h k g (omega (arith, label.there, size)) e (eqb-true g h same) ∙ ap (λ j. under processes j ++ k ∷ []) (sym (eqb-true g h same))

  elsewhere : (g : ℕ) → (g == h) ≡ false → under after g ≡ under processes g
  elsewhere g other = under_other processes after h k g e (eqb-false g h other)

  all_more : (s : Started) (v base : Valuation) (q : Place) → put_each (told s v) (take (k + 1) d.combs) base q ≡ changed (told s v p q) (put_each (told s v) (take k d.combs) base q)
  all_more s v base q = ap (λ ps. put_each (told s v) ps base q) (taken_one d.combs k p at) ∙ ap (λ (w : Valuation). w q) (put_last (told s v) (take k d.combs) p base)

  picked_more : (g : ℕ) → (g == h) ≡ true → (s : Started) (v base : Valuation) (q : Place)
      → put_each (told s v) (picked d.combs (under after g)) base q ≡ changed (told s v p q) (put_each (told s v) (picked d.combs (under processes g)) base q)
  picked_more g same s v base q =
      ap (λ is. put_each (told s v) (picked d.combs is) base q) (here g same)
      ∙ ap (λ ps. put_each (told s v) ps base q) (picked_one d.combs (under processes g) k p at)
      ∙ ap (λ (w : Valuation). w q) (put_last (told s v) (picked d.combs (under processes g)) p base)

  picked_kept : (g : ℕ) → (g == h) ≡ false → (s : Started) (v base : Valuation) (q : Place)
      → put_each (told s v) (picked d.combs (under after g)) base q ≡ put_each (told s v) (picked d.combs (under processes g)) base q
  picked_kept g other s v base q = ap (λ is. put_each (told s v) (picked d.combs is) base q) (elsewhere g other)

  -- it assigns nothing outside its group
  silent : (s : Started) (v : Valuation) (q : Place) (b : Bit4) → (group_at places q.signal == h) ≡ false → changed (told s v p q) b ≡ b
  silent s v q b other = ap (λ o. changed o b) (only_if-none (s p) (p.assigns v) q (label.none p at v q other))

  other_group : (g j : ℕ) → (j == g) ≡ true → (g == h) ≡ false → (j == h) ≡ false
  other_group g j same other = ap (λ m. m == h) (eqb-true j g same) ∙ other

  alike_told : (s : Started) (v u : Valuation) → ((r : Place) → is_in (under told_lists r.signal) h ≡ true → v r ≡ u r) → (q : Place) → told s v p q ≡ told s u p q
  alike_told s v u alike q = only_if-same (s p) (p.assigns v) (p.assigns u) q q (reads.alone p at v u (λ r among. alike r (tells.told r.signal among)) q)

  pub built_more : Built d places after told_lists (k + 1)
  built_more = record {
    whole = λ g s v base q same. elim (cases_Bool (g == h)) [
      | inl is_h ↦ picked_more g is_h s v base q ∙ ap (changed (told s v p q)) (built.whole g s v base q same) ∙ sym (all_more s v base q)
      | inr other ↦
          picked_kept g other s v base q ∙ built.whole g s v base q same
          ∙ sym (silent s v q (put_each (told s v) (take k d.combs) base q) (other_group g (group_at places q.signal) same other)) ∙ sym (all_more s v base q)
    ];
    own = λ g s v base q apart. elim (cases_Bool (g == h)) [
      | inl is_h ↦
          picked_more g is_h s v base q
          ∙ silent s v q (put_each (told s v) (picked d.combs (under processes g)) base q) (ap (λ m. group_at places q.signal == m) (sym (eqb-true g h is_h)) ∙ apart)
          ∙ built.own g s v base q apart
      | inr other ↦ picked_kept g other s v base q ∙ built.own g s v base q apart
    ];
    told_of = λ g s v u base alike q same.
        let before = built.told_of g s v u base (λ r f. alike r (tells.kept r.signal g f)) q same in
        all_more s v base q
        ∙ elim (cases_Bool (g == h)) [
          | inl is_h ↦
              ap (changed (told s v p q)) before
              ∙ ap (λ o. changed o (put_each (told s u) (take k d.combs) base q)) (alike_told s v u (λ r f. alike r (ap (is_in (under told_lists r.signal)) (eqb-true g h is_h) ∙ f)) q)
          | inr other ↦
              let apart = other_group g (group_at places q.signal) same other in
              silent s v q (put_each (told s v) (take k d.combs) base q) apart ∙ before ∙ sym (silent s u q (put_each (told s u) (take k d.combs) base q) apart)
        ]
        ∙ sym (all_more s u base q);
    outside = λ s v base q past.
        let apart : (group_at places q.signal == h) ≡ false =
        ne_eqb (group_at places q.signal) h (λ z. let l = label.there in let m = eqb-true (group_at places q.signal) (length places) past in absurd (omega (arith, l, m, z))) in
        all_more s v base q ∙ silent s v q (put_each (told s v) (take k d.combs) base q) apart ∙ built.outside s v base q past;
    processes_there = λ g. elim (cases_Bool (g == h)) [
      | inl is_h ↦ subst (All (λ i. i < length d.combs)) (sym (here g is_h)) (All-push (λ i. i < length d.combs) (under processes g) k (built.processes_there g) room)
      | inr other ↦ subst (All (λ i. i < length d.combs)) (sym (elsewhere g other)) (built.processes_there g)
    ];
    readers_there = tells.there (length places) label.there built.readers_there;
  }

pub listed_at_start : (places : List ℕ) (lists : List (List ℕ)) → AllEmpty (length places) lists → Listed places lists 0
listed_at_start places lists none = record {
  below = λ g n h l. absurd (omega arith);
  above = λ g n h. ap (λ ns. is_in ns n) (none.none g);
  there = λ g. subst (All (λ n. n < length places)) (sym (none.none g)) (All-nil (λ n. n < length places));
}

pub listed_more : (places : List ℕ) (lists after : List (List ℕ)) (k h : ℕ) → length lists ≡ length places → k < length places → h ≡ slice_index_or places k 0 → h < length places
    → after ≡ slice_set lists h (under lists h ++ k ∷ []) → Listed places lists k → Listed places after (k + 1)
listed_more places lists after k h size room is_h there e listed = record {
  below = λ g n l g_there. elim (cases_order n k) [
    | inl same ↦
        elim (cases_Bool (g == h)) [
          | inl is_g ↦
              added g n (eqb-true g h is_g) ∙ or_right (is_in (under lists h) n) (k == n) (eq-eqb k n (sym same))
              ∙ sym (eq-eqb (group_at places n) g (ap (group_at places) same ∙ group_k ∙ sym (eqb-true g h is_g)))
          | inr other ↦
              kept g n (eqb-false g h other) ∙ listed.above g n (omega (arith, same))
              ∙ sym (ne_eqb (group_at places n) g (λ z. eqb-false g h other (sym z ∙ ap (group_at places) same ∙ group_k)))
        ]
    | inr off ↦
        let apart : (k == n) ≡ false = ne_eqb k n (λ z. elim off [ inl a ↦ absurd (omega (arith, a, z)) | inr a ↦ absurd (omega (arith, a, z)) ]) in
        let less : n < k = elim off [ inl a ↦ a | inr a ↦ absurd (omega (arith, a, l)) ] in
        unmoved g n apart ∙ listed.below g n less g_there
  ];
  above = λ g n l.
      let apart : (k == n) ≡ false = ne_eqb k n (λ z. absurd (omega (arith, l, z))) in
      unmoved g n apart ∙ listed.above g n (omega (arith, l));
  there = λ g. elim (cases_Bool (g == h)) [
    | inl is_g ↦
        subst (All (λ n. n < length places)) (sym (under_same lists after h k g (omega (arith, there, size)) e (eqb-true g h is_g)))
        (All-push (λ n. n < length places) (under lists h) k (listed.there h) room)
    | inr other ↦ subst (All (λ n. n < length places)) (sym (under_other lists after h k g e (eqb-false g h other))) (listed.there g)
  ];
}
  where
    group_k : group_at places k ≡ h
    group_k = get_or_default places k (length places) 0 room ∙ sym is_h

    added : (g n : ℕ) → g ≡ h → is_in (under after g) n ≡ (is_in (under lists h) n || (k == n))
    added g n same = ap (λ ns. is_in ns n) (under_same lists after h k g (omega (arith, there, size)) e same) ∙ is_in_push (under lists h) k n

    kept : (g n : ℕ) → g ≢ h → is_in (under after g) n ≡ is_in (under lists g) n
    kept g n apart = ap (λ ns. is_in ns n) (under_other lists after h k g e apart)

    unmoved : (g n : ℕ) → (k == n) ≡ false → is_in (under after g) n ≡ is_in (under lists g) n
    unmoved g n apart =
        elim (cases_Bool (g == h)) [
          | inl is_g ↦
              added g n (eqb-true g h is_g) ∙ ap (λ b. is_in (under lists h) n || b) apart ∙ or-false (is_in (under lists h) n)
              ∙ ap (λ j. is_in (under lists j) n) (sym (eqb-true g h is_g))
          | inr other ↦ kept g n (eqb-false g h other)
        ]

pub grouped : (plan : Plan) → All (λ g. g < length plan.places) plan.places → Listed plan.places plan.signals (length plan.places) → Grouped plan
grouped plan there listed = record {
  signals = λ g n l. elim (cases_lt n (length plan.places)) [
    | inl less ↦ listed.below g n less l
    | inr past ↦
        listed.above g n past
        ∙ sym (ne_eqb (group_at plan.places n) g (λ z. let q = get_or_past plan.places n (length plan.places) past in absurd (omega (arith, l, q, z))))
  ];
  signals_there = listed.there;
  places_there = there;
}

pub plan_is : (d : Machine) (plan : Plan) (size k : ℕ) → ArePlaces size plan.places → Listed plan.places plan.signals (length plan.places) → length d.combs ≤ k
    → Built d plan.places plan.processes plan.readers k → IsPlan d plan × (length plan.places ≡ size)
plan_is d plan size k places listed all built =
    let every : take k d.combs ≡ d.combs = take_all k d.combs all in (
      record {
        grouped = grouped plan (subst (λ n. All (λ g. g < n) plan.places) (sym places.long) places.there) listed;
        processes_there = built.processes_there;
        readers = record { there = built.readers_there };
        whole = λ g s v base q e. built.whole g s v base q e ∙ ap (λ ps. put_each (told s v) ps base q) every;
        own = built.own;
        told_of = λ g s v u base alike q e.
            ap (λ ps. put_each (told s v) ps base q) (sym every) ∙ built.told_of g s v u base alike q e ∙ ap (λ ps. put_each (told s u) ps base q) every;
        outside = λ s v base q e. ap (λ ps. put_each (told s v) ps base q) (sym every) ∙ built.outside s v base q e;
      },
      places.long,
    )
