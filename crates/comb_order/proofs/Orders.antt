-- From the needs of the combinational processes to their order, or to those that are stuck.
use Rattle.std.proofs.Common.{◌≡◌, ◌⊎◌, inl, inr, ℕ, zero, suc, ◌+◌, ◌^◌, ◌<◌, ◌≤◌, true, List, [], ◌∷◌, ◌++◌, length, map, slice_index_or, Some, refl, sym, ap, ◌∙◌, subst, arith}
use Rattle.std.specs.Prelude.{slice_get}
use Rattle.std.proofs.lemmas.Bool.{ltb-true, and_parts, cases_order}
use Rattle.std.proofs.lemmas.List.{get_or_default}
use Rattle.row_machine.specs.Valuation.{Place, Member, has, OneWriter}
use Rattle.row_machine.specs.Machine as M
use Rattle.row_machine.specs.Order.{IsOrder, Ordered}
use Rattle.row_machine.specs.Stuck.{Stuck, Distinct, at_places, IsOrderOfPlaces}
use Rattle.row_machine.proofs.Basics.{member_at}
use Rattle.row_machine.proofs.Members.{append-member, member-front, member-back, member-place, member-map, map-member}
use Rattle.row_machine.proofs.Laws as Machine
use Rattle.sv_source.specs.declared.refusal.Refusal.{Refusal}
use Rattle.sv_types.specs.declared.design.Design.{Design}
use Rattle.sv_types.specs.declared.design.Process.{Process}
use Rattle.sv_types.specs.declared.design.Signal.{Signal}
use Rattle.sv_types.specs.Layouts.{width_of}
use Rattle.sv_types.specs.Statements.{doing}
use Rattle.sv_types.specs.Flows.{covered, uses_of}
use Rattle.sv_types.specs.Machine.{parts, places, machine, comb_of, writes_of}
use Rattle.peel.specs.Peeled.{IsPeeled}
use Rattle.peel.specs.Laws.{NeedsFollowed}
use Rattle.peel.proofs.Lists.{distinct_places}
use Rattle.peel.proofs.Laws as Peel
use Rattle.bit_needs.specs.declared.footprints.Footprint.{Footprint}
use Rattle.bit_needs.specs.Needs.{AreNeeds}
use Rattle.bit_needs.specs.Laws.{AreFootprints}
use Rattle.bit_needs.proofs.Laws as Needs
use Rattle.design_breaks.specs.Breaks.{is_less}
use Rattle.design_breaks.specs.Circles.{IsStuck, break_of}
use Rattle.design_breaks.specs.Memories.{flow}
use Rattle.flow_sets.specs.Bits.{number_of}
use Rattle.comb_order.specs.Combs.{numbers_from, number_at, made_of, comb_at, combs_at, IsComb, IsOrderOf}
use Rattle.comb_order.specs.Bits.{place_of, widths_of, KeepsLimits, AreFootprintsOf}
use Rattle.comb_order.specs.Stuck.{break_at, break_or_none, IsRefusalOf, IsFirstStuck}
use Rattle.comb_order.proofs.Positions.{place-number}
use Rattle.comb_order.proofs.Places.{has-there, has-filter}
use Rattle.comb_order.proofs.Standing.{no_process, MakesOne, MakesNone, makes, Stands, processes-stand, zip-long, zip-at, numbered, distinct-numbers, few-numbers}

-- distinct numbers at distinct places
distinct-at : (ns ks : List ℕ) → Distinct ns → ((k : ℕ) → Member ks k → k < length ns) → Distinct ks → Distinct (map (number_at ns) ks)
distinct-at ns [] one low apart = tt
distinct-at ns (k ∷ ks) one low apart = (
  λ m. let r = map-member (number_at ns) ks (number_at ns k) m in
      elim (cases_order k r.0) [
        | inl same ↦ apart.0 (subst (Member ks) (sym same) r.1)
        | inr less ↦ elim less [
          | inl h ↦ distinct_places ns k r.0 one h (low r.0 (inr r.1)) r.2
          | inr h ↦ distinct_places ns r.0 k one h (low k (inl refl)) (sym r.2)
        ]
      ],
  distinct-at ns ks one (λ j m. low j (inr m)) apart.1,
)

module _ (d : Design) where
  abbrev combs : List M.Process
  combs = (machine d).combs

  abbrev numbers : List ℕ
  numbers = numbers_from 0 d.processes

  abbrev comb : ℕ → M.Process
  comb k = slice_index_or combs k no_process

  as-long : length numbers ≡ length combs
  as-long = zip-long (Stands d) numbers combs (processes-stand d)

  stands-at : (k : ℕ) → k < length combs → Stands d (number_at numbers k) (comb k)
  stands-at k low = zip-at (Stands d) numbers combs k 0 no_process (processes-stand d) (let n = as-long in omega (arith, n, low))

  -- what a process with the number of a place makes
  made-at : (k : ℕ) → k < length combs → comb_at d (number_at numbers k) ≡ comb k ∷ []
  made-at k low =
      let s = stands-at k low in
      ap (made_of d) s.stands ∙ s.makes_it.is ∙ ap (λ (c : M.Process). c ∷ []) s.same

  -- a bit that a process writes has a number
  pub narrow-bit : (limits : KeepsLimits d) (q : Place) → has (places (parts d)) q ≡ true → q.bit < 2 ^ 32
  narrow-bit limits q h =
      let low = ltb-true q.bit (slice_index_or (widths_of d.signals) q.signal 0) (sym (has-there d q) ∙ h) in
      let most = by d.signals q.signal limits.narrow in
      omega (arith, low, most)
    where
      by : (ss : List Signal) (n : ℕ) → ((k : ℕ) (s : Signal) → slice_get ss k ≡ Some s → width_of s.of ≤ 4194304) → slice_index_or (widths_of ss) n 0 ≤ 4194304
      by [] n all = omega arith
      by (s ∷ ss) zero all = all 0 s refl
      by (s ∷ ss) (suc n) all = by ss n (λ k t h. all (suc k) t h)

  pub footprints-are : (rs : List Footprint) → KeepsLimits d → AreFootprintsOf d rs → AreFootprints place_of rs combs no_process
  footprints-are rs limits are = record {
    count = are.count ∙ as-long;
    each = λ k low.
        let s = stands-at k low in
        let f = are.each k s.process (let n = as-long in omega (arith, n, low)) s.stands in
        let reads = s.makes_it.reads in
        let writes = s.makes_it.writes in
        record {
          reads = λ n. f.reads n ∙ sym (ap (λ qs. has qs (place_of n)) (sym (ap (λ (c : M.Process). c.reads) s.same) ∙ reads));
          writes = λ n. f.writes n ∙ sym (ap (λ qs. has qs (place_of n)) (sym (ap (λ (c : M.Process). c.writes) s.same) ∙ writes));
          numbered = λ q h.
              let kept : has (writes_of (parts d) (doing s.process.body)) q ≡ true = sym (ap (λ qs. has qs q) (sym (ap (λ (c : M.Process). c.writes) s.same) ∙ writes)) ∙ h in
              let split = and_parts (has (places (parts d)) q) (covered (uses_of (flow d s.process).writes) q) (sym (has-filter (covered (uses_of (flow d s.process).writes)) (places (parts d)) q) ∙ kept) in
              (number_of q, place-number q (narrow-bit limits q split.0));
        };
  }

  pub few-footprints : (rs : List Footprint) → KeepsLimits d → AreFootprintsOf d rs → length rs ≤ 4294967296
  few-footprints rs limits are = let n = are.count in let m = few-numbers 0 d.processes in let l = limits.processes in omega (arith, n, m, l)

  -- each process that is there and combinational has a place
  pub record PlaceOf (n : ℕ) : Type 0 where
    pub at : ℕ
    pub within : at < length combs
    pub is : number_at numbers at ≡ n

  place-of : (n : ℕ) → IsComb d n → PlaceOf n
  place-of n c =
      let at : 0 + n ≡ n = omega arith in
      let r = member-place numbers n (subst (Member numbers) at (numbered 0 n d.processes c.process c.stands c.not_edged)) in
      record { at = r.0; within = (let l = as-long in let low = r.1 in omega (arith, l, low)); is = get_or_default numbers r.0 0 n r.1 ∙ r.2 }

  module _ (rs : List Footprint) (limits : KeepsLimits d) (are : AreFootprintsOf d rs) (needs : List (List ℕ)) (is_needs : AreNeeds rs needs) (order left : List ℕ) (peeled : IsPeeled needs order left) where
    tied : NeedsFollowed combs no_process needs
    tied = Needs.needs_are_followed place_of rs combs no_process needs (footprints-are rs limits are) is_needs

    as-many : length needs ≡ length combs
    as-many = tied.count

    within : (k : ℕ) → Member (order ++ left) k → k < length combs
    within k m = let l = peeled.within k m in let n = as-many in omega (arith, l, n)

    pub left-low : (i : ℕ) → i < length left → slice_index_or left i 0 < length numbers
    left-low i low = let l = within (slice_index_or left i 0) (member-back order left (slice_index_or left i 0) (member_at left i 0 low)) in let n = as-long in omega (arith, l, n)

    pub order-low : (i : ℕ) → i < length order → slice_index_or order i 0 < length numbers
    order-low i low = let l = within (slice_index_or order i 0) (member-front order left (slice_index_or order i 0) (member_at order i 0 low)) in let n = as-long in omega (arith, l, n)

    -- a process of the machine that is stuck is left
    stuck-left : (k : ℕ) → k < length combs → Stuck combs (comb k) → Member left k
    stuck-left k low stuck = elim (append-member order left k (peeled.every k (let n = as-many in omega (arith, low, n)))) [
      | inr m ↦ m
      | inl m ↦ absurd ((Machine.free_or_stuck combs (comb k) (member_at combs k no_process low)).1 (Peel.ordered_are_free combs no_process needs order left tied peeled k m) stuck)
    ]

    -- the place of a process that is stuck
    pub record LeftAt (q : Process) : Type 0 where
      pub number : ℕ
      pub listed : Member (map (number_at numbers) left) number
      pub stands : slice_get d.processes number ≡ Some q

    pub left-at : (q : Process) → IsStuck d q → LeftAt q
    left-at q s =
        let r = somewhere d.processes q s.stands in
        by r.0 r.1 (makes d (doing q.body) q.kind)
      where
        somewhere : {A : Type 0} (xs : List A) (x : A) → Member xs x → (n : ℕ) × (slice_get xs n ≡ Some x)
        somewhere [] x m = absurd m
        somewhere (y ∷ xs) x (inl e) = (0, ap (λ z. Some z) (sym e))
        somewhere (y ∷ xs) x (inr m) = let r = somewhere xs x m in (suc r.0, r.1)

        only : (c x : M.Process) (cs : List M.Process) → cs ≡ c ∷ [] → Member cs x → x ≡ c
        only c x cs is m = one (subst (λ zs. Member zs x) is m)
          where
            one : Member (c ∷ []) x → x ≡ c
            one (inl e) = e
            one (inr none) = absurd none

        by : (n : ℕ) → slice_get d.processes n ≡ Some q → MakesOne d (doing q.body) q.kind ⊎ MakesNone d (doing q.body) q.kind → LeftAt q
        by n stands (inr none) = absurd (subst (λ zs. Member zs s.process) none.is s.is_its)
        by n stands (inl one) =
            let place = place-of n (record { process = q; stands = stands; not_edged = one.not_edged }) in
            let made : comb place.at ∷ [] ≡ comb_of (parts d) (doing q.body) q.kind = sym (made-at place.at place.within) ∙ ap (comb_at d) place.is ∙ ap (made_of d) stands in
            let same : s.process ≡ comb place.at = only (comb place.at) s.process (comb_of (parts d) (doing q.body) q.kind) (sym made) s.is_its in
            let m = stuck-left place.at place.within (subst (Stuck combs) same s.stuck) in
            record { number = n; listed = subst (Member (map (number_at numbers) left)) place.is (member-map (number_at numbers) left place.at m); stands = stands }

    -- and what is left is stuck
    pub left-stuck : (n : ℕ) (p : Process) → Member (map (number_at numbers) left) n → slice_get d.processes n ≡ Some p → IsStuck d p
    left-stuck n p m stands =
        let r = map-member (number_at numbers) left n m in
        let low = within r.0 (member-back order left r.0 r.1) in
        let s = stands-at r.0 low in
        let made : comb_of (parts d) (doing p.body) p.kind ≡ comb r.0 ∷ [] = sym (ap (made_of d) (sym (ap (λ j. slice_get d.processes j) r.2) ∙ stands)) ∙ made-at r.0 low in
        record {
          stands = in-list d.processes n p stands;
          process = comb r.0;
          is_its = subst (λ cs. Member cs (comb r.0)) (sym made) (inl refl);
          stuck = Peel.rest_is_stuck combs no_process needs order left tied peeled r.0 r.1;
        }
      where
        in-list : {A : Type 0} (xs : List A) (n : ℕ) (x : A) → slice_get xs n ≡ Some x → Member xs x
        in-list [] n x h = absurd (cc)
        in-list (y ∷ xs) zero x h = let same : x ≡ y = cc in inl same
        in-list (y ∷ xs) (suc n) x h = inr (in-list xs n x h)

    -- so the first of them is refused
    pub first-stuck : (r : Refusal) → IsRefusalOf d.processes (map (number_at numbers) left) r → IsFirstStuck d r
    first-stuck r is = record {
      process = is.process;
      is_stuck = left-stuck is.number is.process is.is_first.there is.stands;
      first = λ q stuck.
          let l = left-at q stuck in
          sym (ap (λ o. is_less (break_or_none o) (break_of is.process)) l.stands) ∙ sym (ap (λ o. is_less (break_at d.processes l.number) (break_or_none o)) is.stands) ∙ is.is_first.first l.number l.listed;
      is = is.is;
    }

  -- where none is left
  module _ (rs : List Footprint) (limits : KeepsLimits d) (are : AreFootprintsOf d rs) (needs : List (List ℕ)) (is_needs : AreNeeds rs needs) (order : List ℕ) (peeled : IsPeeled needs order []) where
    pub places-order : IsOrderOfPlaces combs no_process order
    places-order = Peel.peeled_is_an_order combs no_process needs order (Needs.needs_are_followed place_of rs combs no_process needs (footprints-are rs limits are) is_needs) peeled

    pub combs-are : (ks : List ℕ) → ((k : ℕ) → Member ks k → k < length combs) → combs_at d (map (number_at numbers) ks) ≡ at_places combs no_process ks
    combs-are [] low = refl
    combs-are (k ∷ ks) low =
        ap (λ cs. cs ++ combs_at d (map (number_at numbers) ks)) (made-at k (low k (inl refl))) ∙ ap (λ cs. comb k ∷ cs) (combs-are ks (λ j m. low j (inr m)))

    pub is-order-of : IsOrderOf d (map (number_at numbers) order)
    is-order-of = record {
      combinational = λ n m.
          let r = map-member (number_at numbers) order n m in
          let s = stands-at r.0 (places-order.within r.0 r.1) in
          record { process = s.process; stands = ap (λ j. slice_get d.processes j) r.2 ∙ s.stands; not_edged = s.makes_it.not_edged };
      every = λ n c.
          let place = place-of n c in
          subst (Member (map (number_at numbers) order)) place.is (member-map (number_at numbers) order place.at (places-order.every place.at place.within));
      distinct = distinct-at numbers order (distinct-numbers 0 d.processes) (λ k m. let l = places-order.within k m in let n = as-long in omega (arith, l, n)) places-order.distinct;
      ordered = subst Ordered (sym (combs-are order places-order.within)) places-order.ordered;
    }

    pub is-an-order : OneWriter (λ (p : M.Process). p.writes) combs → IsOrder combs (combs_at d (map (number_at numbers) order))
    is-an-order one = subst (IsOrder combs) (sym (combs-are order places-order.within)) (Machine.places_are_an_order combs no_process order one places-order)

    pub none-stuck : (p : Process) → IsStuck d p → ⊥
    none-stuck p stuck = let l = left-at rs limits are needs is_needs order [] peeled p stuck in l.listed

-- what `peel` gives for the needs of the combinational processes
pub record Solved (d : Design) (rs : List Footprint) (order left : List ℕ) : Type 0 where
  pub limits : KeepsLimits d
  pub are : AreFootprintsOf d rs
  pub needs : List (List ℕ)
  pub is_needs : AreNeeds rs needs
  pub peeled : IsPeeled needs order left

pub solve : (d : Design) (rs : List Footprint) (needs slice : List (List ℕ)) (order left : List ℕ) → KeepsLimits d → AreFootprintsOf d rs → AreNeeds rs needs → slice ≡ needs → IsPeeled slice order left → Solved d rs order left
solve d rs needs slice order left limits are is_needs is peeled =
    record { limits = limits; are = are; needs = needs; is_needs = is_needs; peeled = subst (λ ns. IsPeeled ns order left) is peeled }

low-by : (xs ys ns ms : List ℕ) → xs ≡ ys → ns ≡ ms → ((i : ℕ) → i < length ys → slice_index_or ys i 0 < length ms) → (i : ℕ) → i < length xs → slice_index_or xs i 0 < length ns
low-by xs ys ns ms same its all = subst (λ zs. (i : ℕ) → i < length zs → slice_index_or zs i 0 < length ns) (sym same) (subst (λ ks. (i : ℕ) → i < length ys → slice_index_or ys i 0 < length ks) (sym its) all)

module _ (d : Design) (rs : List Footprint) (order left : List ℕ) (s : Solved d rs order left) where
  pub left-within : (xs ns : List ℕ) → xs ≡ left → ns ≡ numbers_from 0 d.processes → (i : ℕ) → i < length xs → slice_index_or xs i 0 < length ns
  left-within xs ns is its = low-by xs left ns (numbers_from 0 d.processes) is its (left-low d rs s.limits s.are s.needs s.is_needs order left s.peeled)

  pub order-within : (xs ns : List ℕ) → xs ≡ order → ns ≡ numbers_from 0 d.processes → (i : ℕ) → i < length xs → slice_index_or xs i 0 < length ns
  order-within xs ns is its = low-by xs order ns (numbers_from 0 d.processes) is its (order-low d rs s.limits s.are s.needs s.is_needs order left s.peeled)

  pub refuses-first : (ps : List Process) (ns xs : List ℕ) (r : Refusal) → ps ≡ d.processes → ns ≡ numbers_from 0 d.processes → xs ≡ left → IsRefusalOf ps (map (number_at ns) xs) r → IsFirstStuck d r
  refuses-first ps ns xs r same its is refusal =
      first-stuck d rs s.limits s.are s.needs s.is_needs order left s.peeled r
      (subst (λ qs. IsRefusalOf qs (map (number_at (numbers_from 0 d.processes)) left) r) same
      (subst (λ ks. IsRefusalOf ps (map (number_at ks) left) r) its (subst (λ zs. IsRefusalOf ps (map (number_at ns) zs) r) is refusal)))

  none : (xs : List ℕ) → length xs ≤ 0 → xs ≡ []
  none [] h = refl
  none (x ∷ xs) h = absurd (omega (arith, h))

  module _ (all : length left ≤ 0) where
    peeled-all : IsPeeled s.needs order []
    peeled-all = subst (IsPeeled s.needs order) (none left all) s.peeled

    order-is : (ns xs o : List ℕ) → ns ≡ numbers_from 0 d.processes → xs ≡ order → o ≡ map (number_at ns) xs → map (number_at (numbers_from 0 d.processes)) order ≡ o
    order-is ns xs o its is made = sym (made ∙ ap (λ ks. map (number_at ks) xs) its ∙ ap (λ zs. map (number_at (numbers_from 0 d.processes)) zs) is)

    pub gives-order : (ns xs o : List ℕ) → ns ≡ numbers_from 0 d.processes → xs ≡ order → o ≡ map (number_at ns) xs → IsOrderOf d o
    gives-order ns xs o its is made = subst (IsOrderOf d) (order-is ns xs o its is made) (is-order-of d rs s.limits s.are s.needs s.is_needs order peeled-all)

    pub gives-run : (ns xs o : List ℕ) → ns ≡ numbers_from 0 d.processes → xs ≡ order → o ≡ map (number_at ns) xs → OneWriter (λ (p : M.Process). p.writes) (machine d).combs → IsOrder (machine d).combs (combs_at d o)
    gives-run ns xs o its is made one = subst (λ ks. IsOrder (machine d).combs (combs_at d ks)) (order-is ns xs o its is made) (is-an-order d rs s.limits s.are s.needs s.is_needs order peeled-all one)

    pub frees-all : (p : Process) → IsStuck d p → ⊥
    frees-all p stuck = none-stuck d rs s.limits s.are s.needs s.is_needs order peeled-all p stuck
