-- A process is free or stuck, and not both.
use Rattle.std.proofs.Common.{◌≡◌, ℕ, zero, suc, ◌<◌, ◌≤◌, ◌⊎◌, Bool, true, false, not, ◌&&◌, ◌||◌, ◌==◌, List, [], ◌∷◌, filter, length, slice_index_or, refl, sym, ◌∙◌, subst, inl, inr, arith}
use Rattle.std.proofs.lemmas.Bool.{and_parts, and_from, or_cases, or_left, or_right, or_from, not-true, not_from_false, eqb-true, eqb-false, eq-eqb}
use Rattle.std.specs.List.{list_any}
use Rattle.row_machine.specs.Valuation.{Member}
use Rattle.row_machine.specs.Machine.{Process}
use Rattle.row_machine.specs.Order.{Free, free, follows}
use Rattle.row_machine.specs.Stuck.{FollowsOn, at_once, further, Stuck}
use Rattle.row_machine.proofs.Basics.{true_or_false, clash, member-any, any-member, member_at}
use Rattle.row_machine.proofs.Members.{member-place, member-filter, filter-member}
use Rattle.row_machine.proofs.Open.{open_weight, open_weight-falls}

-- one step more
longer : (ps : List Process) {p q r : Process} → FollowsOn ps p q → Member ps r → follows q r ≡ true → FollowsOn ps p r
longer ps (at_once mq f) mr g = further mq f (at_once mr g)
longer ps (further mq f rest) mr g = further mq f (longer ps rest mr g)

on_no_circle : (ps : List Process) (p : Process) → Free ps p → FollowsOn ps p p → ⊥
on_no_circle ps p (free h) (at_once {q = q} m f) = on_no_circle ps p (h p m f) (at_once m f)
on_no_circle ps p (free h) (further {q = q} m f rest) = on_no_circle ps q (h q m f) (longer ps rest m f)

free_onwards : (ps : List Process) {p q : Process} → Free ps p → FollowsOn ps p q → Free ps q
free_onwards ps (free h) (at_once {q = q} m f) = h q m f
free_onwards ps (free h) (further {q = q} m f rest) = free_onwards ps (h q m f) rest

pub free_not_stuck : (ps : List Process) (p : Process) → Free ps p → Stuck ps p → ⊥
free_not_stuck ps p f stuck =
    elim stuck.leads_there [
      | inl e ↦ on_no_circle ps stuck.circle (subst (Free ps) e f) stuck.is_circle
      | inr on ↦ on_no_circle ps stuck.circle (free_onwards ps f on) stuck.is_circle
    ]

abbrev upto : ℕ → List ℕ
upto zero = []
upto (suc n) = n ∷ upto n

member-upto : (n k : ℕ) → k < n → Member (upto n) k
member-upto zero k h = absurd (omega arith)
member-upto (suc n) k h =
    elim (true_or_false (k == n)) [ inl t ↦ inl (eqb-true k n t) | inr f ↦ inr (member-upto n k (omega (arith, eqb-false k n f))) ]

pub same_element : {A : Type 0} (xs : List A) (k : ℕ) (a b : A) → k < length xs → slice_index_or xs k a ≡ slice_index_or xs k b
same_element [] k a b h = absurd (omega arith)
same_element (x ∷ xs) zero a b h = refl
same_element (x ∷ xs) (suc k) a b h = same_element xs k a b (omega arith)

-- a walk among processes that each follow one of them
module _ (ps left : List Process) (within : (p : Process) → Member left p → Member ps p)
    (next : (p : Process) → Member left p → (q : Process) × Member left q × (follows p q ≡ true)) (start : Process) where
  at : ℕ → Process
  at k = slice_index_or left k start

  abbrev Step : ℕ → Type 0
  Step k = (j : ℕ) × (j < length left) × (follows (at k) (at j) ≡ true)

  next_place : (k : ℕ) → k < length left → Step k
  unfolding at
  next_place k h =
      let r = next (slice_index_or left k start) (member_at left k start h) in
      let j = member-place left r.0 r.1 in
      (j.0, j.1, (λ i. follows (slice_index_or left k start) ((same_element left j.0 start r.0 j.1 ∙ j.2) i)) ∙ r.2)

  in_all : (k : ℕ) → k < length left → Member ps (at k)
  unfolding at
  in_all k h = within (slice_index_or left k start) (member_at left k start h)

  abbrev ReachedFrom : ℕ → Type 0
  ReachedFrom k = (start ≡ at k) ⊎ FollowsOn ps start (at k)

  onwards : (k j : ℕ) → j < length left → follows (at k) (at j) ≡ true → ReachedFrom k → ReachedFrom j
  onwards k j h f (inl e) = inr (at_once (in_all j h) ((λ i. follows (e i) (at j)) ∙ f))
  onwards k j h f (inr on) = inr (longer ps on (in_all j h) f)

  -- the places that were visited lead here
  abbrev Trail : (ℕ → Bool) → ℕ → Type 0
  Trail visited k = (i : ℕ) → visited i ≡ true → FollowsOn ps (at i) (at k)

  abbrev and_also : (ℕ → Bool) → ℕ → ℕ → Bool
  and_also visited k i = visited i || (i == k)

  abbrev unvisited : (ℕ → Bool) → ℕ
  unvisited visited = open_weight (λ k. 1) visited (upto (length left))

  fewer : (visited : ℕ → Bool) (k : ℕ) → k < length left → visited k ≡ false → unvisited (and_also visited k) < unvisited visited
  fewer visited k h new =
      open_weight-falls (λ i. 1) visited (and_also visited k) (upto (length left)) (λ i m e. or_left (visited i) (i == k) e) k (member-upto (length left) k h) new
      (or_right (visited k) (k == k) (eq-eqb k k refl)) (omega arith)

  here_again : (k j : ℕ) → k < length left → follows (at k) (at j) ≡ true → j ≡ k → ReachedFrom k → Stuck ps start
  here_again k j h f e from = record {
    circle = at k;
    is_circle = at_once (in_all k h) ((λ i. follows (at k) (at (sym e i))) ∙ f);
    leads_there = from;
  }

  back_there : (k j : ℕ) → j < length left → follows (at k) (at j) ≡ true → FollowsOn ps (at j) (at k) → ReachedFrom k → Stuck ps start
  back_there k j h f on from = record { circle = at j; is_circle = longer ps on (in_all j h) f; leads_there = onwards k j h f from }

  trail_on : (visited : ℕ → Bool) (k j : ℕ) → j < length left → follows (at k) (at j) ≡ true → Trail visited k → Trail (and_also visited k) j
  trail_on visited k j h f trail i e =
      elim (or_cases (visited i) (i == k) e) [
        | inl t ↦ longer ps (trail i t) (in_all j h) f
        | inr same ↦ at_once (in_all j h) ((λ x. follows (at (eqb-true i k same x)) (at j)) ∙ f)
      ]

  walk : (n : ℕ) (visited : ℕ → Bool) (k : ℕ) → k < length left → visited k ≡ false → Trail visited k → ReachedFrom k → unvisited visited ≤ n → Stuck ps start
  walk zero visited k h new trail from le = absurd (omega (arith, fewer visited k h new, le))
  walk (suc n) visited k h new trail from le =
      let s = next_place k h in
      elim (true_or_false (s.0 == k)) [
        | inl same ↦ here_again k s.0 h s.2 (eqb-true s.0 k same) from
        | inr other ↦ elim (true_or_false (visited s.0)) [
          | inl seen ↦ back_there k s.0 s.1 s.2 (trail s.0 seen) from
          | inr unseen ↦
              walk n (and_also visited k) s.0 s.1 (or_from (visited s.0) (s.0 == k) unseen other) (trail_on visited k s.0 s.1 s.2 trail) (onwards k s.0 s.1 s.2 from)
              (omega (arith, fewer visited k h new, le))
        ]
      ]

  pub stuck_from : Member left start → Stuck ps start
  unfolding at
  stuck_from m =
      let k = member-place left start m in
      walk (unvisited (λ i. false)) (λ i. false) k.0 k.1 refl (λ i e. clash false e refl) (inl (sym k.2)) (omega arith)

-- processes each of which follows one of them are stuck
pub left_are_stuck : (ps left : List Process) → ((p : Process) → Member left p → Member ps p)
    → ((p : Process) → Member left p → (q : Process) × Member left q × (follows p q ≡ true)) → (p : Process) → Member left p → Stuck ps p
left_are_stuck ps left within next p m = stuck_from ps left within next p m

-- each process is free or stuck
module _ (ps : List Process) where
  abbrev waits : (Process → Bool) → Process → Bool
  waits is_done p = list_any (λ q. follows p q && not (is_done q)) ps

  abbrev can_go : (Process → Bool) → Process → Bool
  can_go is_done p = not (is_done p) && not (waits is_done p)

  abbrev AreFree : (Process → Bool) → Type 0
  AreFree is_done = (p : Process) → Member ps p → is_done p ≡ true → Free ps p

  abbrev Rest : (Process → Bool) → Type 0
  Rest is_done = (p : Process) → Member ps p → is_done p ≡ false → (q : Process) × Member ps q × (is_done q ≡ false) × (follows p q ≡ true)

  next_free : (is_done : Process → Bool) → AreFree is_done → (p : Process) → waits is_done p ≡ false → Free ps p
  next_free is_done are p e =
      free (λ q m f. elim (true_or_false (is_done q)) [
        | inl t ↦ are q m t
        | inr n ↦ clash (waits is_done p) (member-any (λ x. follows p x && not (is_done x)) ps q m (and_from (follows p q) (not (is_done q)) f (not_from_false (is_done q) n))) e
      ])

  abbrev more_done : (Process → Bool) → Process → Bool
  more_done is_done p = is_done p || not (waits is_done p)

  more_free : (is_done : Process → Bool) → AreFree is_done → AreFree (more_done is_done)
  more_free is_done are p m e =
      elim (or_cases (is_done p) (not (waits is_done p)) e) [ inl t ↦ are p m t | inr n ↦ next_free is_done are p (not-true (waits is_done p) n) ]

  fewer_left : (is_done : Process → Bool) → list_any (can_go is_done) ps ≡ true → open_weight (λ p. 1) (more_done is_done) ps < open_weight (λ p. 1) is_done ps
  fewer_left is_done more =
      let r = any-member (can_go is_done) ps more in
      let both = and_parts (not (is_done r.0)) (not (waits is_done r.0)) r.2 in
      open_weight-falls (λ p. 1) is_done (more_done is_done) ps (λ p m e. or_left (is_done p) (not (waits is_done p)) e) r.0 r.1
      (not-true (is_done r.0) both.0) (or_right (is_done r.0) (not (waits is_done r.0)) both.1) (omega arith)

  rest_of : (is_done : Process → Bool) → list_any (can_go is_done) ps ≡ false → Rest is_done
  rest_of is_done none p m e =
      elim (true_or_false (waits is_done p)) [
        | inl t ↦ (let r = any-member (λ x. follows p x && not (is_done x)) ps t in
            let both = and_parts (follows p r.0) (not (is_done r.0)) r.2 in
            (r.0, r.1, not-true (is_done r.0) both.1, both.0))
        | inr n ↦ clash (list_any (can_go is_done) ps)
            (member-any (can_go is_done) ps p m (and_from (not (is_done p)) (not (waits is_done p)) (not_from_false (is_done p) e) (not_from_false (waits is_done p) n))) none
      ]

  abbrev Parted : Type 0
  Parted = (is_done : Process → Bool) × AreFree is_done × Rest is_done

  parted : (n : ℕ) (is_done : Process → Bool) → AreFree is_done → open_weight (λ p. 1) is_done ps ≤ n → Parted
  parted zero is_done are le =
      elim (true_or_false (list_any (can_go is_done) ps)) [
        | inl more ↦ absurd (omega (arith, fewer_left is_done more, le))
        | inr none ↦ (is_done, are, rest_of is_done none)
      ]
  parted (suc n) is_done are le =
      elim (true_or_false (list_any (can_go is_done) ps)) [
        | inl more ↦ parted n (more_done is_done) (more_free is_done are) (omega (arith, fewer_left is_done more, le))
        | inr none ↦ (is_done, are, rest_of is_done none)
      ]

  abbrev undone : (Process → Bool) → List Process
  undone is_done = filter (λ p. not (is_done p)) ps

  next_undone : (is_done : Process → Bool) → Rest is_done → (p : Process) → Member (undone is_done) p → (q : Process) × Member (undone is_done) q × (follows p q ≡ true)
  next_undone is_done rest p m =
      let k = filter-member (λ p. not (is_done p)) ps p m in
      let r = rest p k.0 (not-true (is_done p) k.1) in
      (r.0, member-filter (λ p. not (is_done p)) ps r.0 r.1 (not_from_false (is_done r.0) r.2), r.3)

  pub free_or_stuck : (p : Process) → Member ps p → Free ps p ⊎ Stuck ps p
  free_or_stuck p m =
      let r = parted (open_weight (λ p. 1) (λ p. false) ps) (λ p. false) (λ p m e. clash false e refl) (omega arith) in
      elim (true_or_false (r.0 p)) [
        | inl t ↦ inl (r.1 p m t)
        | inr n ↦ inr (left_are_stuck ps (undone r.0) (λ q k. (filter-member (λ p. not (r.0 p)) ps q k).0) (next_undone r.0 r.2) p
            (member-filter (λ p. not (r.0 p)) ps p m (not_from_false (r.0 p) n)))
      ]
