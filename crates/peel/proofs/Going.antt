-- The steps keep what holds while the numbers are put in order.
use Rattle.std.proofs.Common.{◌≡◌, ◌⊎◌, ℕ, zero, suc, ◌+◌, ◌-◌, ◌<◌, ◌≤◌, List, [], ◌∷◌, ◌++◌, length, take, set, replicate, slice_index_or, refl, sym, ap, ◌∙◌, subst, inl, inr, arith, length-set, length-take-le, get_or-take}
use Rattle.std.proofs.lemmas.Bool.{cases_order}
use Rattle.std.proofs.lemmas.List.{get_or_default, length-replicate}
use Rattle.row_machine.specs.Valuation.{Member}
use Rattle.row_machine.specs.Stuck.{Distinct}
use Rattle.row_machine.proofs.Members.{member-place, append-member, member-front, member-back}
use Rattle.row_machine.proofs.Basics.{member_at}
use Rattle.peel.specs.Peeled.{needed}
use Rattle.peel.specs.Steps.{mark_in, NoneOpen, NeedsHeld, Going, held_too, finished, given_up, looked, last_of}
use Rattle.peel.specs.declared.peeling.Mark.{Mark}
use Rattle.peel.specs.declared.peeling.Mark.TheVariants.{Fresh, Held, Done}
use Rattle.peel.specs.declared.peeling.Peeling.{Peeling}
use Rattle.peel.proofs.Lists.{set-cases, distinct-more, distinct-fewer, earlier-more, chained-more, without_last}

fresh≢held : (m : Mark) → m ≡ Fresh → m ≡ Held → ⊥
fresh≢held m a b = cc

fresh≢done : (m : Mark) → m ≡ Fresh → m ≡ Done → ⊥
fresh≢done m a b = cc

pub held≢done : (m : Mark) → m ≡ Held → m ≡ Done → ⊥
held≢done m a b = cc

module _ (needs : List (List ℕ)) (s : Peeling) (g : Going needs s) where
  pub is_low : (p : ℕ) → p < length needs → p < length s.marks
  is_low p low = omega (arith, g.marked)

  module _ (p : ℕ) (low : p < length needs) where
    module _ (fresh : mark_in s.marks p ≡ Fresh) (link : (i : ℕ) → i + 1 ≡ length s.path → Member (needed needs (slice_index_or s.path i 0)) p) where
      after : (q : ℕ) → ((q ≡ p) × (mark_in (held_too s p).marks q ≡ Held)) ⊎ ((q ≡ p → ⊥) × (mark_in (held_too s p).marks q ≡ mark_in s.marks q))
      after q = set-cases s.marks p q Held Fresh (is_low p low)

      stays_done : (q : ℕ) → mark_in s.marks q ≡ Done → mark_in (held_too s p).marks q ≡ Done
      stays_done q e =
          elim (after q) [
            | inl a ↦ absurd (fresh≢done (mark_in s.marks p) fresh (subst (λ k. mark_in s.marks k ≡ Done) a.0 e))
            | inr a ↦ a.1 ∙ e
          ]

      stays_held : (q : ℕ) → mark_in s.marks q ≡ Held → mark_in (held_too s p).marks q ≡ Held
      stays_held q e = elim (after q) [ inl a ↦ a.1 | inr a ↦ a.1 ∙ e ]

      not_fresh : (q : ℕ) → mark_in s.marks q ≡ Held → q ≡ p → ⊥
      not_fresh q e same = fresh≢held (mark_in s.marks p) fresh (subst (λ k. mark_in s.marks k ≡ Held) same e)

      longer_held : (q : ℕ) → Member (s.path ++ p ∷ []) q → mark_in (held_too s p).marks q ≡ Held
      longer_held q m =
          elim (append-member s.path (p ∷ []) q m) [
            | inl l ↦ stays_held q (g.path_held q l)
            | inr r ↦ elim r [
              | inl e ↦ elim (after q) [ inl a ↦ a.1 | inr a ↦ absurd (a.0 e) ]
              | inr none ↦ absurd none
            ]
          ]

      not_on : (q : ℕ) → mark_in s.marks q ≡ Held → (Member s.path q → ⊥) → Member (s.path ++ p ∷ []) q → ⊥
      not_on q e off m =
          elim (append-member s.path (p ∷ []) q m) [
            | inl l ↦ off l
            | inr r ↦ elim r [ inl same ↦ not_fresh q e same | inr none ↦ none ]
          ]

      still_held : (q : ℕ) → mark_in (held_too s p).marks q ≡ Held → Member (s.path ++ p ∷ []) q ⊎ NeedsHeld needs (held_too s p) q
      still_held q e =
          elim (after q) [
            | inl a ↦ inl (member-back s.path (p ∷ []) q (inl a.0))
            | inr a ↦ elim (g.held q (sym a.1 ∙ e)) [
              | inl m ↦ inl (member-front s.path (p ∷ []) q m)
              | inr r ↦ inr (r.0, r.1, stays_held r.0 r.2, not_on r.0 r.2 r.3)
            ]
          ]

      pub going-held_too : Going needs (held_too s p)
      going-held_too = record {
        marked = length-set s.marks p Held ∙ g.marked;
        tracked = g.tracked;
        seen_within = g.seen_within;
        behind = λ q k h low. stays_done (slice_index_or (needed needs q) k 0) (g.behind q k h (subst (λ n. slice_index_or (needed needs q) k 0 < n) (length-set s.marks p Held) low));
        done_in_order = λ q e. elim (after q) [
          | inl a ↦ absurd (held≢done (mark_in (held_too s p).marks q) a.1 e)
          | inr a ↦ g.done_in_order q (sym a.1 ∙ e)
        ];
        order_done = λ q m. stays_done q (g.order_done q m);
        order_distinct = g.order_distinct;
        earlier = g.earlier;
        path_held = longer_held;
        path_distinct = distinct-more s.path p g.path_distinct (λ m. fresh≢held (mark_in s.marks p) fresh (g.path_held p m));
        chain = chained-more needs s.path p g.chain link;
        held = still_held;
      }

    -- the last one of the path needs only what is done
    module _ (some : 0 < length s.path) (is_last : p ≡ last_of s.path) (ready : (q : ℕ) → q < length needs → Member (needed needs p) q → mark_in s.marks q ≡ Done) where
      abbrev rest : List ℕ
      rest = take (length s.path - 1) s.path

      split : s.path ≡ rest ++ p ∷ []
      split = without_last s.path some ∙ ap (λ k. rest ++ k ∷ []) (sym is_last)

      was_held : mark_in s.marks p ≡ Held
      was_held = g.path_held p (subst (λ xs. Member xs p) (sym split) (member-back rest (p ∷ []) p (inl refl)))

      apart : Distinct rest × (Member rest p → ⊥)
      apart = distinct-fewer rest p (subst Distinct split g.path_distinct)

      in_path : (q : ℕ) → Member rest q → Member s.path q
      in_path q m = subst (λ xs. Member xs q) (sym split) (member-front rest (p ∷ []) q m)

      behind_it : (q : ℕ) → ((q ≡ p) × (mark_in (finished s p).marks q ≡ Done)) ⊎ ((q ≡ p → ⊥) × (mark_in (finished s p).marks q ≡ mark_in s.marks q))
      behind_it q = set-cases s.marks p q Done Fresh (is_low p low)

      done_still : (q : ℕ) → mark_in s.marks q ≡ Done → mark_in (finished s p).marks q ≡ Done
      done_still q e = elim (behind_it q) [ inl a ↦ a.1 | inr a ↦ a.1 ∙ e ]

      held_still : (q : ℕ) → (q ≡ p → ⊥) → mark_in s.marks q ≡ Held → mark_in (finished s p).marks q ≡ Held
      held_still q other e = elim (behind_it q) [ inl a ↦ absurd (other a.0) | inr a ↦ a.1 ∙ e ]

      done_after : (q : ℕ) → mark_in (finished s p).marks q ≡ Done → Member (s.order ++ p ∷ []) q
      done_after q e =
          elim (behind_it q) [
            | inl a ↦ member-back s.order (p ∷ []) q (inl a.0)
            | inr a ↦ member-front s.order (p ∷ []) q (g.done_in_order q (sym a.1 ∙ e))
          ]

      after_done : (q : ℕ) → Member (s.order ++ p ∷ []) q → mark_in (finished s p).marks q ≡ Done
      after_done q m =
          elim (append-member s.order (p ∷ []) q m) [
            | inl l ↦ done_still q (g.order_done q l)
            | inr r ↦ elim r [
              | inl e ↦ elim (behind_it q) [ inl a ↦ a.1 | inr a ↦ absurd (a.0 e) ]
              | inr none ↦ absurd none
            ]
          ]

      chain_before : (i : ℕ) → i + 1 < length rest → Member (needed needs (slice_index_or rest i 0)) (slice_index_or rest (i + 1) 0)
      chain_before i h =
          let long : length rest ≡ length s.path - 1 = length-take-le (length s.path - 1) s.path (omega arith) in
          let a : slice_index_or rest i 0 ≡ slice_index_or s.path i 0 = get_or-take (length s.path - 1) s.path i 0 (omega arith) in
          let b : slice_index_or rest (i + 1) 0 ≡ slice_index_or s.path (i + 1) 0 = get_or-take (length s.path - 1) s.path (i + 1) 0 (omega arith) in
          subst (Member (needed needs (slice_index_or rest i 0))) (sym b)
          (subst (λ k. Member (needed needs k) (slice_index_or s.path (i + 1) 0)) (sym a) (g.chain i (omega arith)))

      held_before : (q : ℕ) → mark_in (finished s p).marks q ≡ Held → Member rest q ⊎ NeedsHeld needs (finished s p) q
      held_before q e =
          elim (behind_it q) [
            | inl a ↦ absurd (held≢done (mark_in (finished s p).marks q) e a.1)
            | inr a ↦ elim (g.held q (sym a.1 ∙ e)) [
              | inl m ↦ elim (append-member rest (p ∷ []) q (subst (λ xs. Member xs q) split m)) [
                | inl l ↦ inl l
                | inr r ↦ elim r [ inl same ↦ absurd (a.0 same) | inr none ↦ absurd none ]
              ]
              | inr r ↦ inr (
                r.0,
                r.1,
                held_still r.0 (λ same. r.3 (subst (λ xs. Member xs r.0) (sym split) (member-back rest (p ∷ []) r.0 (inl same)))) r.2,
                λ m. r.3 (in_path r.0 m),
              )
            ]
          ]

      pub going-finished : Going needs (finished s p)
      going-finished = record {
        marked = length-set s.marks p Done ∙ g.marked;
        tracked = g.tracked;
        seen_within = g.seen_within;
        behind = λ q k h low. done_still (slice_index_or (needed needs q) k 0) (g.behind q k h (subst (λ n. slice_index_or (needed needs q) k 0 < n) (length-set s.marks p Done) low));
        done_in_order = done_after;
        order_done = after_done;
        order_distinct = distinct-more s.order p g.order_distinct (λ m. held≢done (mark_in s.marks p) was_held (g.order_done p m));
        earlier = earlier-more needs s.order p g.earlier (λ q is m. g.done_in_order q (ready q is m));
        path_held = λ q m. held_still q (λ same. apart.1 (subst (Member rest) same m)) (g.path_held q (in_path q m));
        path_distinct = apart.0;
        chain = chain_before;
        held = held_before;
      }

    -- some of what p needs was seen
    pub going-looked : (n : ℕ) → n ≤ length (needed needs p) → NoneOpen s.marks (needed needs p) n → Going needs (looked s p n)
    going-looked n within before = record {
      marked = g.marked;
      tracked = length-set s.seen p n ∙ g.tracked;
      seen_within = λ q. elim (now q) [
        | inl a ↦ subst (λ k. slice_index_or (set s.seen p n) q 0 ≤ length (needed needs k)) (sym a.0) (subst (λ k. k ≤ length (needed needs p)) (sym a.1) within)
        | inr a ↦ subst (λ k. k ≤ length (needed needs q)) (sym a.1) (g.seen_within q)
      ];
      behind = λ q k h below. elim (now q) [
        | inl a ↦ subst (λ j. mark_in s.marks (slice_index_or (needed needs j) k 0) ≡ Done) (sym a.0)
            (before k (subst (λ j. k < j) a.1 h) (subst (λ j. slice_index_or (needed needs j) k 0 < length s.marks) a.0 below))
        | inr a ↦ g.behind q k (subst (λ j. k < j) a.1 h) below
      ];
      done_in_order = g.done_in_order;
      order_done = g.order_done;
      order_distinct = g.order_distinct;
      earlier = g.earlier;
      path_held = g.path_held;
      path_distinct = g.path_distinct;
      chain = g.chain;
      held = g.held;
    }
      where
        now : (q : ℕ) → ((q ≡ p) × (slice_index_or (set s.seen p n) q 0 ≡ n)) ⊎ ((q ≡ p → ⊥) × (slice_index_or (set s.seen p n) q 0 ≡ slice_index_or s.seen q 0))
        now q = set-cases s.seen p q n 0 (omega (arith, g.tracked))

  -- the last one of the path needs one that is held
  module _ (q : ℕ) (is_held : mark_in s.marks q ≡ Held) (link : Member (needed needs (last_of s.path)) q) where
    abbrev Waits : ℕ → Type 0
    Waits p = (k : ℕ) × Member (needed needs p) k × (mark_in s.marks k ≡ Held)

    waits_at : (i : ℕ) → i < length s.path → Waits (slice_index_or s.path i 0)
    waits_at i low =
        elim (cases_order (i + 1) (length s.path)) [
          | inl e ↦ (let last : length s.path - 1 ≡ i = omega arith in
              (q, subst (λ k. Member (needed needs (slice_index_or s.path k 0)) q) last link, is_held))
          | inr other ↦ elim other [
            | inl l ↦ (slice_index_or s.path (i + 1) 0, g.chain i l, g.path_held (slice_index_or s.path (i + 1) 0) (member_at s.path (i + 1) 0 l))
            | inr l ↦ absurd (omega arith)
          ]
        ]

    waits : (p : ℕ) → Member s.path p → Waits p
    waits p m =
        let r = member-place s.path p m in
        subst Waits (get_or_default s.path r.0 0 p r.1 ∙ r.2) (waits_at r.0 r.1)

    pub going-given_up : Going needs (given_up s)
    going-given_up = record {
      marked = g.marked;
      tracked = g.tracked;
      seen_within = g.seen_within;
      behind = g.behind;
      done_in_order = g.done_in_order;
      order_done = g.order_done;
      order_distinct = g.order_distinct;
      earlier = g.earlier;
      path_held = λ p m. absurd m;
      path_distinct = tt;
      chain = λ i h. absurd (omega arith);
      held = λ p e. elim (g.held p e) [
        | inl m ↦ (let r = waits p m in inr (r.0, r.1, r.2, λ k. k))
        | inr r ↦ inr (r.0, r.1, r.2, λ k. k)
      ];
    }

-- at the start nothing was asked for
pub going-start : (needs : List (List ℕ)) (s : Peeling) → s.marks ≡ replicate (length needs) Fresh → s.seen ≡ replicate (length needs) 0 → s.path ≡ [] → s.order ≡ [] → Going needs s
going-start needs s marks seen path order = record {
  marked = ap length marks ∙ length-replicate (length needs) Fresh;
  tracked = ap length seen ∙ length-replicate (length needs) 0;
  seen_within = λ p. omega (arith, none_seen p);
  behind = λ p k h low. absurd (omega (arith, none_seen p));
  done_in_order = λ p e. absurd (fresh≢done (mark_in s.marks p) (all_fresh p) e);
  order_done = λ p m. absurd (subst (λ xs. Member xs p) order m);
  order_distinct = subst Distinct (sym order) tt;
  earlier = λ i q h low m. absurd (omega (arith, ap length order));
  path_held = λ p m. absurd (subst (λ xs. Member xs p) path m);
  path_distinct = subst Distinct (sym path) tt;
  chain = λ i h. absurd (omega (arith, ap length path));
  held = λ p e. absurd (fresh≢held (mark_in s.marks p) (all_fresh p) e);
}
  where
    fresh_at : (n p : ℕ) → slice_index_or (replicate n Fresh) p Fresh ≡ Fresh
    fresh_at zero p = refl
    fresh_at (suc n) zero = refl
    fresh_at (suc n) (suc p) = fresh_at n p

    zero_at : (n p : ℕ) → slice_index_or (replicate n zero) p zero ≡ zero
    zero_at zero p = refl
    zero_at (suc n) zero = refl
    zero_at (suc n) (suc p) = zero_at n p

    all_fresh : (p : ℕ) → mark_in s.marks p ≡ Fresh
    all_fresh p = ap (λ ms. mark_in ms p) marks ∙ fresh_at (length needs) p

    none_seen : (p : ℕ) → slice_index_or s.seen p 0 ≡ 0
    none_seen p = ap (λ ks. slice_index_or ks p 0) seen ∙ zero_at (length needs) p
