-- Ways lead to their goals.
use Rattle.std.proofs.Common.{◌≡◌, ℕ, zero, suc, ◌<◌, true, ◌==◌, nat_le, List, length, map, Option, Some, None, slice_get, refl, sym, subst, inl, inr, arith}
use Rattle.std.proofs.lemmas.Bool.{or_cases, and_parts, eqb-true, ltb-true, leb-true, false≢true}
use Rattle.std.proofs.lemmas.List.{length-map}
use Rattle.call_circles.specs.declared.calls.Call.{Call}
use Rattle.call_circles.specs.declared.ways.Way.{Way}
use Rattle.call_circles.specs.Calls.{is_from, reaches}
use Rattle.call_circles.specs.Ways.{turned, way_from, goes_on, begins_with, begins, is_way, is_way_if, AreWays}
use Rattle.call_circles.proofs.Reaching.{from_true, reaches-here, reaches-before, reaches-more, turned-reaches}

goes_on-parts : (w : Way) (o : Option Way) → goes_on w o ≡ true → (next : Way) × (o ≡ Some next) × (next.goal ≡ w.goal) × (next.steps < w.steps)
goes_on-parts w None e = absurd (false≢true e)
goes_on-parts w (Some next) e =
    let parts = and_parts (next.goal == w.goal) _ e in (next, refl, eqb-true next.goal w.goal parts.0, ltb-true next.steps w.steps parts.1)

begins-parts : (ways : List (Option Way)) (r : ℕ) (w : Way) (o : Option Call) → begins_with ways r w o ≡ true
    → (c : Call) × (o ≡ Some c) × (c.from ≡ Some r) × (next : Way) × (way_from ways c.to ≡ Some next) × (next.goal ≡ w.goal) × (next.steps < w.steps)
begins-parts ways r w None e = absurd (false≢true e)
begins-parts ways r w (Some c) e =
    let parts = and_parts (is_from c.from r) (goes_on w (way_from ways c.to)) e in
    let next = goes_on-parts w (way_from ways c.to) parts.1 in
    (c, refl, from_true c.from r parts.0, next.0, next.1, next.2, next.3)

module _ (cs : List Call) (ways : List (Option Way)) (are : AreWays cs ways) where
  is_one : (r : ℕ) (w : Way) → way_from ways r ≡ Some w → is_way cs ways r w ≡ true
  is_one r w e = subst (λ o. is_way_if cs ways r o ≡ true) e (are r)

  leads_in : (n r : ℕ) (w : Way) → w.steps < n → way_from ways r ≡ Some w → reaches cs w.steps r w.goal ≡ true
  leads_in zero r w low e = absurd (omega arith)
  leads_in (suc n) r w low e =
      let test = (and_parts (nat_le w.steps (length cs)) _ (is_one r w e)).1 in
      elim (or_cases (w.goal == r) (begins cs ways r w) test) [
        | inl here ↦ reaches-here cs w.steps r w.goal (sym (eqb-true w.goal r here))
        | inr b ↦ (let p = begins-parts ways r w (slice_get cs w.by) b in
            let rest = leads_in n p.0.to p.3 (omega (arith, p.6)) p.4 in
            reaches-more cs (suc p.3.steps) w.steps r w.goal (omega (arith, p.6))
            (reaches-before cs p.3.steps w.by r w.goal p.0 p.1 p.2 (subst (λ g. reaches cs p.3.steps p.0.to g ≡ true) p.5 rest)))
      ]

  -- a way leads to its goal by as many calls as there are
  pub way-leads : (r : ℕ) (w : Way) → way_from ways r ≡ Some w → reaches cs (length cs) r w.goal ≡ true
  way-leads r w e =
      reaches-more cs w.steps (length cs) r w.goal (leb-true w.steps (length cs) (and_parts (nat_le w.steps (length cs)) _ (is_one r w e)).0)
      (leads_in (suc w.steps) r w (omega arith) e)

pub way_down-leads : (cs : List Call) (ways : List (Option Way)) → AreWays (map turned cs) ways → (r : ℕ) (w : Way) → way_from ways r ≡ Some w → reaches cs (length cs) w.goal r ≡ true
way_down-leads cs ways are r w e =
    subst (λ n. reaches cs n w.goal r ≡ true) (length-map cs turned) (turned-reaches cs (length (map turned cs)) r w.goal (way-leads (map turned cs) ways are r w e))
