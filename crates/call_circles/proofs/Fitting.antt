-- What fits the calls says which of them are broken.
use Rattle.std.proofs.Common.{◌≡◌, ◌⊎◌, ℕ, zero, suc, ◌<◌, ◌≤◌, Bool, true, false, ◌==◌, nat_le, List, [], ◌∷◌, length, Option, Some, None, slice_get, refl, sym, ap, ◌∙◌, subst, inl, inr, arith}
use Rattle.std.proofs.lemmas.Bool.{and_parts, and_from, eqb-true, eq-eqb, ltb-true, leb-true, le-leb, cases_Bool, cond-true, cond-false, false≢true, false_from_ne_true}
use Rattle.std.specs.List.{list_any}
use Rattle.call_circles.specs.declared.calls.Call.{Call}
use Rattle.call_circles.specs.declared.calls.Need.{Need}
use Rattle.call_circles.specs.declared.known.Known.{Known}
use Rattle.call_circles.specs.declared.ways.Way.{Way}
use Rattle.call_circles.specs.Calls.{reaches, enough, leads_to, is_early, is_broken_in, lesser_if, first_of, first_broken}
use Rattle.call_circles.specs.Calls as Calls
use Rattle.call_circles.specs.Ways.{way_from}
use Rattle.call_circles.specs.Known.{number_of, at_most, last_of, last_by, latest, leads_back, is_placed, fits_call, fits_call_from, fits_need, Fits, same_goal, is_broken_from, is_broken}
use Rattle.call_circles.proofs.Reaching.{any_at, place_of, all_at, reaches-cases, reaches-more, reaches-both}
use Rattle.call_circles.proofs.Leading.{way-leads, way_down-leads}

same_tests : (a b : Bool) → (a ≡ true → b ≡ true) → (b ≡ true → a ≡ true) → a ≡ b
same_tests true b f g = sym (f refl)
same_tests false b f g = sym (false_from_ne_true b (λ e. false≢true (g e)))

-- nothing is at most anything
at_most-same : (a : Option ℕ) → at_most a a ≡ true
at_most-same None = refl
at_most-same (Some a) = le-leb a a (omega arith)

at_most-chain : (a b c : Option ℕ) → at_most a b ≡ true → at_most b c ≡ true → at_most a c ≡ true
at_most-chain None b c f g = refl
at_most-chain (Some a) None c f g = absurd (false≢true f)
at_most-chain (Some a) (Some b) None f g = absurd (false≢true g)
at_most-chain (Some a) (Some b) (Some c) f g = le-leb a c (omega (arith, leb-true a b f, leb-true b c g))

at_most-parts : (a : ℕ) (b : Option ℕ) → at_most (Some a) b ≡ true → (l : ℕ) × (b ≡ Some l) × (a ≤ l)
at_most-parts a None e = absurd (false≢true e)
at_most-parts a (Some l) e = (l, refl, leb-true a l e)

-- what stands behind the latest need
last_of-parts : (r : ℕ) (o : Option Need) (l : ℕ) → last_of r o ≡ Some l → (n : Need) × (o ≡ Some n) × (n.routine ≡ r) × (n.last ≡ l)
last_of-parts r None l e = cc
last_of-parts r (Some n) l e =
    elim (cases_Bool (n.routine == r)) [
      | inl t ↦ (let h : Some n.last ≡ Some l = sym (cond-true (n.routine == r) (Some n.last) None t) ∙ e in
          (n, refl, eqb-true n.routine r t, (cc)))
      | inr f ↦ (let h : None ≡ Some l = sym (cond-false (n.routine == r) (Some n.last) None f) ∙ e in cc)
    ]

last_by-parts : (ns : List Need) (k : Known) (o : Option Way) (l : ℕ) → last_by ns k o ≡ Some l
    → (w : Way) × (o ≡ Some w) × (j : ℕ) × (n : Need) × (slice_get ns j ≡ Some n) × (n.routine ≡ w.goal) × (n.last ≡ l)
last_by-parts ns k None l e = cc
last_by-parts ns k (Some w) l e =
    let p = last_of-parts w.goal (slice_get ns (number_of k.latest w.goal)) l e in (w, refl, number_of k.latest w.goal, p.0, p.1, p.2, p.3)

-- the ways up of a routine and of one that it calls
abbrev Placed : Known → ℕ → Way → Way → Type 0
Placed k r x y = ((x.goal ≡ y.goal) × (leads_back x.goal (way_from k.down r) ≡ true)) ⊎ (number_of k.ranks x.goal < number_of k.ranks y.goal)

placed-parts : (k : Known) (r : ℕ) (a b : Option Way) → is_placed k r a b ≡ true → (x : Way) × (y : Way) × (a ≡ Some x) × (b ≡ Some y) × Placed k r x y
placed-parts k r None b e = absurd (false≢true e)
placed-parts k r (Some x) None e = absurd (false≢true e)
placed-parts k r (Some x) (Some y) e = (
  x,
  y,
  refl,
  refl,
  elim (cases_Bool (x.goal == y.goal)) [
    | inl t ↦ inl (eqb-true x.goal y.goal t, sym (cond-true (x.goal == y.goal) _ _ t) ∙ e)
    | inr f ↦ inr (ltb-true (number_of k.ranks x.goal) (number_of k.ranks y.goal) (sym (cond-false (x.goal == y.goal) _ _ f) ∙ e))
  ],
)

same_goal-parts : (a b : Option Way) → same_goal a b ≡ true → (x : Way) × (y : Way) × (a ≡ Some x) × (b ≡ Some y) × (x.goal ≡ y.goal)
same_goal-parts None b e = absurd (false≢true e)
same_goal-parts (Some x) None e = absurd (false≢true e)
same_goal-parts (Some x) (Some y) e = (x, y, refl, refl, eqb-true x.goal y.goal e)

leads_back-parts : (goal : ℕ) (o : Option Way) → leads_back goal o ≡ true → (d : Way) × (o ≡ Some d) × (d.goal ≡ goal)
leads_back-parts goal None e = absurd (false≢true e)
leads_back-parts goal (Some d) e = (d, refl, eqb-true d.goal goal e)

same_way : (o : Option Way) (x y : Way) → o ≡ Some x → o ≡ Some y → x ≡ y
same_way o x y e f = cc

module _ (cs : List Call) (ns : List Need) (k : Known) (fits : Fits cs ns k) where
  call-fits : (i r : ℕ) (c : Call) → slice_get cs i ≡ Some c → c.from ≡ Some r
      → (is_placed k r (way_from k.up r) (way_from k.up c.to) ≡ true) × (at_most (latest ns k c.to) (latest ns k r) ≡ true)
  call-fits i r c at from =
      let test = all_at (fits_call ns k) cs i c fits.calls at in
      and_parts (is_placed k r (way_from k.up r) (way_from k.up c.to)) _ (subst (λ f. fits_call_from ns k c.to f ≡ true) from test)

  -- along calls the goals of the ways up stay or get higher
  higher : (m r g : ℕ) (x : Way) → reaches cs m r g ≡ true → way_from k.up r ≡ Some x
      → (y : Way) × (way_from k.up g ≡ Some y) × ((x.goal ≡ y.goal) ⊎ (number_of k.ranks x.goal < number_of k.ranks y.goal))
  higher zero r g x h e = (x, subst (λ s. way_from k.up s ≡ Some x) (eqb-true r g h) e, inl refl)
  higher (suc m) r g x h e =
      elim (reaches-cases cs m r g h) [
        | inl same ↦ (x, subst (λ s. way_from k.up s ≡ Some x) same e, inl refl)
        | inr s ↦ (let p = placed-parts k r (way_from k.up r) (way_from k.up s.1.to) (call-fits s.0 r s.1 s.2 s.3).0 in
            let first : p.0 ≡ x = same_way (way_from k.up r) p.0 x p.2 e in
            let rest = higher m s.1.to g p.1 s.4 p.3 in
            (rest.0, rest.1, joined p.0 x p.1 rest.0 first p.4 rest.2))
      ]
    where
      joined : (a x b y : Way) → a ≡ x → Placed k r a b → (b.goal ≡ y.goal) ⊎ (number_of k.ranks b.goal < number_of k.ranks y.goal)
          → (x.goal ≡ y.goal) ⊎ (number_of k.ranks x.goal < number_of k.ranks y.goal)
      joined a x b y e (inl p) (inl q) = inl (ap (λ (w : Way). w.goal) (sym e) ∙ p.0 ∙ q)
      joined a x b y e (inl p) (inr q) = inr (omega (arith, ap (λ (w : Way). number_of k.ranks w.goal) e, ap (number_of k.ranks) p.0))
      joined a x b y e (inr p) (inl q) = inr (omega (arith, ap (λ (w : Way). number_of k.ranks w.goal) e, ap (number_of k.ranks) q))
      joined a x b y e (inr p) (inr q) = inr (omega (arith, ap (λ (w : Way). number_of k.ranks w.goal) e))

  -- a call in a routine
  circle-goes : (i r : ℕ) (c : Call) → slice_get cs i ≡ Some c → c.from ≡ Some r → same_goal (way_from k.up r) (way_from k.up c.to) ≡ true → leads_to cs c.to r ≡ true
  circle-goes i r c at from e =
      let p = placed-parts k r (way_from k.up r) (way_from k.up c.to) (call-fits i r c at from).0 in
      let q = same_goal-parts (way_from k.up r) (way_from k.up c.to) e in
      let x : q.0 ≡ p.0 = same_way (way_from k.up r) q.0 p.0 q.2 p.2 in
      let y : q.1 ≡ p.1 = same_way (way_from k.up c.to) q.1 p.1 q.3 p.3 in
      let goals : p.0.goal ≡ p.1.goal = ap (λ (w : Way). w.goal) (sym x) ∙ q.4 ∙ ap (λ (w : Way). w.goal) y in
      elim p.4 [
        | inl back ↦ (let d = leads_back-parts p.0.goal (way_from k.down r) back.1 in
            let down = way_down-leads cs k.down fits.down r d.0 d.1 in
            reaches-both cs (length cs) (length cs) (enough cs) c.to p.1.goal r (omega arith) (way-leads cs k.up fits.up c.to p.1 p.3)
            (subst (λ g. reaches cs (length cs) g r ≡ true) (d.2 ∙ goals) down))
        | inr above ↦ absurd (omega (arith, ap (number_of k.ranks) goals))
      ]

  circle-comes : (i r : ℕ) (c : Call) → slice_get cs i ≡ Some c → c.from ≡ Some r → leads_to cs c.to r ≡ true → same_goal (way_from k.up r) (way_from k.up c.to) ≡ true
  circle-comes i r c at from e =
      let p = placed-parts k r (way_from k.up r) (way_from k.up c.to) (call-fits i r c at from).0 in
      let h = higher (enough cs) c.to r p.1 e p.3 in
      let x : h.0 ≡ p.0 = same_way (way_from k.up r) h.0 p.0 h.1 p.2 in
      let goals : p.0.goal ≡ p.1.goal = meet p.0 p.1 h.0 x p.4 h.2 in
      subst (λ o. same_goal o (way_from k.up c.to) ≡ true) (sym p.2) (subst (λ o. same_goal (Some p.0) o ≡ true) (sym p.3) (eq-eqb p.0.goal p.1.goal goals))
    where
      meet : (x y z : Way) → z ≡ x → Placed k r x y → (y.goal ≡ z.goal) ⊎ (number_of k.ranks y.goal < number_of k.ranks z.goal) → x.goal ≡ y.goal
      meet x y z e (inl p) q = p.0
      meet x y z e (inr p) (inl q) = absurd (omega (arith, ap (number_of k.ranks) q, ap (λ (w : Way). number_of k.ranks w.goal) e))
      meet x y z e (inr p) (inr q) = absurd (omega (arith, ap (λ (w : Way). number_of k.ranks w.goal) e))

  -- along calls the latest need stays or gets earlier
  no_later : (m r g : ℕ) → reaches cs m r g ≡ true → at_most (latest ns k g) (latest ns k r) ≡ true
  no_later zero r g h = subst (λ s. at_most (latest ns k s) (latest ns k r) ≡ true) (eqb-true r g h) (at_most-same (latest ns k r))
  no_later (suc m) r g h =
      elim (reaches-cases cs m r g h) [
        | inl same ↦ subst (λ s. at_most (latest ns k s) (latest ns k r) ≡ true) same (at_most-same (latest ns k r))
        | inr s ↦ at_most-chain (latest ns k g) (latest ns k s.1.to) (latest ns k r) (no_later m s.1.to g s.4) (call-fits s.0 r s.1 s.2 s.3).1
      ]

  -- a call outside routines
  early-goes : (c : Call) → at_most (Some c.at) (latest ns k c.to) ≡ true → list_any (is_early cs c) ns ≡ true
  early-goes c e =
      let l = at_most-parts c.at (latest ns k c.to) e in
      let p = last_by-parts ns k (way_from k.late c.to) l.0 l.1 in
      let way = way-leads cs k.late fits.late c.to p.0 p.1 in
      any_at (is_early cs c) ns p.2 p.3 p.4
      (and_from (nat_le c.at p.3.last) (leads_to cs c.to p.3.routine) (le-leb c.at p.3.last (omega (arith, l.2, p.6)))
      (reaches-more cs (length cs) (enough cs) c.to p.3.routine (omega arith) (subst (λ g. reaches cs (length cs) c.to g ≡ true) (sym p.5) way)))

  early-comes : (c : Call) → list_any (is_early cs c) ns ≡ true → at_most (Some c.at) (latest ns k c.to) ≡ true
  early-comes c e =
      let p = place_of (is_early cs c) ns e in
      let parts = and_parts (nat_le c.at p.1.last) (leads_to cs c.to p.1.routine) p.3 in
      let need = all_at (fits_need ns k) ns p.0 p.1 fits.needs p.2 in
      at_most-chain (Some c.at) (Some p.1.last) (latest ns k c.to) parts.0
      (at_most-chain (Some p.1.last) (latest ns k p.1.routine) (latest ns k c.to) need (no_later (enough cs) c.to p.1.routine parts.1))

  says_so : (i : ℕ) (c : Call) (f : Option ℕ) → slice_get cs i ≡ Some c → c.from ≡ f → is_broken_from ns k c f ≡ is_broken_in cs ns c f
  says_so i c None at from = same_tests _ _ (early-goes c) (early-comes c)
  says_so i c (Some r) at from = same_tests _ _ (circle-goes i r c at from) (circle-comes i r c at from)

  first_same : (p q : Call → Bool) (ds : List Call) → ((i : ℕ) (c : Call) → slice_get ds i ≡ Some c → p c ≡ q c) → first_of p ds ≡ first_of q ds
  first_same p q [] same = refl
  first_same p q (d ∷ ds) same =
      ap (λ b. lesser_if b d.at (first_of p ds)) (same zero d refl) ∙ ap (lesser_if (q d) d.at) (first_same p q ds (λ i c at. same (suc i) c at))

  pub known-first : first_of (is_broken ns k) cs ≡ first_broken cs ns
  known-first = first_same (is_broken ns k) (Calls.is_broken cs ns) cs (λ i c at. says_so i c c.from at refl)
