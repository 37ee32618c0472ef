-- A way that leads from one thing to another does so in as many steps as there are edges.
use Rattle.std.proofs.Common.{◌≡◌, ◌⊎◌, ℕ, zero, suc, ◌<◌, ◌≤◌, Bool, true, false, ◌||◌, List, [], length, None, Some, slice_get, refl, sym, ap, ◌∙◌, subst, inl, inr, arith}
use Rattle.std.proofs.lemmas.Bool.{or_cases, or_left, or_right}
use Rattle.std.specs.List.{list_any}
use Rattle.call_circles.proofs.Reaching.{any_at, place_of}

module _ {N E : Type 0} (eq : N → N → Bool) (equal : (x y : N) → eq x y ≡ true → x ≡ y) (behind : List E → N → List N) (without : N → List E → List E)
    (same : (a x : N) (es : List E) → eq a x ≡ false → behind (without a es) x ≡ behind es x)
    (gone : (a : N) (es : List E) → behind (without a es) a ≡ [])
    (fewer : (a : N) (es : List E) (i : ℕ) (c : N) → slice_get (behind es a) i ≡ Some c → length (without a es) < length es) where
  abbrev pub path : ℕ → List E → N → N → Bool
  path zero es x g = eq x g
  path (suc k) es x g = eq x g || list_any (λ c. path k es c g) (behind es x)

  path-here : (k : ℕ) (es : List E) (x g : N) → eq x g ≡ true → path k es x g ≡ true
  path-here zero es x g e = e
  path-here (suc k) es x g e = or_left (eq x g) (list_any (λ c. path k es c g) (behind es x)) e

  path-step : (k : ℕ) (es : List E) (x g : N) (i : ℕ) (c : N) → slice_get (behind es x) i ≡ Some c → path k es c g ≡ true → path (suc k) es x g ≡ true
  path-step k es x g i c at h =
      or_right (eq x g) (list_any (λ c. path k es c g) (behind es x)) (any_at (λ c. path k es c g) (behind es x) i c at h)

  path-cases : (k : ℕ) (es : List E) (x g : N) → path (suc k) es x g ≡ true
      → (eq x g ≡ true) ⊎ ((i : ℕ) × (c : N) × (slice_get (behind es x) i ≡ Some c) × (path k es c g ≡ true))
  path-cases k es x g h =
      elim (or_cases (eq x g) (list_any (λ c. path k es c g) (behind es x)) h) [
        | inl e ↦ inl e
        | inr a ↦ inr (place_of (λ c. path k es c g) (behind es x) a)
      ]

  pub path-more : (k m : ℕ) (es : List E) (x g : N) → k ≤ m → path k es x g ≡ true → path m es x g ≡ true
  path-more zero m es x g le h = path-here m es x g h
  path-more (suc k) zero es x g le h = absurd (omega arith)
  path-more (suc k) (suc m) es x g le h =
      elim (path-cases k es x g h) [
        | inl e ↦ path-here (suc m) es x g e
        | inr s ↦ path-step m es x g s.0 s.1 s.2 (path-more k m es s.1 g (omega arith) s.3)
      ]

  -- a way without the edges from a thing, or one from it behind its last visit there
  abbrev Last : ℕ → List E → N → N → N → Type 0
  Last k es a x g = (path k (without a es) x g ≡ true) ⊎ ((i : ℕ) × (c : N) × (slice_get (behind es a) i ≡ Some c) × (path k (without a es) c g ≡ true))

  last-step : (k : ℕ) (es : List E) (a x g : N) (i : ℕ) (c : N) (b : Bool) → eq a x ≡ b → slice_get (behind es x) i ≡ Some c → path k (without a es) c g ≡ true → Last (suc k) es a x g
  last-step k es a x g i c true e at h =
      inr (i, c, subst (λ y. slice_get (behind es y) i ≡ Some c) (sym (equal a x e)) at, path-more k (suc k) (without a es) c g (omega arith) h)
  last-step k es a x g i c false e at h =
      inl (path-step k (without a es) x g i c (subst (λ (ys : List N). slice_get ys i ≡ Some c) (sym (same a x es e)) at) h)

  last-visit : (k : ℕ) (es : List E) (a x g : N) → path k es x g ≡ true → Last k es a x g
  last-visit zero es a x g h = inl h
  last-visit (suc k) es a x g h =
      elim (path-cases k es x g h) [
        | inl e ↦ inl (path-here (suc k) (without a es) x g e)
        | inr s ↦ (elim (last-visit k es a s.1 g s.3) [
          | inl l ↦ last-step k es a x g s.0 s.1 (eq a x) refl s.2 l
          | inr r ↦ inr (r.0, r.1, r.2, path-more k (suc k) (without a es) r.1 g (omega arith) r.3)
        ])
      ]

  -- edges again that were left out
  more-step : (k : ℕ) (es : List E) (a x g : N) (i : ℕ) (c : N) (b : Bool) → eq a x ≡ b → slice_get (behind (without a es) x) i ≡ Some c → path k es c g ≡ true → path (suc k) es x g ≡ true
  more-step k es a x g i c true e at h =
      let none : None ≡ Some c = ap (λ (ys : List N). slice_get ys i) (sym (gone a es) ∙ ap (behind (without a es)) (equal a x e)) ∙ at in cc
  more-step k es a x g i c false e at h =
      path-step k es x g i c (subst (λ (ys : List N). slice_get ys i ≡ Some c) (same a x es e) at) h

  more-edges : (k : ℕ) (es : List E) (a x g : N) → path k (without a es) x g ≡ true → path k es x g ≡ true
  more-edges zero es a x g h = h
  more-edges (suc k) es a x g h =
      elim (path-cases k (without a es) x g h) [
        | inl e ↦ path-here (suc k) es x g e
        | inr s ↦ more-step k es a x g s.0 s.1 (eq a x) refl s.2 (more-edges k es a s.1 g s.3)
      ]

  -- no way needs more steps than there are edges
  no-edges : (k : ℕ) (es : List E) (x g : N) → behind es x ≡ [] → path k es x g ≡ true → eq x g ≡ true
  no-edges zero es x g e h = h
  no-edges (suc k) es x g e h =
      elim (path-cases k es x g h) [
        | inl y ↦ y
        | inr s ↦ (let none : None ≡ Some s.1 = ap (λ (ys : List N). slice_get ys s.0) (sym e) ∙ s.2 in cc)
      ]

  within : (n k : ℕ) (es : List E) (x g : N) → length es ≤ n → path k es x g ≡ true → path n es x g ≡ true
  within zero k es x g le h =
      elim (last-visit k es x x g h) [
        | inl l ↦ path-here zero es x g (no-edges k (without x es) x g (gone x es) l)
        | inr r ↦ absurd (omega (arith, fewer x es r.0 r.1 r.2))
      ]
  within (suc n) k es x g le h =
      elim (last-visit k es x x g h) [
        | inl l ↦ path-here (suc n) es x g (no-edges k (without x es) x g (gone x es) l)
        | inr r ↦ path-step n es x g r.0 r.1 r.2 (more-edges n es x r.1 g (within n k (without x es) r.1 g (omega (arith, fewer x es r.0 r.1 r.2)) r.3))
      ]

  pub path-short : (k : ℕ) (es : List E) (x g : N) → path k es x g ≡ true → path (length es) es x g ≡ true
  path-short k es x g h = within (length es) k es x g (omega arith) h
