-- What is reached in so many steps.
use Rattle.std.proofs.Common.{◌≡◌, ◌⊎◌, inl, inr, ℕ, zero, suc, ◌+◌, ◌<◌, Bool, true, ◌&&◌, ◌==◌, List, [], ◌∷◌, length, refl, subst, arith}
use Rattle.std.proofs.lemmas.Bool.{and_parts, and_from, or_cases, or_left, or_right, eqb-true, eq-eqb, false≢true}
use Rattle.row_machine.specs.Valuation.{Member}
use Rattle.row_machine.proofs.Basics.{any-member, member-any}
use Rattle.reach_marks.specs.Reach.{is_in, leads, reaches, list_at}

pub in-member : (ns : List ℕ) (n : ℕ) → is_in ns n ≡ true → Member ns n
in-member ns n h =
    let r = any-member (λ (m : ℕ). m == n) ns h in
    subst (Member ns) (eqb-true r.0 n r.2) r.1

pub member-in : (ns : List ℕ) (n : ℕ) → Member ns n → is_in ns n ≡ true
member-in ns n m = member-any (λ (k : ℕ). k == n) ns n m (eq-eqb n n refl)

pub leads-from : (test : ℕ → Bool) (k : ℕ) (next : List (List ℕ)) (n g : ℕ) → g < length next → test (k + g) ≡ true → Member (list_at next g) n → leads test k next n ≡ true
leads-from test k [] n g low h m = absurd (omega arith)
leads-from test k (ns ∷ next) n zero low h m =
    let at : k + 0 ≡ k = omega arith in
    or_left (is_in ns n && test k) (leads test (suc k) next n) (and_from (is_in ns n) (test k) (member-in ns n m) (subst (λ j. test j ≡ true) at h))
leads-from test k (ns ∷ next) n (suc g) low h m =
    let at : k + suc g ≡ suc k + g = omega arith in
    or_right (is_in ns n && test k) (leads test (suc k) next n) (leads-from test (suc k) next n g (omega (arith, low)) (subst (λ j. test j ≡ true) at h) m)

pub leads-back : (test : ℕ → Bool) (k : ℕ) (next : List (List ℕ)) (n : ℕ) → leads test k next n ≡ true → (g : ℕ) × (g < length next) × (test (k + g) ≡ true) × Member (list_at next g) n
leads-back test k [] n h = absurd (false≢true h)
leads-back test k (ns ∷ next) n h = elim (or_cases (is_in ns n && test k) (leads test (suc k) next n) h) [
  | inl here ↦ (let p = and_parts (is_in ns n) (test k) here in
      let at : k ≡ k + 0 = omega arith in
      (0, omega arith, subst (λ j. test j ≡ true) at p.1, in-member ns n p.0))
  | inr more ↦ (let r = leads-back test (suc k) next n more in
      let at : suc k + r.0 ≡ k + suc r.0 = omega arith in
      let low = r.1 in
      (suc r.0, omega (arith, low), subst (λ j. test j ≡ true) at r.2, r.3))
]

leads-more : (s t : ℕ → Bool) → ((m : ℕ) → s m ≡ true → t m ≡ true) → (k : ℕ) (next : List (List ℕ)) (n : ℕ) → leads s k next n ≡ true → leads t k next n ≡ true
leads-more s t h k [] n l = l
leads-more s t h k (ns ∷ next) n l = elim (or_cases (is_in ns n && s k) (leads s (suc k) next n) l) [
  | inl here ↦ (let p = and_parts (is_in ns n) (s k) here in or_left (is_in ns n && t k) (leads t (suc k) next n) (and_from (is_in ns n) (t k) p.0 (h k p.1)))
  | inr more ↦ or_right (is_in ns n && t k) (leads t (suc k) next n) (leads-more s t h (suc k) next n more)
]

module _ (roots : List ℕ) (next : List (List ℕ)) where
  pub reaches-root : (depth n : ℕ) → Member roots n → reaches roots next depth n ≡ true
  unfolding reaches
  reaches-root zero n m = member-in roots n m
  reaches-root (suc depth) n m = or_left (is_in roots n) (leads (reaches roots next depth) 0 next n) (member-in roots n m)

  pub reaches-next : (depth g n : ℕ) → g < length next → reaches roots next depth g ≡ true → Member (list_at next g) n → reaches roots next (suc depth) n ≡ true
  unfolding reaches
  reaches-next depth g n low h m =
      let at : g ≡ 0 + g = omega arith in
      or_right (is_in roots n) (leads (reaches roots next depth) 0 next n) (leads-from (reaches roots next depth) 0 next n g low (subst (λ j. reaches roots next depth j ≡ true) at h) m)

  -- how a number is reached
  pub reaches-zero : (n : ℕ) → reaches roots next zero n ≡ true → Member roots n
  unfolding reaches
  reaches-zero n h = in-member roots n h

  pub reaches-suc : (depth n : ℕ) → reaches roots next (suc depth) n ≡ true → Member roots n ⊎ ((g : ℕ) × (g < length next) × (reaches roots next depth g ≡ true) × Member (list_at next g) n)
  unfolding reaches
  reaches-suc depth n h = elim (or_cases (is_in roots n) (leads (reaches roots next depth) 0 next n) h) [
    | inl root ↦ inl (in-member roots n root)
    | inr more ↦ inr (let r = leads-back (reaches roots next depth) 0 next n more in
        let at : 0 + r.0 ≡ r.0 = omega arith in
        (r.0, r.1, subst (λ j. reaches roots next depth j ≡ true) at r.2, r.3))
  ]

  reaches-later : (depth n : ℕ) → reaches roots next depth n ≡ true → reaches roots next (suc depth) n ≡ true
  reaches-later zero n h = reaches-root 1 n (reaches-zero n h)
  reaches-later (suc depth) n h = elim (reaches-suc depth n h) [
    | inl root ↦ reaches-root (suc (suc depth)) n root
    | inr r ↦ reaches-next (suc depth) r.0 n r.1 (reaches-later depth r.0 r.2) r.3
  ]

  pub reaches-more : (more depth n : ℕ) → reaches roots next depth n ≡ true → reaches roots next (more + depth) n ≡ true
  reaches-more zero depth n h = let at : depth ≡ 0 + depth = omega arith in subst (λ j. reaches roots next j n ≡ true) at h
  reaches-more (suc more) depth n h =
      let at : suc (more + depth) ≡ suc more + depth = omega arith in
      subst (λ j. reaches roots next j n ≡ true) at (reaches-later (more + depth) n (reaches-more more depth n h))
