-- Each move on the rows makes their weight smaller.
use Rattle.std.proofs.Common.{◌≡◌, ◌+◌, ◌*◌, ◌≤◌, ◌<◌, ◌⊎◌, inl, inr, ℕ, zero, suc, List, [], ◌∷◌, Option, Some, None, Bool, true, false, ◌&&◌, cond, refl, sym, ap, subst, drop, slice_get, length, arith, is_some}
use Rattle.std.proofs.Math.Nat.{mul-le-mul_right, mul-le-mul_left, suc-mul}
use Rattle.ll_engine.specs.declared.table.Part.{Part}
use Rattle.ll_engine.specs.declared.table.Part.TheVariants.{Term, Non, Maybe, Many, Chain}
use Rattle.ll_engine.specs.declared.table.Row.{Row}
use Rattle.ll_engine.specs.declared.tables.Head.{Head}
use Rattle.ll_engine.specs.Grammar.{named, is_optional, is_repeated, IsRowOf, IsBlank}
use Rattle.ll_engine.specs.Class.{StartsWith}
use Rattle.ll_engine.specs.Knows.{Knows, row_blank, rank}
use Rattle.ll_engine.specs.Machine.{Level, parts_of, passed, entered, skipped, closed}
use Rattle.ll_engine.specs.Weight.{can_skip, skips, size, grown, price, cost, lead, weight}

grown_pos : (n k : ℕ) → 0 < n → 0 < grown n k
grown_pos n zero h = omega arith
grown_pos n (suc k) h = let i = grown_pos n k h in let j : grown n k * 1 ≤ grown n k * n = mul-le-mul_left (grown n k) h in omega (arith, i, j)

grown_more : (n k : ℕ) → 0 < n → grown n k ≤ grown n (suc k)
grown_more n k h = let j : 1 * grown n k ≤ n * grown n k = mul-le-mul_right (grown n k) h in omega (arith, j)

grown_mono : (n j k : ℕ) → 0 < n → j ≤ k → grown n j ≤ grown n k
grown_mono n j zero h l = let e : j ≡ 0 = omega arith in rw e (omega arith)
grown_mono n j (suc k) h l =
    elim (split j k l) [
      | inl e ↦ rw e (omega arith)
      | inr m ↦ let a = grown_mono n j k h m in let b = grown_more n k h in omega (arith, a, b)
    ]
  where
    split : (j k : ℕ) → j ≤ suc k → (j ≡ suc k) ⊎ (j ≤ k)
    split j k l = grind arith

row_size : (t : List Row) (i : ℕ) (row : Row) → slice_get t i ≡ Some row → length row.parts ≤ size t
row_size [] i row e = cc
row_size (r ∷ rs) zero row e = let f : r ≡ row = cc in rw (← f) (omega arith)
row_size (r ∷ rs) (suc i) row e = let m = row_size rs i row e in omega (arith, m)

module _ (t : List Row) (heads : List Head) (k : Knows t heads) where
  some_blank : (h : ℕ) (o : Option ℕ) → row_blank heads h ≡ o → is_some o ≡ true → IsBlank t (Non h ∷ [])
  some_blank h None e f = cc
  some_blank h (Some i) e f = let r = k.blank h i e in IsBlank.empty refl r.1 r.2 IsBlank.nothing

  pub skip_blank : (p : Part) → can_skip heads p ≡ true → IsBlank t (p ∷ [])
  skip_blank (Term a) e = cc
  skip_blank (Non h) e = some_blank h (row_blank heads h) refl e
  skip_blank (Maybe h) e = IsBlank.skipped refl IsBlank.nothing
  skip_blank (Many h) e = IsBlank.skipped refl IsBlank.nothing
  skip_blank (Chain h) e = IsBlank.skipped refl IsBlank.nothing

  and_both : (a b : Bool) → (a && b) ≡ true → (a ≡ true) × (b ≡ true)
  and_both true b e = (refl, e)
  and_both false b e = cc

  pub skips_blank : (ps : List Part) → skips heads ps ≡ true → IsBlank t ps
  skips_blank [] e = IsBlank.nothing
  skips_blank (p ∷ ps) e =
      let h = and_both (can_skip heads p) (skips heads ps) e in
      join (skip_blank p h.0) (skips_blank ps h.1)
    where
      join : IsBlank t (p ∷ []) → IsBlank t ps → IsBlank t (p ∷ ps)
      join (IsBlank.skipped o b) c = IsBlank.skipped o c
      join (IsBlank.empty f s b d) c = IsBlank.empty f s b c

  pub head_skip : (h i : ℕ) (row : Row) → IsRowOf t h i row → IsBlank t row.parts → (o : Option ℕ)
      → row_blank heads h ≡ o → is_some o ≡ true
  head_skip h i row s b None e = absurd (k.not_blank h i row e s b)
  head_skip h i row s b (Some j) e = refl

  pub blank_skip : (p : Part) (h i : ℕ) (row : Row) → named p ≡ Some h → IsRowOf t h i row → IsBlank t row.parts
      → can_skip heads p ≡ true
  blank_skip (Term a) h i row f s b = cc
  blank_skip (Non a) h i row f s b =
      let e : a ≡ h = cc in
      head_skip a i row (subst (λ q. IsRowOf t q i row) (sym e) s) b (row_blank heads a) refl
  blank_skip (Maybe a) h i row f s b = refl
  blank_skip (Many a) h i row f s b = refl
  blank_skip (Chain a) h i row f s b = refl

  cost_named : (p : Part) (h : ℕ) → named p ≡ Some h → cost t heads p ≡ price t heads h
  cost_named (Term a) h f = cc
  cost_named (Non a) h f = let e : a ≡ h = cc in ap (price t heads) e
  cost_named (Maybe a) h f = let e : a ≡ h = cc in ap (price t heads) e
  cost_named (Many a) h f = let e : a ≡ h = cc in ap (price t heads) e
  cost_named (Chain a) h f = let e : a ≡ h = cc in ap (price t heads) e

  base : 0 < suc (suc (size t))
  base = omega arith

  cost_bound : (p : Part) (r : ℕ) → ((g : ℕ) → named p ≡ Some g → rank heads g < r)
      → cost t heads p ≤ grown (suc (suc (size t))) r
  cost_bound (Term a) r f = grown_pos (suc (suc (size t))) r base
  cost_bound (Non a) r f = grown_mono (suc (suc (size t))) (suc (rank heads a)) r base (f a refl)
  cost_bound (Maybe a) r f = grown_mono (suc (suc (size t))) (suc (rank heads a)) r base (f a refl)
  cost_bound (Many a) r f = grown_mono (suc (suc (size t))) (suc (rank heads a)) r base (f a refl)
  cost_bound (Chain a) r f = grown_mono (suc (suc (size t))) (suc (rank heads a)) r base (f a refl)

  lead_sum : (c : Bool) (a b n x : ℕ) → a ≤ x → (c ≡ true → b ≤ n * x) → a + cond c b 0 ≤ suc n * x
  lead_sum true a b n x h f = let g = f refl in let e = suc-mul n x in omega (arith, e, g)
  lead_sum false a b n x h f = let e = suc-mul n x in omega (arith, e)

  lead_bound : (r : ℕ) (ps : List Part) → ((g : ℕ) → StartsWith t ps g → rank heads g < r)
      → lead t heads ps ≤ length ps * grown (suc (suc (size t))) r
  lead_bound r [] f = omega arith
  lead_bound r (p ∷ ps) f =
      lead_sum (can_skip heads p) (cost t heads p) (lead t heads ps) (length ps) (grown (suc (suc (size t))) r)
      (cost_bound p r (λ g e. f g (StartsWith.first e)))
      (λ c. lead_bound r ps (λ g s. f g (StartsWith.behind (skip_blank p c) s)))

  below_price : (n m x : ℕ) → n ≤ m → 0 < x → suc (n * x) < suc (suc m) * x
  below_price n m x h p =
      let a : n * x ≤ m * x = mul-le-mul_right x h in
      let b = suc-mul (suc m) x in
      let c = suc-mul m x in
      omega (arith, a, b, c)

  lead_row : (h i : ℕ) (row : Row) → IsRowOf t h i row → suc (lead t heads row.parts) < price t heads h
  lead_row h i row s =
      let x = grown (suc (suc (size t))) (rank heads h) in
      let a = lead_bound (rank heads h) row.parts (λ g w. k.ranked h g i row s w) in
      let b = below_price (length row.parts) (size t) x (row_size t i row s.is_there) (grown_pos (suc (suc (size t))) (rank heads h) base) in
      omega (arith, a, b)

  enter_sum : (more can rest : Bool) (l p d w v : ℕ) → suc l < p
      → (more ≡ true → (can ≡ true) × (v ≡ suc d + cond rest w 0))
      → suc l + cond more v 0 < suc (p + cond can d 0) + cond (can && rest) w 0
  enter_sum false can rest l p d w v h f = omega arith
  enter_sum true true rest l p d w v h f = let e = (f refl).1 in omega (arith, e)
  enter_sum true false rest l p d w v h f = let e = (f refl).0 in cc

  passed_once : (p : Part) (ps : List Part) (l : Level) (ls : List Level) → l.left ≡ p ∷ ps → (is_repeated p ≡ true → ⊥)
      → weight t heads (passed p l ∷ ls) ≡ suc (lead t heads ps) + cond (skips heads ps) (weight t heads ls) 0
  passed_once (Term a) ps l ls e f = ap (λ q. suc (lead t heads q) + cond (skips heads q) (weight t heads ls) 0) (ap (drop 1) e)
  passed_once (Non a) ps l ls e f = ap (λ q. suc (lead t heads q) + cond (skips heads q) (weight t heads ls) 0) (ap (drop 1) e)
  passed_once (Maybe a) ps l ls e f = ap (λ q. suc (lead t heads q) + cond (skips heads q) (weight t heads ls) 0) (ap (drop 1) e)
  passed_once (Many a) ps l ls e f = absurd (f refl)
  passed_once (Chain a) ps l ls e f = absurd (f refl)

  pub enter_falls : (l : Level) (ls : List Level) (p : Part) (ps : List Part) (h i : ℕ) (row : Row)
      → l.left ≡ p ∷ ps → named p ≡ Some h → IsRowOf t h i row
      → (is_repeated p ≡ true → IsBlank t row.parts → ⊥)
      → weight t heads (entered t i p (l ∷ ls)) < weight t heads (l ∷ ls)
  enter_falls l ls p ps h i row e f s n =
      let w = weight t heads ls in
      let above = enter_sum (skips heads row.parts) (can_skip heads p) (skips heads ps) (lead t heads row.parts)
      (cost t heads p) (lead t heads ps) w (weight t heads (passed p l ∷ ls))
      (subst (λ q. suc (lead t heads row.parts) < q) (sym (cost_named p h f)) (lead_row h i row s))
      (λ c. (
        blank_skip p h i row f s (skips_blank row.parts c),
        passed_once p ps l ls e (λ r. n r (skips_blank row.parts c)),
      )) in
      subst (λ q. suc (lead t heads (parts_of q)) + cond (skips heads (parts_of q)) (weight t heads (passed p l ∷ ls)) 0 < weight t heads (l ∷ ls))
      (sym s.is_there)
      (subst (λ q. suc (lead t heads row.parts) + cond (skips heads row.parts) (weight t heads (passed p l ∷ ls)) 0 < suc (lead t heads q) + cond (skips heads q) w 0)
      (sym e) above)

  optional_skip : (p : Part) → is_optional p ≡ true → (can_skip heads p ≡ true) × (0 < cost t heads p)
  optional_skip (Term a) e = cc
  optional_skip (Non a) e = cc
  optional_skip (Maybe a) e = (refl, grown_pos (suc (suc (size t))) (suc (rank heads a)) base)
  optional_skip (Many a) e = (refl, grown_pos (suc (suc (size t))) (suc (rank heads a)) base)
  optional_skip (Chain a) e = (refl, grown_pos (suc (suc (size t))) (suc (rank heads a)) base)

  skip_sum : (c s : Bool) (p d w : ℕ) → c ≡ true → 0 < p → suc d + cond s w 0 < suc (p + cond c d 0) + cond (c && s) w 0
  skip_sum true s p d w e h = omega arith
  skip_sum false s p d w e h = cc

  pub skip_falls : (l : Level) (ls : List Level) (p : Part) (ps : List Part) → l.left ≡ p ∷ ps → is_optional p ≡ true
      → weight t heads (skipped (l ∷ ls)) < weight t heads (l ∷ ls)
  skip_falls l ls p ps e o =
      let w = weight t heads ls in
      let c = optional_skip p o in
      subst (λ q. suc (lead t heads (drop 1 q)) + cond (skips heads (drop 1 q)) w 0 < suc (lead t heads q) + cond (skips heads q) w 0)
      (sym e) (skip_sum (can_skip heads p) (skips heads ps) (cost t heads p) (lead t heads ps) w c.0 c.1)

  pub close_falls : (l m : Level) (ms : List Level) → l.left ≡ []
      → weight t heads (closed (l ∷ m ∷ ms)) < weight t heads (l ∷ m ∷ ms)
  close_falls l m ms e =
      let w = weight t heads (m ∷ ms) in
      subst (λ q. w < suc (lead t heads q) + cond (skips heads q) w 0) (sym e) (omega arith)
