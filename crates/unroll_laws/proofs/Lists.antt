-- Lists that are whole were whole before.
use Rattle.std.proofs.Common.{◌≡◌, ℕ, zero, suc, ◌+◌, arith, List, Option, Some, None, refl, ap, sym, ◌∙◌, subst}
use Rattle.sv_types.specs.declared.expression.Expr.{Expr}
use Rattle.sv_types.specs.Surroundings.{Sight}
use Rattle.design_breaks.specs.declared.Unrolled.{Unrolled}
use Rattle.design_breaks.specs.Indices.{lesser, long_in}
use Rattle.design_breaks.specs.Unrolling.{Unrolls, onward, one_less, found, valuing, with_left, uncounted, most_statements}
use Rattle.loop_laws.specs.Walks.{one_more, see}
use Rattle.loop_laws.proofs.Rows.{onward-stops, onward-goes}
use Rattle.unroll_laws.specs.Whole.{Whole}

pub some-none : {A : Type 0} (o : Option ℕ) (n : ℕ) → o ≡ None → o ≡ Some n → A
some-none o n none some = absurd (differ (sym some ∙ none))
  where
    differ : Some n ≡ None → ⊥
    differ e = cc

pub zero-more : (n : ℕ) → 0 + n ≡ n
zero-more n = omega arith

pub one-more-is : (n : ℕ) → suc n ≡ 1 + n
one-more-is n = omega arith

pub suc-more : (a n : ℕ) → suc (a + n) ≡ suc a + n
suc-more a n = omega arith

pub some-same : (a b : ℕ) → Some a ≡ Some b → a ≡ b
some-same a b is = cc

-- what was added was added
pub went : {P : Type 0} (f : Unrolls) (k : Sight) (u : Unrolled) (n : ℕ) → Whole (onward f k u) n → ((l : ℕ) → u.left ≡ Some l → Whole (f k u) n → P) → P
went {P} f k u n w go = by u.left refl
  where
    by : (o : Option ℕ) → u.left ≡ o → P
    by None is = some-none u.left n is (sym (ap (λ (v : Unrolled). v.left) (onward-stops f k u is)) ∙ w.left)
    by (Some l) is = go l is (subst (λ v. Whole v n) (onward-goes f k u l is) w)

lesser-some : (a : Option ℕ) (at : ℕ) → lesser a (Some at) ≡ None → ⊥
lesser-some None at e = cc
lesser-some (Some x) at e = cc

-- nothing was found
pub whole-found : (o : Option ℕ) (u : Unrolled) (n : ℕ) → Whole (found o u) n → (o ≡ None) × Whole u n
whole-found None u n w = (refl, w)
whole-found (Some at) u n w = absurd (lesser-some u.endless at w.none)

pub whole-see : (es : List Expr) (k : Sight) (u : Unrolled) (n : ℕ) → Whole (see es k u) n → (long_in es k ≡ None) × Whole u n
whole-see es k u n w = went (valuing es) k u n w (λ l is v. whole-found (long_in es k) u n v)

-- one more statement
pub whole-more : (u : Unrolled) (n : ℕ) → Whole (one_more u) n → Whole u (suc n)
whole-more u n w = record { left = more u.left w.left; none = w.none }
  where
    more : (o : Option ℕ) → one_less o ≡ Some n → o ≡ Some (suc n)
    more None e = some-none None n refl e
    more (Some zero) e = some-none None n refl e
    more (Some (suc m)) e = ap (λ x. Some (suc x)) (some-same m n e)

-- statements that don't count
pub whole-left : (o : Option ℕ) (v : Unrolled) (n : ℕ) → Whole (with_left o v) n → ((m : ℕ) × Whole v m) × (o ≡ Some n)
whole-left o v n w = by v.left refl
  where
    set : Option ℕ → Unrolled
    set p = elim p [ None ↦ v | Some m ↦ record v { left = o } ]

    by : (p : Option ℕ) → v.left ≡ p → ((m : ℕ) × Whole v m) × (o ≡ Some n)
    by None is = some-none v.left n is (sym (ap (λ (x : Unrolled). x.left) (ap set is)) ∙ w.left)
    by (Some m) is = let x = subst (λ y. Whole y n) (ap set is) w in ((m, record { left = is; none = x.none }), x.left)

pub whole-uncounted : (f : Unrolls) (k : Sight) (u : Unrolled) (n : ℕ) → Whole (uncounted f k u) n → ((m : ℕ) × Whole (f k (record u { left = Some most_statements })) m) × (u.left ≡ Some n)
whole-uncounted f k u n w = whole-left u.left (f k (record u { left = Some most_statements })) n w

pub as-many : (u : Unrolled) (a b : ℕ) → a ≡ b → Whole u a → Whole u b
as-many u a b same w = subst (Whole u) same w
