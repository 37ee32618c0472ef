-- Laws of calls that follow each other.
use Rattle.std.proofs.Common.{◌≡◌, ◌⊎◌, ℕ, zero, suc, ◌+◌, ◌≤◌, Bool, true, ◌==◌, List, [], ◌∷◌, map, Option, Some, None, slice_get, refl, sym, ap, ◌∙◌, subst, inl, inr, arith}
use Rattle.std.proofs.lemmas.Bool.{or_cases, or_left, or_right, and_parts, and_from, eqb-true, eq-eqb, false≢true}
use Rattle.std.specs.List.{list_any, list_all}
use Rattle.call_circles.specs.declared.calls.Call.{Call}
use Rattle.call_circles.specs.Calls.{is_from, goes_to, reaches}
use Rattle.call_circles.specs.Ways.{turned_from, turned}

pub any_at : {A : Type 0} (t : A → Bool) (xs : List A) (i : ℕ) (x : A) → slice_get xs i ≡ Some x → t x ≡ true → list_any t xs ≡ true
any_at t [] i x e h = cc
any_at t (y ∷ ys) zero x e h = let same : x ≡ y = cc in or_left (t y) (list_any t ys) (subst (λ z. t z ≡ true) same h)
any_at t (y ∷ ys) (suc i) x e h = or_right (t y) (list_any t ys) (any_at t ys i x e h)

pub place_of : {A : Type 0} (t : A → Bool) (xs : List A) → list_any t xs ≡ true → (i : ℕ) × (x : A) × (slice_get xs i ≡ Some x) × (t x ≡ true)
place_of t [] e = absurd (false≢true e)
place_of t (y ∷ ys) e =
    elim (or_cases (t y) (list_any t ys) e) [
      | inl h ↦ (0, y, refl, h)
      | inr h ↦ (let r = place_of t ys h in (suc r.0, r.1, r.2, r.3))
    ]

pub all_at : {A : Type 0} (t : A → Bool) (xs : List A) (i : ℕ) (x : A) → list_all t xs ≡ true → slice_get xs i ≡ Some x → t x ≡ true
all_at t [] i x all e = cc
all_at t (y ∷ ys) zero x all e = let same : y ≡ x = cc in subst (λ z. t z ≡ true) same (and_parts (t y) (list_all t ys) all).0
all_at t (y ∷ ys) (suc i) x all e = all_at t ys i x (and_parts (t y) (list_all t ys) all).1 e

pub from_true : (f : Option ℕ) (r : ℕ) → is_from f r ≡ true → f ≡ Some r
from_true None r e = absurd (false≢true e)
from_true (Some s) r e = ap Some (eqb-true s r e)

pub from_some : (f : Option ℕ) (r : ℕ) → f ≡ Some r → is_from f r ≡ true
from_some f r e = subst (λ g. is_from g r ≡ true) (sym e) (eq-eqb r r refl)

-- no call, and a first call
pub reaches-here : (cs : List Call) (k r g : ℕ) → r ≡ g → reaches cs k r g ≡ true
reaches-here cs zero r g e = eq-eqb r g e
reaches-here cs (suc k) r g e = or_left (r == g) (list_any (goes_to (λ next. reaches cs k next g) r) cs) (eq-eqb r g e)

pub reaches-before : (cs : List Call) (k i r g : ℕ) (c : Call) → slice_get cs i ≡ Some c → c.from ≡ Some r → reaches cs k c.to g ≡ true → reaches cs (suc k) r g ≡ true
reaches-before cs k i r g c at from h =
    or_right (r == g) (list_any (goes_to (λ next. reaches cs k next g) r) cs)
    (any_at (goes_to (λ next. reaches cs k next g) r) cs i c at (and_from (is_from c.from r) (reaches cs k c.to g) (from_some c.from r from) h))

pub reaches-cases : (cs : List Call) (k r g : ℕ) → reaches cs (suc k) r g ≡ true
    → (r ≡ g) ⊎ ((i : ℕ) × (c : Call) × (slice_get cs i ≡ Some c) × (c.from ≡ Some r) × (reaches cs k c.to g ≡ true))
reaches-cases cs k r g h =
    elim (or_cases (r == g) (list_any (goes_to (λ next. reaches cs k next g) r) cs) h) [
      | inl e ↦ inl (eqb-true r g e)
      | inr a ↦ (let p = place_of (goes_to (λ next. reaches cs k next g) r) cs a in
          let parts = and_parts (is_from p.1.from r) (reaches cs k p.1.to g) p.3 in
          inr (p.0, p.1, p.2, from_true p.1.from r parts.0, parts.1))
    ]

-- more calls than needed
pub reaches-more : (cs : List Call) (k m r g : ℕ) → k ≤ m → reaches cs k r g ≡ true → reaches cs m r g ≡ true
reaches-more cs zero m r g le h = reaches-here cs m r g (eqb-true r g h)
reaches-more cs (suc k) zero r g le h = absurd (omega arith)
reaches-more cs (suc k) (suc m) r g le h =
    elim (reaches-cases cs k r g h) [
      | inl e ↦ reaches-here cs (suc m) r g e
      | inr s ↦ reaches-before cs m s.0 r g s.1 s.2 s.3 (reaches-more cs k m s.1.to g (omega arith) s.4)
    ]

-- a last call
pub reaches-behind : (cs : List Call) (k i r x : ℕ) (c : Call) → slice_get cs i ≡ Some c → c.from ≡ Some x → reaches cs k r x ≡ true → reaches cs (suc k) r c.to ≡ true
reaches-behind cs zero i r x c at from h =
    reaches-before cs zero i r c.to c at (from ∙ ap Some (sym (eqb-true r x h))) (reaches-here cs zero c.to c.to refl)
reaches-behind cs (suc k) i r x c at from h =
    elim (reaches-cases cs k r x h) [
      | inl e ↦ reaches-before cs (suc k) i r c.to c at (from ∙ ap Some (sym e)) (reaches-here cs (suc k) c.to c.to refl)
      | inr s ↦ reaches-before cs (suc k) s.0 r c.to s.1 s.2 s.3 (reaches-behind cs k i s.1.to x c at from s.4)
    ]

-- calls behind calls
pub reaches-both : (cs : List Call) (k m n r x g : ℕ) → k + m ≤ n → reaches cs k r x ≡ true → reaches cs m x g ≡ true → reaches cs n r g ≡ true
reaches-both cs zero m n r x g le h l =
    reaches-more cs m n r g (omega arith) (subst (λ y. reaches cs m y g ≡ true) (sym (eqb-true r x h)) l)
reaches-both cs (suc k) m zero r x g le h l = absurd (omega arith)
reaches-both cs (suc k) m (suc n) r x g le h l =
    elim (reaches-cases cs k r x h) [
      | inl e ↦ reaches-more cs m (suc n) r g (omega arith) (subst (λ y. reaches cs m y g ≡ true) (sym e) l)
      | inr s ↦ reaches-before cs n s.0 r g s.1 s.2 s.3 (reaches-both cs k m n s.1.to x g (omega arith) s.4 l)
    ]

-- calls turned round
turned_at : (cs : List Call) (i : ℕ) (d : Call) → slice_get (map turned cs) i ≡ Some d → (c : Call) × (slice_get cs i ≡ Some c) × (turned c ≡ d)
turned_at [] i d e = cc
turned_at (c ∷ cs) zero d e = (c, refl, (cc))
turned_at (c ∷ cs) (suc i) d e = turned_at cs i d e

turned_ends : (c : Call) (f : Option ℕ) (r : ℕ) → c.from ≡ f → (turned_from c f).from ≡ Some r → (x : ℕ) × (f ≡ Some x) × (c.to ≡ r) × ((turned_from c f).to ≡ x)
turned_ends c None r e h = cc
turned_ends c (Some x) r e h = (x, refl, (cc), refl)

pub turned-reaches : (cs : List Call) (k r g : ℕ) → reaches (map turned cs) k r g ≡ true → reaches cs k g r ≡ true
turned-reaches cs zero r g h = eq-eqb g r (sym (eqb-true r g h))
turned-reaches cs (suc k) r g h =
    elim (reaches-cases (map turned cs) k r g h) [
      | inl e ↦ reaches-here cs (suc k) g r (sym e)
      | inr s ↦ (let c = turned_at cs s.0 s.1 s.2 in
          let t = turned_ends c.0 c.0.from r refl (ap (λ (d : Call). d.from) c.2 ∙ s.3) in
          let to : s.1.to ≡ t.0 = ap (λ (d : Call). d.to) (sym c.2) ∙ t.3 in
          subst (λ y. reaches cs (suc k) g y ≡ true) t.2
          (reaches-behind cs k s.0 g t.0 c.0 c.1 t.1 (subst (λ y. reaches cs k g y ≡ true) to (turned-reaches cs k s.1.to g s.4))))
    ]
