-- Tests on places and lists.
use Rattle.std.proofs.Common.{◌≡◌, ℕ, ◌<◌, ◌⊎◌, Bool, true, false, ◌&&◌, ◌==◌, List, [], ◌∷◌, length, slice_index_or, refl, sym, ◌∙◌, subst, inl, inr, arith, zero, suc, le_of_suc-le-suc}
use Rattle.std.proofs.lemmas.Bool.{or_cases, or_left, or_right, and_parts, eqb-true, eq-eqb, false≢true}
use Rattle.std.specs.List.{list_any}
use Rattle.row_machine.specs.Valuation.{Place, Member, is_place, has}
use Rattle.row_machine.specs.Machine.{Process}
use Rattle.row_machine.specs.Order.{follows}

pub is_place-true : (p q : Place) → is_place p q ≡ true → p ≡ q
is_place-true p q e =
    let parts = and_parts _ _ e in
    let s = eqb-true p.signal q.signal parts.0 in
    let b = eqb-true p.bit q.bit parts.1 in
    λ i. record { signal = s i; bit = b i }

pub is_place-same : (q : Place) → is_place q q ≡ true
is_place-same q = (λ i. eq-eqb q.signal q.signal refl i && (q.bit == q.bit)) ∙ eq-eqb q.bit q.bit refl

pub has-member : (ps : List Place) (q : Place) → has ps q ≡ true → Member ps q
unfolding has
has-member [] q e = absurd (false≢true e)
has-member (p ∷ ps) q e =
    elim (or_cases (is_place p q) (has ps q) e) [ inl f ↦ inl (sym (is_place-true p q f)) | inr f ↦ inr (has-member ps q f) ]

pub member-has : (ps : List Place) (q : Place) → Member ps q → has ps q ≡ true
unfolding has
member-has [] q m = elim m [ ]
member-has (p ∷ ps) q (inl e) = or_left (is_place p q) (has ps q) (subst (λ x. is_place x q ≡ true) e (is_place-same q))
member-has (p ∷ ps) q (inr m) = or_right (is_place p q) (has ps q) (member-has ps q m)

-- an element of a list passes the test
pub member-any : {A : Type 0} (t : A → Bool) (xs : List A) (x : A) → Member xs x → t x ≡ true → list_any t xs ≡ true
member-any t [] x m h = elim m [ ]
member-any t (y ∷ ys) x (inl e) h = or_left (t y) (list_any t ys) (subst (λ z. t z ≡ true) e h)
member-any t (y ∷ ys) x (inr m) h = or_right (t y) (list_any t ys) (member-any t ys x m h)

pub any-member : {A : Type 0} (t : A → Bool) (xs : List A) → list_any t xs ≡ true → (x : A) × Member xs x × (t x ≡ true)
any-member t [] e = absurd (false≢true e)
any-member t (y ∷ ys) e =
    elim (or_cases (t y) (list_any t ys) e) [
      | inl f ↦ (y, inl refl, f)
      | inr f ↦ (let r = any-member t ys f in (r.0, inr r.1, r.2))
    ]

pub member_at : {A : Type 0} (xs : List A) (k : ℕ) (d : A) → k < length xs → Member xs (slice_index_or xs k d)
member_at [] k d h = absurd (omega arith)
member_at (x ∷ xs) zero d h = inl refl
member_at (x ∷ xs) (suc k) d h = inr (member_at xs k d (le_of_suc-le-suc h))

-- a process follows the writers of its reads
pub follows_writer : (p q : Process) (r : Place) → has p.reads r ≡ true → has q.writes r ≡ true → follows p q ≡ true
follows_writer p q r reads writes = member-any (has q.writes) p.reads r (has-member p.reads r reads) writes

pub true_or_false : (b : Bool) → (b ≡ true) ⊎ (b ≡ false)
true_or_false true = inl refl
true_or_false false = inr refl

pub clash : {C : Type 0} (b : Bool) → b ≡ true → b ≡ false → C
clash b t f = absurd (false≢true (sym f ∙ t))

-- the bit by which a process follows another
pub followed_bit : (p q : Process) → follows p q ≡ true → (r : Place) × (has p.reads r ≡ true) × (has q.writes r ≡ true)
followed_bit p q f = let r = any-member (has q.writes) p.reads f in (r.0, member-has p.reads r.0 r.1, r.2)
