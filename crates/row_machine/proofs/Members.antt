-- Elements of lists, and lists with one writer, for the machines of crates above.
use Rattle.std.proofs.Common.{◌≡◌, ℕ, zero, suc, ◌<◌, ◌⊎◌, Bool, true, false, cond, filter, List, [], ◌∷◌, ◌++◌, map, length, slice_index_or, All, refl, sym, ap, ◌∙◌, subst, inl, inr, arith, le_of_suc-le-suc}
use Rattle.std.specs.List.{AllZip}
use Rattle.row_machine.specs.Valuation.{Place, Member, has, NoneWrites, OneWriter}
use Rattle.row_machine.proofs.Basics.{member_at, true_or_false}

-- an element stands somewhere
pub member-place : {A : Type 0} (xs : List A) (x : A) → Member xs x → (k : ℕ) × (k < length xs) × (slice_index_or xs k x ≡ x)
member-place [] x m = elim m [ ]
member-place (y ∷ ys) x (inl e) = (0, omega arith, sym e)
member-place (y ∷ ys) x (inr m) = let r = member-place ys x m in (suc r.0, omega (arith, r.1), r.2)

-- what holds of each element holds of this one
pub all-member : {A : Type 0} (P : A → Type 0) (xs : List A) → All P xs → (x : A) → Member xs x → P x
all-member P xs all x m = let r = member-place xs x m in subst P r.2 (all r.0 x r.1)

pub member-map : {A B : Type 0} (f : A → B) (xs : List A) (x : A) → Member xs x → Member (map f xs) (f x)
member-map f [] x m = elim m [ ]
member-map f (y ∷ ys) x (inl e) = inl (ap f e)
member-map f (y ∷ ys) x (inr m) = inr (member-map f ys x m)

pub map-member : {A B : Type 0} (f : A → B) (xs : List A) (y : B) → Member (map f xs) y → (x : A) × Member xs x × (y ≡ f x)
map-member f [] y m = elim m [ ]
map-member f (x ∷ xs) y (inl e) = (x, inl refl, e)
map-member f (x ∷ xs) y (inr m) = let r = map-member f xs y m in (r.0, inr r.1, r.2)

pub append-member : {A : Type 0} (xs ys : List A) (x : A) → Member (xs ++ ys) x → Member xs x ⊎ Member ys x
append-member [] ys x m = inr m
append-member (y ∷ xs) ys x (inl e) = inl (inl e)
append-member (y ∷ xs) ys x (inr m) = elim (append-member xs ys x m) [ inl l ↦ inl (inr l) | inr r ↦ inr r ]

pub member-front : {A : Type 0} (xs ys : List A) (x : A) → Member xs x → Member (xs ++ ys) x
member-front [] ys x m = elim m [ ]
member-front (y ∷ xs) ys x (inl e) = inl e
member-front (y ∷ xs) ys x (inr m) = inr (member-front xs ys x m)

pub member-back : {A : Type 0} (xs ys : List A) (x : A) → Member ys x → Member (xs ++ ys) x
member-back [] ys x m = m
member-back (y ∷ xs) ys x m = inr (member-back xs ys x m)

pub member-filter : {A : Type 0} (test : A → Bool) (xs : List A) (x : A) → Member xs x → test x ≡ true → Member (filter test xs) x
member-filter test [] x m t = elim m [ ]
member-filter test (y ∷ ys) x (inl e) t =
    subst (λ b. Member (cond b (y ∷ filter test ys) (filter test ys)) x) (sym ((λ i. test (sym e i)) ∙ t)) (inl e)
member-filter test (y ∷ ys) x (inr m) t = either (test y) (member-filter test ys x m t)
  where
    either : (b : Bool) → Member (filter test ys) x → Member (cond b (y ∷ filter test ys) (filter test ys)) x
    either true k = inr k
    either false k = k

pub filter-member : {A : Type 0} (test : A → Bool) (xs : List A) (x : A) → Member (filter test xs) x → Member xs x × (test x ≡ true)
filter-member test [] x m = elim m [ ]
filter-member test (y ∷ ys) x m = either (true_or_false (test y)) m (filter-member test ys x)
  where
    either : (test y ≡ true) ⊎ (test y ≡ false) → Member (cond (test y) (y ∷ filter test ys) (filter test ys)) x
        → (Member (filter test ys) x → Member ys x × (test x ≡ true)) → Member (y ∷ ys) x × (test x ≡ true)
    either (inl t) m rest = first (subst (λ b. Member (cond b (y ∷ filter test ys) (filter test ys)) x) t m)
      where
        first : Member (y ∷ filter test ys) x → Member (y ∷ ys) x × (test x ≡ true)
        first (inl e) = (inl e, (λ i. test (e i)) ∙ t)
        first (inr k) = let r = rest k in (inr r.0, r.1)
    either (inr f) m rest = let r = rest (subst (λ b. Member (cond b (y ∷ filter test ys) (filter test ys)) x) f m) in (inr r.0, r.1)

-- rows that are made from one list
pub zip-maps : {A B C : Type 0} (R : B → C → Type 0) (f : A → B) (g : A → C) (xs : List A) → ((x : A) → Member xs x → R (f x) (g x)) → AllZip R (map f xs) (map g xs)
zip-maps R f g [] h = tt
zip-maps R f g (x ∷ xs) h = (h x (inl refl), zip-maps R f g xs (λ y m. h y (inr m)))

module _ {A : Type 0} (writes : A → List Place) where
  -- no bit has two writers, by places
  abbrev pub Apart : List A → Type 0
  Apart xs = (i j : ℕ) (d : A) → i < j → j < length xs → (q : Place) → has (writes (slice_index_or xs i d)) q ≡ true → has (writes (slice_index_or xs j d)) q ≡ false

  first_apart : (x : A) (xs : List A) → Apart (x ∷ xs) → (q : Place) → has (writes x) q ≡ true → NoneWrites writes xs q
  first_apart x xs apart q h y m =
      let r = member-place xs y m in
      subst (λ (z : A). has (writes z) q ≡ false) r.2 (apart 0 (suc r.0) y (omega arith) (omega (arith, r.1)) q h)

  pub one_writer_from_places : (xs : List A) → Apart xs → OneWriter writes xs
  one_writer_from_places [] apart = tt
  one_writer_from_places (x ∷ xs) apart =
      (first_apart x xs apart, one_writer_from_places xs (λ i j d below within q h. apart (suc i) (suc j) d (omega arith) (omega arith) q h))

  pub one_writer_at : (xs : List A) → OneWriter writes xs → Apart xs
  one_writer_at [] one i j d below within q h = absurd (omega arith)
  one_writer_at (x ∷ xs) one zero zero d below within q h = absurd (omega arith)
  one_writer_at (x ∷ xs) one zero (suc j) d below within q h = one.0 q h (slice_index_or xs j d) (member_at xs j d (le_of_suc-le-suc within))
  one_writer_at (x ∷ xs) one (suc i) zero d below within q h = absurd (omega arith)
  one_writer_at (x ∷ xs) one (suc i) (suc j) d below within q h = one_writer_at xs one.1 i j d (omega arith) (le_of_suc-le-suc within) q h

  pub one_writer-append : (xs ys : List A) → OneWriter writes xs → OneWriter writes ys → ((x : A) → Member xs x → (q : Place) → has (writes x) q ≡ true → NoneWrites writes ys q) → OneWriter writes (xs ++ ys)
  one_writer-append [] ys a b cross = b
  one_writer-append (x ∷ xs) ys a b cross = (
    (λ q h y m. elim (append-member xs ys y m) [ inl l ↦ a.0 q h y l | inr r ↦ cross x (inl refl) q h y r ]),
    one_writer-append xs ys a.1 b (λ z m. cross z (inr m)),
  )
