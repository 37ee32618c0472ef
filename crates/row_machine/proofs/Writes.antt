-- What a bit holds after a list of writers.
use Rattle.std.proofs.Common.{◌≡◌, ◌⊎◌, true, false, List, [], ◌∷◌, None, refl, sym, ap, ◌∙◌, subst, inl, inr}
use Rattle.row_machine.specs.Valuation.{Place, Valuation, Changes, Member, has, changed, put, put_each, NoneWrites, OneWriter}
use Rattle.row_machine.proofs.Basics.{true_or_false, clash}

module _ {A : Type 0} (writes : A → List Place) where
  -- the elements assign only bits that they may write
  abbrev pub Within : (A → Changes) → List A → Type 0
  Within f xs = (x : A) → Member xs x → (q : Place) → has (writes x) q ≡ false → f x q ≡ None

  -- somebody writes the bit
  abbrev pub Writer : List A → Place → Type 0
  Writer xs q = (x : A) × Member xs x × (has (writes x) q ≡ true)

  -- a bit that nobody writes keeps its value
  pub unwritten : (f : A → Changes) (xs : List A) → Within f xs → (base : Valuation) (q : Place) → NoneWrites writes xs q → put_each f xs base q ≡ base q
  unwritten f [] w base q n = refl
  unwritten f (x ∷ xs) w base q n =
      unwritten f xs (λ y m. w y (inr m)) (put (f x) base) q (λ y m. n y (inr m))
      ∙ ap (λ o. changed o (base q)) (w x (inl refl) q (n x (inl refl)))

  not_also : (xs : List A) (y : A) (q : Place) → (has (writes y) q ≡ true → NoneWrites writes xs q) → (x : A) → Member xs x → has (writes x) q ≡ true → has (writes y) q ≡ false
  not_also xs y q one x m h = elim (true_or_false (has (writes y) q)) [ inl t ↦ clash (has (writes x) q) h (one t x m) | inr t ↦ t ]

  -- a bit with one writer holds what that one assigns, if it does, else its value of before
  pub written : (f : A → Changes) (xs : List A) → Within f xs → OneWriter writes xs → (base : Valuation) (x : A) → Member xs x → (q : Place) → has (writes x) q ≡ true → put_each f xs base q ≡ changed (f x q) (base q)
  written f [] w one base x m q h = elim m [ ]
  written f (y ∷ ys) w one base x (inl e) q h =
      unwritten f ys (λ z m. w z (inr m)) (put (f y) base) q (one.0 q (subst (λ z. has (writes z) q ≡ true) e h))
      ∙ ap (λ z. changed (f z q) (base q)) (sym e)
  written f (y ∷ ys) w one base x (inr m) q h =
      written f ys (λ z k. w z (inr k)) one.1 (put (f y) base) x m q h
      ∙ ap (λ b. changed (f x q) b) (ap (λ o. changed o (base q)) (w y (inl refl) q (not_also ys y q (one.0 q) x m h)))

  pub writer : (xs : List A) (q : Place) → Writer xs q ⊎ NoneWrites writes xs q
  writer [] q = inr (λ x m. elim m [ ])
  writer (y ∷ ys) q =
      elim (true_or_false (has (writes y) q)) [
        | inl t ↦ inl (y, inl refl, t)
        | inr t ↦ elim (writer ys q) [
          | inl r ↦ inl (r.0, inr r.1, r.2)
          | inr n ↦ inr (none_of ys y q t n)
        ]
      ]
    where
      none_of : (ys : List A) (y : A) (q : Place) → has (writes y) q ≡ false → NoneWrites writes ys q → NoneWrites writes (y ∷ ys) q
      none_of ys y q t n x (inl e) = subst (λ z. has (writes z) q ≡ false) (sym e) t
      none_of ys y q t n x (inr m) = n x m
