-- Counting the processes that aren't done, each by a weight.
use Rattle.std.proofs.Common.{◌≡◌, ℕ, ◌+◌, ◌<◌, ◌≤◌, Bool, true, false, List, [], ◌∷◌, refl, subst, inl, inr, arith}
use Rattle.row_machine.specs.Valuation.{Member}
use Rattle.row_machine.proofs.Basics.{clash}

-- what counts of a weight, none once it is done
abbrev pub share : Bool → ℕ → ℕ
share true n = 0
share false n = n

module _ {A : Type 0} (weight : A → ℕ) where
  abbrev pub open_weight : (A → Bool) → List A → ℕ
  open_weight is_done [] = 0
  open_weight is_done (x ∷ xs) = share (is_done x) (weight x) + open_weight is_done xs

  share-mono : (a b : Bool) (n : ℕ) → (a ≡ true → b ≡ true) → share b n ≤ share a n
  share-mono true b n h = ap_le b (h refl)
    where
      ap_le : (b : Bool) → b ≡ true → share b n ≤ 0
      ap_le true e = omega arith
      ap_le false e = clash false e refl
  share-mono false true n h = omega arith
  share-mono false false n h = omega arith

  share-falls : (a b : Bool) (n : ℕ) → a ≡ false → b ≡ true → 1 ≤ n → share b n < share a n
  share-falls true b n e f h = clash true refl e
  share-falls false true n e f h = h
  share-falls false false n e f h = clash false f refl

  module _ (before after : A → Bool) where
    abbrev pub Grows : List A → Type 0
    Grows xs = (x : A) → Member xs x → before x ≡ true → after x ≡ true

    pub open_weight-mono : (xs : List A) → Grows xs → open_weight after xs ≤ open_weight before xs
    open_weight-mono [] grows = omega arith
    open_weight-mono (x ∷ xs) grows =
        omega (arith, share-mono (before x) (after x) (weight x) (grows x (inl refl)), open_weight-mono xs (λ y m. grows y (inr m)))

    pub open_weight-falls : (xs : List A) → Grows xs → (x : A) → Member xs x → before x ≡ false → after x ≡ true → 1 ≤ weight x → open_weight after xs < open_weight before xs
    open_weight-falls [] grows x m b a h = elim m [ ]
    open_weight-falls (y ∷ ys) grows x (inl e) b a h =
        let here = share-falls (before y) (after y) (weight y) (subst (λ z. before z ≡ false) e b) (subst (λ z. after z ≡ true) e a) (subst (λ z. 1 ≤ weight z) e h) in
        omega (arith, here, open_weight-mono ys (λ z m. grows z (inr m)))
    open_weight-falls (y ∷ ys) grows x (inr m) b a h =
        omega (arith, share-mono (before y) (after y) (weight y) (grows y (inl refl)), open_weight-falls ys (λ z k. grows z (inr k)) x m b a h)
