-- Least breaks of lists that are put together.
use Rattle.std.proofs.Common.{◌≡◌, inl, inr, ℕ, zero, suc, ◌+◌, ◌<◌, List, [], ◌∷◌, ◌++◌, length, flat_map, take, get_or, append_assoc, Option, Some, None, refl, ap, sym, ◌∙◌, arith}
use Rattle.std.proofs.lemmas.List.{append-nil}
use Rattle.row_machine.specs.Valuation.{Member}
use Rattle.row_machine.proofs.Members.{append-member, member-front, member-back}
use Rattle.sv_types.specs.declared.design.Design.{Design}
use Rattle.design_breaks.specs.declared.Break.{Break}
use Rattle.design_breaks.specs.Breaks as B
use Rattle.least_breaks.specs.Least.{IsLeast}

-- the same breaks
pub least-same : (xs ys : List Break) (r : Option Break) → ((b : Break) → Member xs b → Member ys b) → ((b : Break) → Member ys b → Member xs b) → IsLeast xs r → IsLeast ys r
least-same xs ys None to back h = λ b m. h b (back b m)
least-same xs ys (Some a) to back h = record { there = to a h.there; least = λ b m. h.least b (back b m) }

pub flat-append : {A B : Type 0} (f : A → List B) (xs ys : List A) → flat_map f (xs ++ ys) ≡ flat_map f xs ++ flat_map f ys
flat-append f [] ys = refl
flat-append f (x ∷ xs) ys = ap (λ zs. f x ++ zs) (flat-append f xs ys) ∙ sym (append_assoc (f x) (flat_map f xs) (flat_map f ys))

pub flat-take : {A B : Type 0} (f : A → List B) (xs : List A) (k : ℕ) (x : A) → k < length xs → x ≡ get_or xs k x → flat_map f (take (k + 1) xs) ≡ flat_map f (take k xs) ++ f x
flat-take f [] k x low is = absurd (omega arith)
flat-take f (y ∷ xs) zero x low is = append-nil (f y) ∙ ap f (sym is)
flat-take f (y ∷ xs) (suc k) x low is =
    let at : suc k + 1 ≡ suc (k + 1) = omega arith in
    ap (λ n. flat_map f (take n (y ∷ xs))) at
    ∙ ap (λ zs. f y ++ zs) (flat-take f xs k x (omega (arith, low)) is)
    ∙ sym (append_assoc (f y) (flat_map f (take k xs)) (f x))

-- numbered things
module _ (d : Design) where
  pub numbered-length : {A : Type 0} (n : ℕ) (xs : List A) → length (B.numbered d n xs) ≡ length xs
  numbered-length n [] = refl
  numbered-length n (x ∷ xs) = ap suc (numbered-length (suc n) xs)

  pub numbered-get : {A : Type 0} (n : ℕ) (xs : List A) (k : ℕ) (x : A) → k < length xs → x ≡ get_or xs k x → (y : ℕ × A) → get_or (B.numbered d n xs) k y ≡ (n + k, x)
  numbered-get n [] k x low is y = absurd (omega arith)
  numbered-get n (z ∷ xs) zero x low is y = let at : n ≡ n + 0 = omega arith in λ i. (at i, sym is i)
  numbered-get n (z ∷ xs) (suc k) x low is y = let at : suc n + k ≡ n + suc k = omega arith in numbered-get (suc n) xs k x (omega (arith, low)) is y ∙ (λ i. (at i, x))

  -- two breaks of each of some numbered things, apart
  pub apart-into : {A C : Type 0} (f : ℕ × A → List C) (g : A → List C) (n : ℕ) (xs : List A) (b : C)
      → Member (flat_map (λ (q : ℕ × A). f q ++ g q.1) (B.numbered d n xs)) b → Member (flat_map f (B.numbered d n xs) ++ flat_map g xs) b
  apart-into f g n [] b m = m
  apart-into f g n (x ∷ xs) b m = elim (append-member (f (n, x) ++ g x) (flat_map (λ q. f q ++ g q.1) (B.numbered d (suc n) xs)) b m) [
    | inl here ↦ elim (append-member (f (n, x)) (g x) b here) [
      | inl first ↦ member-front (f (n, x) ++ flat_map f (B.numbered d (suc n) xs)) (g x ++ flat_map g xs) b (member-front (f (n, x)) (flat_map f (B.numbered d (suc n) xs)) b first)
      | inr second ↦ member-back (f (n, x) ++ flat_map f (B.numbered d (suc n) xs)) (g x ++ flat_map g xs) b (member-front (g x) (flat_map g xs) b second)
    ]
    | inr more ↦ elim (append-member (flat_map f (B.numbered d (suc n) xs)) (flat_map g xs) b (apart-into f g (suc n) xs b more)) [
      | inl first ↦ member-front (f (n, x) ++ flat_map f (B.numbered d (suc n) xs)) (g x ++ flat_map g xs) b (member-back (f (n, x)) (flat_map f (B.numbered d (suc n) xs)) b first)
      | inr second ↦ member-back (f (n, x) ++ flat_map f (B.numbered d (suc n) xs)) (g x ++ flat_map g xs) b (member-back (g x) (flat_map g xs) b second)
    ]
  ]

  pub apart-back : {A C : Type 0} (f : ℕ × A → List C) (g : A → List C) (n : ℕ) (xs : List A) (b : C)
      → Member (flat_map f (B.numbered d n xs) ++ flat_map g xs) b → Member (flat_map (λ (q : ℕ × A). f q ++ g q.1) (B.numbered d n xs)) b
  apart-back f g n [] b m = m
  apart-back {A} {C} f g n (x ∷ xs) b m = elim (append-member (f (n, x) ++ flat_map f (B.numbered d (suc n) xs)) (g x ++ flat_map g xs) b m) [
    | inl first ↦ elim (append-member (f (n, x)) (flat_map f (B.numbered d (suc n) xs)) b first) [
      | inl here ↦ member-front (f (n, x) ++ g x) rest b (member-front (f (n, x)) (g x) b here)
      | inr more ↦ member-back (f (n, x) ++ g x) rest b (apart-back f g (suc n) xs b (member-front (flat_map f (B.numbered d (suc n) xs)) (flat_map g xs) b more))
    ]
    | inr second ↦ elim (append-member (g x) (flat_map g xs) b second) [
      | inl here ↦ member-front (f (n, x) ++ g x) rest b (member-back (f (n, x)) (g x) b here)
      | inr more ↦ member-back (f (n, x) ++ g x) rest b (apart-back f g (suc n) xs b (member-back (flat_map f (B.numbered d (suc n) xs)) (flat_map g xs) b more))
    ]
  ]
    where
      rest : List C
      rest = flat_map (λ (q : ℕ × A). f q ++ g q.1) (B.numbered d (suc n) xs)

-- breaks at tokens of two lists
pub each-append : (i rule : ℕ) (xs ys : List ℕ) → B.at_each i rule (xs ++ ys) ≡ B.at_each i rule xs ++ B.at_each i rule ys
each-append i rule [] ys = refl
each-append i rule (x ∷ xs) ys = ap (λ bs. record { instance = i; at = x; rule = rule } ∷ bs) (each-append i rule xs ys)
