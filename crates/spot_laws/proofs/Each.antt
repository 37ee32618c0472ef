-- What holds of each of a list.
use Rattle.std.proofs.Common.{◌≡◌, inl, inr, ℕ, Bool, true, false, cond, List, [], ◌∷◌, ◌++◌, map, flat_map, filter, reverse, Option, Some, None, refl, sym, subst}
use Rattle.std.proofs.lemmas.Grind.{reverse_onto}
use Rattle.row_machine.specs.Valuation.{Member}
use Rattle.sv_types.proofs.Terms.{Each}

pub each-append : {A : Type 0} (P : A → Type 0) (xs ys : List A) → Each P xs → Each P ys → Each P (xs ++ ys)
each-append P [] ys h g = g
each-append P (x ∷ xs) ys h g = (h.0, each-append P xs ys h.1 g)

pub each-left : {A : Type 0} (P : A → Type 0) (xs ys : List A) → Each P (xs ++ ys) → Each P xs
each-left P [] ys h = tt
each-left P (x ∷ xs) ys h = (h.0, each-left P xs ys h.1)

pub each-right : {A : Type 0} (P : A → Type 0) (xs ys : List A) → Each P (xs ++ ys) → Each P ys
each-right P [] ys h = h
each-right P (x ∷ xs) ys h = each-right P xs ys h.1

pub each-map : {A B : Type 0} (P : B → Type 0) (f : A → B) (xs : List A) → Each (λ x. P (f x)) xs → Each P (map f xs)
each-map P f [] h = tt
each-map P f (x ∷ xs) h = (h.0, each-map P f xs h.1)

pub each-flat : {A B : Type 0} (P : B → Type 0) (f : A → List B) (xs : List A) → Each (λ x. Each P (f x)) xs → Each P (flat_map f xs)
each-flat P f [] h = tt
each-flat P f (x ∷ xs) h = each-append P (f x) (flat_map f xs) h.0 (each-flat P f xs h.1)

pub flat-each : {A B : Type 0} (P : B → Type 0) (f : A → List B) (xs : List A) → Each P (flat_map f xs) → Each (λ x. Each P (f x)) xs
flat-each P f [] h = tt
flat-each P f (x ∷ xs) h = (each-left P (f x) (flat_map f xs) h, flat-each P f xs (each-right P (f x) (flat_map f xs) h))

pub each-cond : {A : Type 0} (P : A → Type 0) (b : Bool) (xs ys : List A) → Each P xs → Each P ys → Each P (cond b xs ys)
each-cond P true xs ys h g = h
each-cond P false xs ys h g = g

-- what is only listed if a test passes
pub each-only : {A : Type 0} (P : A → Type 0) (b : Bool) (xs : List A) → (b ≡ true → Each P xs) → Each P (cond b xs [])
each-only P true xs h = h refl
each-only P false xs h = tt

pub each-filter : {A : Type 0} (P : A → Type 0) (test : A → Bool) (xs : List A) → Each P xs → Each P (filter test xs)
each-filter P test [] h = tt
each-filter P test (x ∷ xs) h = by (test x) (each-filter P test xs h.1)
  where
    by : (b : Bool) → Each P (filter test xs) → Each P (cond b (x ∷ filter test xs) (filter test xs))
    by true rest = (h.0, rest)
    by false rest = rest

pub each-weaken : {A : Type 0} (P Q : A → Type 0) → ((x : A) → P x → Q x) → (xs : List A) → Each P xs → Each Q xs
each-weaken P Q f [] h = tt
each-weaken P Q f (x ∷ xs) h = (f x h.0, each-weaken P Q f xs h.1)

pub each-of : {A : Type 0} (P : A → Type 0) (xs : List A) → Each P xs → (x : A) → Member xs x → P x
each-of P [] h x m = elim m [ ]
each-of P (y ∷ xs) h x (inl is) = subst P (sym is) h.0
each-of P (y ∷ xs) h x (inr m) = each-of P xs h.1 x m

pub each-member : {A : Type 0} (P : A → Type 0) (xs : List A) → ((x : A) → Member xs x → P x) → Each P xs
each-member P [] f = tt
each-member P (x ∷ xs) f = (f x (inl refl), each-member P xs (λ y m. f y (inr m)))

pub each-reverse : {A : Type 0} (P : A → Type 0) (xs : List A) → Each P xs → Each P (reverse xs)
each-reverse P [] h = tt
each-reverse P (x ∷ xs) h = subst (λ ys. Each P ys) (sym (reverse_onto xs x [])) (each-append P (reverse xs) (x ∷ []) (each-reverse P xs h.1) (h.0, tt))

-- what holds of a thing that may be missing
abbrev pub IfSome : (ℕ → Type 0) → Option ℕ → Type 0
IfSome P None = Unit {0}
IfSome P (Some n) = P n
