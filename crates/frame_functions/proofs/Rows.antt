-- Places of the functions at the front of a list.
use Rattle.std.proofs.Common.{◌≡◌, ℕ, zero, suc, ◌+◌, ◌<◌, List, [], ◌∷◌, ◌++◌, length, take, Option, arith, ap, sym, ◌∙◌, slice_index_or}
use Rattle.std.proofs.lemmas.List.{length-take-le}
use Rattle.sv_types.specs.declared.statement.Function.{Function}
use Rattle.function_places.specs.Places.{Declared, first_place}
use Rattle.known_functions.specs.Behind.{declared_of, or_else, place_if}
use Rattle.known_functions.proofs.Places.{place-kept}

-- one more
front-more : {A : Type 0} (xs : List A) (i : ℕ) (x : A) → i < length xs → x ≡ slice_index_or xs i x → take (suc i) xs ≡ take i xs ++ x ∷ []
front-more [] i x short is = absurd (omega arith)
front-more (y ∷ ys) zero x short is = ap (λ z. z ∷ []) (sym is)
front-more (y ∷ ys) (suc i) x short is = ap (λ zs. y ∷ zs) (front-more ys i x (omega arith) is)

next : {A : Type 0} (xs : List A) (i : ℕ) (x : A) → i < length xs → x ≡ slice_index_or xs i x → take (i + 1) xs ≡ take i xs ++ x ∷ []
next xs i x short is =
    let on : i + 1 ≡ suc i = omega arith in
    ap (λ n. take n xs) on ∙ front-more xs i x short is

pub placed-more : (fs : List Function) (i : ℕ) (f : Function) (p q : Declared → Option ℕ) (declared : Declared) → i < length fs → f ≡ slice_index_or fs i f → ((d : Declared) → p d ≡ first_place d (take i fs)) → declared ≡ declared_of f
    → ((d : Declared) → q d ≡ or_else (p d) (place_if declared i d)) → (d : Declared) → q d ≡ first_place d (take (i + 1) fs)
placed-more fs i f p q declared short is all from puts =
    place-kept (take i fs) (take (i + 1) fs) f p q declared i all from (sym (length-take-le i fs (omega (arith, short)))) puts (next fs i f short is)
