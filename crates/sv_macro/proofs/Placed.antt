-- Bodies that are placed.
use Rattle.std.proofs.Common.{◌≡◌, List, [], ◌∷◌, ◌++◌, Option, Some, None, Result, Ok, Err, IfOk, slice_get, refl, ap, ◌∙◌, slice_set}
use Rattle.std.specs.Option.{option_map}
use Rattle.sv_source.specs.declared.token.Place.{Place}
use Rattle.sv_macro.specs.Macros.{text_of, pasted, joined}
use Rattle.sv_macro.specs.declared.coming.Coming.{Coming}

mapped_twice : (o : Option Coming) (x : Coming) (front ys : List Coming) → option_map (λ rest. x ∷ rest) (option_map (λ t. front ++ t ∷ ys) o) ≡ option_map (λ t. x ∷ front ++ t ∷ ys) o
mapped_twice None x front ys = refl
mapped_twice (Some t) x front ys = refl

-- only the last token of the first is joined
pub joined_last : (at : Place) (front : List Coming) (x y : Coming) (ys : List Coming) →
    joined at (front ++ x ∷ []) (y ∷ ys) ≡ option_map (λ t. front ++ t ∷ ys) (pasted at (text_of x ++ text_of y))
joined_last at [] x y ys = refl
joined_last at (z ∷ []) x y ys = mapped_twice (pasted at (text_of x ++ text_of y)) z [] ys
joined_last at (z ∷ w ∷ front) x y ys =
    ap (option_map (λ rest. z ∷ rest)) (joined_last at (w ∷ front) x y ys) ∙ mapped_twice (pasted at (text_of x ++ text_of y)) z (w ∷ front) ys

-- the same of a list that is known by its last token, and one that is known by its first
pub joined_of : (at : Place) (first second front : List Coming) (x y : Coming) → first ≡ front ++ x ∷ [] → slice_get second 0 ≡ Some y →
    joined at first second ≡ option_map (λ t. front ++ slice_set second 0 t) (pasted at (text_of x ++ text_of y))
joined_of at first [] front x y split head = absurd (let no : None ≡ Some y = head in cc)
joined_of at first (z ∷ ys) front x y split head =
    let same : z ≡ y = cc in
    rw (split, same) (joined_last at front x y ys)

-- a value of a result that is another, equal one
pub ok_same : {T E : Type 0} (r : Result T E) (a b : T) → a ≡ b → IfOk r (λ x. x ≡ a) → IfOk r (λ x. x ≡ b)
ok_same (Ok x) a b e h = h ∙ e
ok_same (Err x) a b e h = h
