-- Lists that are made from the end on.
use Rattle.std.proofs.Common.{◌≡◌, List, [], ◌∷◌, ◌++◌, map, reverse, sym, ap, ◌∙◌, append_assoc}
use Rattle.std.proofs.lemmas.List.{map-append, reverse-append}

pub turned-step : {A B : Type 0} (f : A → B) (left : List A) (x : A) (made : List B)
    → map f left ++ reverse (made ++ f x ∷ []) ≡ map f (left ++ x ∷ []) ++ reverse made
turned-step f left x made =
    ap (λ z. map f left ++ z) (reverse-append made (f x ∷ []))
    ∙ sym (append_assoc (map f left) (f x ∷ []) (reverse made))
    ∙ ap (λ z. z ++ reverse made) (sym (map-append f left (x ∷ [])))

pub ruleset turns = (turned-step)
