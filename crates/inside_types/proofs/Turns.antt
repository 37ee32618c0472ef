-- Items that are taken from the end on.
use Rattle.std.proofs.Common.{◌≡◌, List, [], ◌∷◌, ◌++◌, map, reverse, sym, ap, ◌∙◌, append_assoc}
use Rattle.std.proofs.lemmas.List.{map-append, reverse-append}
use Rattle.sv_types.specs.declared.expression.Choice.{Choice}
use Rattle.expr_type.specs.Operators.{choice}
use Rattle.inside_types.specs.declared.alternatives.Alternative.{Alternative}
use Rattle.inside_types.specs.Alternatives.{alternative}

abbrev choices : List Alternative → List Choice
choices as' = map choice (map alternative as')

choices-append : (left : List Alternative) (x : Alternative) → choices (left ++ x ∷ []) ≡ choices left ++ choice (alternative x) ∷ []
choices-append left x = ap (map choice) (map-append alternative left (x ∷ [])) ∙ map-append choice (map alternative left) (alternative x ∷ [])

pub turned-step : (left : List Alternative) (x : Alternative) (made : List Choice)
    → choices left ++ reverse (made ++ choice (alternative x) ∷ []) ≡ choices (left ++ x ∷ []) ++ reverse made
turned-step left x made =
    ap (λ z. choices left ++ z) (reverse-append made (choice (alternative x) ∷ []))
    ∙ sym (append_assoc (choices left) (choice (alternative x) ∷ []) (reverse made))
    ∙ ap (λ z. z ++ reverse made) (sym (choices-append left x))

pub ruleset turns = (turned-step)
