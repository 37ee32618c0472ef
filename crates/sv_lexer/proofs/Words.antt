-- Words of a table.
use Rattle.std.proofs.Common.{◌≡◌, ℕ, Bool, ◌||◌, List, [], ◌∷◌, map, refl, ap, Bor}
use Rattle.std.specs.List.{list_any}

pub list_any-now : (test : List ℕ → Bool) (words : List (Bor (List ℕ))) → list_any test (map (λ word. word.now) words) ≡ list_any (λ word. test word.now) words
list_any-now test [] = refl
list_any-now test (w ∷ ws) = ap (λ b. test w.now || b) (list_any-now test ws)
