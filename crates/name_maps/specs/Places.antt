-- Places in a list by numbers.
use Rattle.std.specs.Prelude.{◌≡◌, ◌≢◌, ⊤, ℕ, ◌<◌, List, [], ◌∷◌, length, Option, MatchOption}
use Rattle.std.specs.List.{All, HoldsAt}

-- a place at which the number stands, or it stands nowhere
abbrev pub IsPlace : {A : Type 0} → (A → ℕ) → List A → ℕ → Option ℕ → Type 0
IsPlace number xs n r = MatchOption r (All (λ x. number x ≢ n) xs) (λ i. (i < length xs) × HoldsAt (λ x. number x ≡ n) xs i)

-- no number stands twice
abbrev pub IsOnce : {A : Type 0} → (A → ℕ) → List A → Type 0
IsOnce number [] = ⊤
IsOnce number (x ∷ xs) = All (λ y. number y ≢ number x) xs × IsOnce number xs
