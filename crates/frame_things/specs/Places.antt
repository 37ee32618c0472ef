-- At which place of a list the first thing with a number stands.
use Rattle.std.specs.Prelude.{ℕ, suc, Bool, nat_eq, if◌then◌else◌, List, [], ◌∷◌, Option, Some, None}
use Rattle.indexmap.specs.IndexMap as map
use Rattle.frame_things.specs.declared.places.Places.{Places}

abbrev pub place_by : {T : Type 0} → (T → Bool) → ℕ → List T → Option ℕ
place_by test k [] = None
place_by test k (x ∷ xs) = if test x then Some k else place_by test (suc k) xs

abbrev pub place_from : {T : Type 0} → (T → ℕ) → ℕ → ℕ → List T → Option ℕ
place_from number k n xs = place_by (λ x. nat_eq (number x) n) k xs

-- the first thing that passes a test
abbrev pub first_by : {T : Type 0} → (T → Bool) → List T → Option T
first_by test [] = None
first_by test (x ∷ xs) = if test x then Some x else first_by test xs

abbrev pub places_in : Places → ℕ → Option ℕ
places_in x = λ n. map.get nat_eq x.places n

abbrev pub put_place : (ℕ → Option ℕ) → ℕ → ℕ → ℕ → Option ℕ
put_place places number place = λ n. if nat_eq number n then Some place else places n
