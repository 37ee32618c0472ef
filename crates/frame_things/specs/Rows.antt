-- Things that hide one another, the latest first.
use Rattle.std.specs.Prelude.{◌≡◌, ⊤, ℕ, nat_eq, if◌then◌else◌, List, [], ◌∷◌, length, Option, Some, None}
use Rattle.frame_things.specs.declared.rows.Row.{Row}

abbrev pub item_of : {T : Type 0} → Row T → T
item_of r = r.item

-- the place of the latest thing with a number, counted from the first
abbrev pub place_of : {T : Type 0} → (T → ℕ) → ℕ → List (Row T) → Option ℕ
place_of number n [] = None
place_of number n (r ∷ rs) = if nat_eq (number r.item) n then Some (length rs) else place_of number n rs

-- each thing says which one it hides
abbrev pub Linked : {T : Type 0} → (T → ℕ) → List (Row T) → Type 0
Linked number [] = ⊤
Linked number (r ∷ rs) = (r.hidden ≡ place_of number (number r.item) rs) × Linked number rs

-- what one thing less leaves
abbrev pub uncovered : (ℕ → Option ℕ) → ℕ → Option ℕ → ℕ → Option ℕ
uncovered places number hidden = λ n. if nat_eq number n then hidden else places n
