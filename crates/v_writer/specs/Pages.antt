-- The bytes that a page keeps.
use Rattle.std.specs.Prelude.{◌≡◌, ◌≤◌, ℕ, List, [], Option, Some, None, Vec, vec_capacity}

-- the bytes that are kept, none where only the length is
abbrev pub kept : {A : Type 0} → Option (Vec ℕ A) → List ℕ
kept None = []
kept (Some v) = v.items

-- there is room up to the limit
abbrev pub HasRoom : {A : Type 0} → Option (Vec ℕ A) → ℕ → Type 0
HasRoom None limit = limit ≡ 0
HasRoom (Some v) limit = limit ≤ vec_capacity v
