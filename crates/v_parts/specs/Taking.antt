-- Taking parts of a kind from those of a row.
use Rattle.std.specs.Prelude.{ℕ, Bool, true, false, List, [], ◌∷◌, Option, Some, None}
use Rattle.std.specs.List.{position}
use Rattle.v_tree.specs.declared.parts.VPart.{VPart}

abbrev pub is_there : {A : Type 0} → Option A → Bool
is_there (Some x) = true
is_there None = false

-- the place of the first part of the kind
abbrev pub place_of : {A : Type 0} → (VPart → Option A) → List VPart → Option ℕ
place_of kind parts = position (λ part. is_there (kind part)) parts

abbrev pub left_behind : {A : Type 0} → Option A → VPart → List VPart → List VPart
left_behind (Some x) part parts = parts
left_behind None part parts = part ∷ parts

-- the parts without the first one of the kind
abbrev pub without : {A : Type 0} → (VPart → Option A) → List VPart → List VPart
without kind [] = []
without kind (part ∷ parts) = elim (kind part) [
  | Some x ↦ parts
  | None ↦ part ∷ without kind parts
]

-- the parts that are not of the kind
abbrev pub others : {A : Type 0} → (VPart → Option A) → List VPart → List VPart
others kind [] = []
others kind (part ∷ parts) = left_behind (kind part) part (others kind parts)
