-- How many parts patterns have places for (IEEE 1800-2017 clause 10.9).
use Rattle.std.specs.Prelude.{◌≡◌, ℕ, List, [], ◌∷◌, length}
use Rattle.sv_types.specs.declared.types.Member.{Member}

-- as many as there are members; where there is none, the bounds of bits are -1 and 0
abbrev pub CountsMembers : List Member → ℕ → Type 0
CountsMembers [] n = n ≡ 2
CountsMembers (m ∷ ms) n = n ≡ length (m ∷ ms)
