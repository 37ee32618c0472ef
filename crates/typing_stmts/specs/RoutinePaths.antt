-- Paths of functions.
use Rattle.std.specs.Prelude.{ℕ, codes, List, [], ◌∷◌, ◌++◌}

-- the name behind the path of a block, if that has one
abbrev pub path_behind : List ℕ → List ℕ → List ℕ
path_behind path name = elim path as (λ p. List ℕ) [ [] ↦ name | c ∷ cs ↦ path ++ (codes "." ++ name) ]
