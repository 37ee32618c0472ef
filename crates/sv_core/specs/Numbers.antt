-- Lists of numbers of signals.
use Rattle.std.specs.Prelude.{ℕ, ◌==◌, Bool, false, ◌||◌, List, [], ◌∷◌, if◌then◌else◌}

-- whether the number is one of these
abbrev pub holds : List ℕ → ℕ → Bool
holds [] n = false
holds (k ∷ ks) n = (k == n) || holds ks n

-- the numbers, each once
abbrev pub each_once : List ℕ → List ℕ
each_once [] = []
each_once (k ∷ ks) = if holds ks k then each_once ks else k ∷ each_once ks
