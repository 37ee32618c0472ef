-- Lists of names.
use Rattle.std.specs.Prelude.{ℕ, suc, Bool, true, false, not, ◌&&◌, ◌||◌, List, [], ◌∷◌, if◌then◌else◌}
use Rattle.std.specs.Str.{bytes_eq}

-- a name's bytes
abbrev pub Name : Type 0
Name = List ℕ

-- whether the name is one of these
abbrev pub among : List Name → Name → Bool
among [] name = false
among (n ∷ names) name = bytes_eq n name || among names name

-- no name stands twice
abbrev pub distinct : List Name → Bool
distinct [] = true
distinct (n ∷ names) = not (among names n) && distinct names

-- the number of the first of these names that is the given one, and how many there are where none is
abbrev pub position : List Name → Name → ℕ
position [] name = 0
position (n ∷ names) name = if bytes_eq n name then 0 else suc (position names name)

-- the names, each once
abbrev pub once : List Name → List Name
once [] = []
once (n ∷ names) = if among names n then once names else n ∷ once names
