-- Where an included file is looked for (IEEE 1800-2017 clause 22.4).
use Rattle.std.specs.Prelude.{◌≡◌, ◌⊎◌, ℕ, ◌-◌, ◌==◌, Bool, false, List, [], ◌∷◌, ◌++◌, length, map, take, drop, reverse, if◌then◌else◌, Option, Some, None}
use Rattle.std.specs.List.{list_any}
use Rattle.sv_source.specs.Loading.{Contents}

-- the bytes between a string's quotes
abbrev pub between_quotes : List ℕ → List ℕ
between_quotes text = take (length text - 2) (drop 1 text)

-- 47 is the slash
abbrev pub begins_slash : List ℕ → Bool
begins_slash [] = false
begins_slash (c ∷ cs) = c == 47

abbrev pub ends_slash : List ℕ → Bool
ends_slash path = begins_slash (reverse path)

-- a path up to its last slash inclusive, or nothing
abbrev pub directory_of : List ℕ → List ℕ
directory_of [] = []
directory_of (c ∷ cs) = if list_any (λ b. b == 47) (c ∷ cs) then c ∷ directory_of cs else []

-- a path in a directory
abbrev pub in_directory : List ℕ → List ℕ → List ℕ
in_directory path directory = if ends_slash directory then directory ++ path else directory ++ (47 ∷ path)

-- where the file may be: at its path, or in the directory of the including file and then in the listed ones
abbrev pub candidates : List (List ℕ) → List ℕ → List ℕ → List (List ℕ)
candidates directories including path =
    if begins_slash path then path ∷ []
    else (directory_of including ++ path) ∷ map (in_directory path) directories

-- a file that is there
pub record Held : Type 0 where
  pub path : List ℕ
  pub bytes : List ℕ

-- the first of the paths that isn't absent
abbrev pub first_held : Contents → List (List ℕ) → Option Held
first_held contents [] = None
first_held contents (path ∷ paths) = elim (contents path) [ None ↦ first_held contents paths | Some bytes ↦ Some (record { path = path; bytes = bytes }) ]

-- the path is one of these, and those before it are absent
abbrev pub Tried : Contents → List (List ℕ) → List ℕ → Type 0
Tried contents [] path = ⊥
Tried contents (p ∷ ps) path = (path ≡ p) ⊎ ((contents p ≡ None) × Tried contents ps path)
