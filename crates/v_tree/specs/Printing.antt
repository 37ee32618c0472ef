-- The names that a written text uses: those of signals, instances and modules by their paths, and those of helper functions.
use Rattle.std.specs.Prelude.{◌≡◌, ◌<◌, ◌^◌, ℕ, zero, suc, ◌==◌, Bool, ◌||◌, List, [], ◌∷◌, ◌++◌, map, length, codes, decimal, Option, Some, None, if◌then◌else◌}
use Rattle.std.specs.Option.{is_some}
use Rattle.std.specs.Str.{bytes_eq}
use Rattle.v_tree.specs.Names.{Name}
use Rattle.v_tree.specs.Reserved.{is_reserved}
use Rattle.v_tree.specs.Tokens.{begins, is_simple}
use Rattle.v_tree.specs.declared.names.Helper.{Helper}
use Rattle.v_tree.specs.declared.names.HelperKind.{HelperKind}
use Rattle.v_tree.specs.declared.names.HelperKind.TheVariants.{Cast, TwoState, Select, WildEq}
use Rattle.v_tree.specs.declared.names.Names.{Names}
use Rattle.v_tree.specs.declared.names.Names.TheVariants.{Paths, Plain}

-- The name of a path as it is printed: a simple name as it is, any other path as an escaped identifier, which is a backslash,
-- the path and one space (IEEE 1364-2005 clause 3.7.1).
abbrev pub printed : Name → List ℕ
printed path = if is_simple path then path else 92 ∷ (path ++ 32 ∷ [])

abbrev pub plain_byte : ℕ → ℕ
plain_byte c = if c == 46 || c == 91 || c == 45 then 95 else c

-- A path without its marks: `.`, `[` and `-` become `_`, and `]` is dropped.
abbrev pub marks_dropped : Name → Name
marks_dropped [] = []
marks_dropped (c ∷ path) = if c == 93 then marks_dropped path else plain_byte c ∷ marks_dropped path

-- what begins as helpers do
abbrev pub is_helper_like : Name → Bool
is_helper_like name = begins (codes "sv2v_") name

-- the plain form of a path, with `n_` in front of a reserved word and of what begins as helpers do
abbrev pub fronted : Name → Name
fronted name = if is_reserved name || is_helper_like name then codes "n_" ++ name else name

abbrev pub plain_form : Name → Name
plain_form path = fronted (marks_dropped path)

-- by the path at which place each name is taken
abbrev pub Taken : Type 0
Taken = Name → Option ℕ

abbrev pub given_to : Taken → Name → ℕ → Taken
given_to taken name place = λ q. if bytes_eq name q then Some place else taken q

abbrev pub numbered : Name → ℕ → Name
numbered name k = name ++ (95 ∷ decimal k)

-- The first of `name_k`, `name_k+1`, .. that isn't taken. Of so many in a row as there are paths, and one more, one is free.
abbrev pub free_from : ℕ → Taken → Name → ℕ → Name
free_from zero taken name k = numbered name k
free_from (suc more) taken name k = if is_some (taken (numbered name k)) then free_from more taken name (suc k) else numbered name k

abbrev pub free_name : ℕ → Taken → Name → Name
free_name count taken name = if is_some (taken name) then free_from count taken name 2 else name

-- the simple paths among these, which keep their names; the first one has this place
abbrev pub simple_taken : ℕ → Taken → List Name → Taken
simple_taken place taken [] = taken
simple_taken place taken (path ∷ paths) =
    simple_taken (suc place) (if is_simple path then given_to taken path place else taken) paths

-- names for paths one after the other, where some names are taken
abbrev pub plain_names : ℕ → ℕ → Taken → List Name → List Name
plain_names count place taken [] = []
plain_names count place taken (path ∷ paths) =
    if is_simple path then path ∷ plain_names count (suc place) taken paths
    else (let name = free_name count taken (plain_form path) in name ∷ plain_names count (suc place) (given_to taken name place) paths)

-- the names of one module's paths, in order; a simple path keeps its name in either mode
abbrev pub names_of : Names → List Name → List Name
names_of Paths paths = map printed paths
names_of Plain paths = plain_names (length paths) 0 (simple_taken 0 (λ q. None) paths) paths

-- the name of a helper function: its kind and the numbers that it hangs on
abbrev pub kind_text : HelperKind → List ℕ
kind_text Cast = codes "cast"
kind_text TwoState = codes "two_state"
kind_text (Select part index) = codes "select_" ++ (decimal part ++ (95 ∷ decimal index))
kind_text WildEq = codes "wild_eq"

abbrev pub helper_text : Helper → List ℕ
helper_text h = codes "sv2v_h_" ++ (kind_text h.kind ++ (95 ∷ decimal h.width))

-- its numbers are machine words
abbrev pub IsKind : HelperKind → Type 0
IsKind Cast = Unit {0}
IsKind TwoState = Unit {0}
IsKind (Select part index) = (part < 2 ^ 32) × (index < 2 ^ 32)
IsKind WildEq = Unit {0}

-- two helpers have two names
abbrev pub HelperNames : Type 0
HelperNames = (h k : Helper) → IsKind h.kind → IsKind k.kind → h.width < 2 ^ 32 → k.width < 2 ^ 32 → helper_text h ≡ helper_text k → h ≡ k
