-- The parts of a node of a derivation, by their places in its row. In the place of a part that a node doesn't have stands the node
-- itself: in a derivation each node has the parts of its row.
use Rattle.std.specs.Prelude.{ℕ, Bool, true, false, List, [], ◌∷◌, map, Option, Some, None, slice_get, if◌then◌else◌}
use Rattle.ll_engine.specs.declared.tree.Tree.{Tree, Tree-F, out-Tree}

abbrev pub kids_in : Tree-F Tree → List Tree
kids_in (Tree-F.Leaf at) = []
kids_in (Tree-F.Node row kids) = kids

abbrev pub kids_of : Tree → List Tree
kids_of tree = kids_in (out-Tree tree)

-- the row that a node was read by
abbrev pub row_in : Tree-F Tree → ℕ
row_in (Tree-F.Leaf at) = 0
row_in (Tree-F.Node row kids) = row

abbrev pub row_of : Tree → ℕ
row_of tree = row_in (out-Tree tree)

-- the token of a leaf
abbrev pub token_in : Tree-F Tree → ℕ
token_in (Tree-F.Leaf at) = at
token_in (Tree-F.Node row kids) = 0

abbrev pub token_of : Tree → ℕ
token_of tree = token_in (out-Tree tree)

abbrev pub tree_or : Tree → Option Tree → Tree
tree_or other None = other
tree_or other (Some tree) = tree

-- the part in a place, and its token
abbrev pub kid : ℕ → Tree → Tree
kid place tree = tree_or tree (slice_get (kids_of tree) place)

abbrev pub token : ℕ → Tree → ℕ
token place tree = token_of (kid place tree)

-- a leaf's token, or that of a node's first part
abbrev pub mark_in : Tree → Tree-F Tree → ℕ
mark_in tree (Tree-F.Leaf at) = at
mark_in tree (Tree-F.Node row kids) = token 0 tree

abbrev pub mark : Tree → ℕ
mark tree = mark_in tree (out-Tree tree)

-- a head that was read as empty
abbrev pub is_none : List Tree → Bool
is_none [] = true
is_none (t ∷ ts) = false

abbrev pub is_blank : Tree → Bool
is_blank tree = is_none (kids_of tree)

-- a head that may be empty
abbrev pub optional : {A : Type 0} → (Tree → A) → Tree → Option A
optional read tree = if is_blank tree then None else Some (read tree)

-- a first item, and further ones behind a mark each; or none
abbrev pub behind_marks : {A : Type 0} → (Tree → A) → List Tree → List A
behind_marks read trees = map (λ next. read (kid 1 next)) trees

abbrev pub separated : {A : Type 0} → (Tree → A) → List Tree → List A
separated read [] = []
separated read (first ∷ rest) = read first ∷ behind_marks read rest
