-- What a derivation means by the tokens that the reader keeps, and how a node is read from its last part to its first.
use Rattle.std.specs.Prelude.{◌≡◌, ◌<◌, ℕ, ◌+◌, suc, List, [], ◌∷◌, ◌++◌, map, reverse, Option, Some, None, slice_get}
use Rattle.ll_engine.specs.declared.tree.Tree.{Tree, Tree-F, fold-Tree}
use Rattle.v_lexer.specs.declared.token.Says.{Says}
use Rattle.v_lexer.specs.declared.token.Says.TheVariants as S
use Rattle.v_lexer.specs.declared.token.VToken.{VToken}
use Rattle.v_tree.specs.declared.parts.VPart.{VPart}
use Rattle.v_tree.specs.declared.parts.VPart.TheVariants as P
use Rattle.v_rows.specs.Rows.{meaning_of}
use Rattle.v_parse.specs.declared.walk.Open.{Open}
use Rattle.v_parse.specs.declared.walk.Walk.{Walk}

-- what a kept token means
abbrev pub said : Says → VPart
said S.Nothing = P.Nothing
said (S.Name bytes) = P.Name bytes
said (S.Number bits) = P.Number bits
said (S.Decimal value) = P.Decimal value

abbrev pub kept : Option VToken → VPart
kept None = P.Nothing
kept (Some t) = said t.says

abbrev pub kept_step : List VToken → Tree-F VPart → VPart
kept_step tokens (Tree-F.Leaf at) = kept (slice_get tokens at)
kept_step tokens (Tree-F.Node row kids) = meaning_of row kids

-- what a derivation of these tokens means
unfoldable pub kept_part : List VToken → Tree → VPart
kept_part tokens tree = fold-Tree VPart (kept_step tokens) tree

-- what a node means that is being read
abbrev pub closed : List VToken → Open → VPart
closed tokens f = meaning_of f.row (map (kept_part tokens) f.left ++ reverse f.parts)

-- what it means where one part more is read
abbrev pub with_part : List VToken → Open → VPart → VPart
with_part tokens f v = meaning_of f.row (map (kept_part tokens) f.left ++ (v ∷ reverse f.parts))

-- what the outermost node means, by what the innermost of these has as its next part
abbrev pub around : List VToken → List Open → VPart → VPart
around tokens [] v = v
around tokens (f ∷ fs) v = with_part tokens f (around tokens fs v)

abbrev pub walked : List VToken → Walk → VPart
walked tokens w = around tokens w.around (closed tokens w.top)

-- how many steps are left at most
abbrev pub total : List ℕ → ℕ
total [] = 0
total (n ∷ ns) = n + total ns

abbrev pub nodes_step : Tree-F ℕ → ℕ
nodes_step (Tree-F.Leaf at) = 1
nodes_step (Tree-F.Node row kids) = suc (suc (total kids))

unfoldable pub nodes : Tree → ℕ
nodes tree = fold-Tree ℕ nodes_step tree

abbrev pub weight : Open → ℕ
weight f = suc (total (map nodes f.left))

abbrev pub steps_left : Walk → ℕ
steps_left w = total (map weight w.around) + weight w.top

-- a step goes on, with as much to mean and less to read, or is the last
abbrev pub Steps : List VToken → Walk → Walk → Option VPart → Type 0
Steps tokens old new None = (walked tokens new ≡ walked tokens old) × (steps_left new < steps_left old)
Steps tokens old new (Some part) = part ≡ walked tokens old
