-- What a derivation means, one node at a time.
use Rattle.std.proofs.Common.{◌≡◌, ℕ, List, map, slice_get, sym, ap, ◌∙◌}
use Rattle.ll_engine.specs.declared.tree.Tree.{Tree, Tree-F, fold-roll-Tree}
use Rattle.ll_engine.specs.declared.tree.Tree.TheVariants.{Leaf, Node, rolls-Leaf, rolls-Node}
use Rattle.v_tree.specs.declared.parts.VPart.{VPart}
use Rattle.v_tree.specs.Tokens.{Token}
use Rattle.v_tree.specs.Meaning.{row_meanings, by_row, token_part, node_part, part_of}

pub leaf-part : (all : List Token) (at : ℕ) → part_of all (Leaf at) ≡ token_part (slice_get all at)
leaf-part all at = ap (part_of all) (sym (rolls-Leaf at)) ∙ fold-roll-Tree VPart (node_part all) (Tree-F.Leaf at)

pub node-part : (all : List Token) (row : ℕ) (kids : List Tree)
    → part_of all (Node row kids) ≡ by_row (slice_get row_meanings row) (map (part_of all) kids)
node-part all row kids =
    ap (part_of all) (sym (rolls-Node row kids)) ∙ fold-roll-Tree VPart (node_part all) (Tree-F.Node row kids)
