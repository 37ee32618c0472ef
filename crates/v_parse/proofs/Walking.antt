-- Reading a node from its last part to its first keeps what it means.
use Rattle.std.proofs.Common.{◌≡◌, ◌<◌, ℕ, ◌+◌, suc, List, [], ◌∷◌, ◌++◌, map, reverse, slice_get, refl, sym, ap, ◌∙◌, append_assoc, arith}
use Rattle.std.proofs.lemmas.List.{reverse-append, map_push, append-nil}
use Rattle.ll_engine.specs.declared.tree.Tree.{Tree, Tree-F, fold-roll-Tree}
use Rattle.ll_engine.specs.declared.tree.Tree.TheVariants.{Leaf, Node, rolls-Leaf, rolls-Node}
use Rattle.v_lexer.specs.declared.token.VToken.{VToken}
use Rattle.v_tree.specs.declared.parts.VPart.{VPart}
use Rattle.v_rows.specs.Rows.{meaning_of}
use Rattle.v_parse.specs.declared.walk.Open.{Open}
use Rattle.v_parse.specs.declared.walk.Walk.{Walk}
use Rattle.v_parse.specs.Walking.{kept, kept_step, kept_part, closed, with_part, around, walked, total, nodes_step, nodes, weight, steps_left}

pub kept-leaf : (ts : List VToken) (at : ℕ) → kept_part ts (Leaf at) ≡ kept (slice_get ts at)
unfolding kept_part
kept-leaf ts at = ap (kept_part ts) (sym (rolls-Leaf at)) ∙ fold-roll-Tree VPart (kept_step ts) (Tree-F.Leaf at)

pub kept-node : (ts : List VToken) (row : ℕ) (kids : List Tree) → kept_part ts (Node row kids) ≡ meaning_of row (map (kept_part ts) kids)
unfolding kept_part
kept-node ts row kids = ap (kept_part ts) (sym (rolls-Node row kids)) ∙ fold-roll-Tree VPart (kept_step ts) (Tree-F.Node row kids)

pub nodes-leaf : (at : ℕ) → nodes (Leaf at) ≡ 1
unfolding nodes
nodes-leaf at = ap nodes (sym (rolls-Leaf at)) ∙ fold-roll-Tree ℕ nodes_step (Tree-F.Leaf at)

pub nodes-node : (row : ℕ) (kids : List Tree) → nodes (Node row kids) ≡ suc (suc (total (map nodes kids)))
unfolding nodes
nodes-node row kids = ap nodes (sym (rolls-Node row kids)) ∙ fold-roll-Tree ℕ nodes_step (Tree-F.Node row kids)

-- a part more that was read, and one that is next
pub read-one : (ts : List VToken) (row : ℕ) (left : List Tree) (parts : List VPart) (v : VPart)
    → meaning_of row (map (kept_part ts) left ++ reverse (parts ++ (v ∷ []))) ≡ meaning_of row (map (kept_part ts) left ++ (v ∷ reverse parts))
read-one ts row left parts v = ap (λ (ps : List VPart). meaning_of row (map (kept_part ts) left ++ ps)) (reverse-append parts (v ∷ []))

pub next-one : (ts : List VToken) (row : ℕ) (left : List Tree) (t : Tree) (ps : List VPart)
    → meaning_of row (map (kept_part ts) (left ++ (t ∷ [])) ++ ps) ≡ meaning_of row (map (kept_part ts) left ++ (kept_part ts t ∷ ps))
next-one ts row left t ps =
    ap (λ (xs : List VPart). meaning_of row (xs ++ ps)) (map_push (kept_part ts) left t)
    ∙ ap (meaning_of row) (append_assoc (map (kept_part ts) left) (kept_part ts t ∷ []) ps)

pub none-read : (ts : List VToken) (row : ℕ) (kids : List Tree) → meaning_of row (map (kept_part ts) kids ++ []) ≡ kept_part ts (Node row kids)
none-read ts row kids = ap (meaning_of row) (append-nil (map (kept_part ts) kids)) ∙ sym (kept-node ts row kids)

pub around-push : (ts : List VToken) (fs : List Open) (f : Open) (v : VPart) → around ts (fs ++ (f ∷ [])) v ≡ around ts fs (with_part ts f v)
around-push ts [] f v = refl
around-push ts (g ∷ gs) f v = ap (with_part ts g) (around-push ts gs f v)

pub total-push : (ns : List ℕ) (n : ℕ) → total (ns ++ (n ∷ [])) ≡ total ns + n
total-push [] n = omega arith
total-push (m ∷ ns) n = omega (arith, total-push ns n)

pub total-map-push : {A : Type 0} (f : A → ℕ) (xs : List A) (x : A) → total (map f (xs ++ (x ∷ []))) ≡ total (map f xs) + f x
total-map-push f xs x = ap total (map_push f xs x) ∙ total-push (map f xs) (f x)

-- the nodes from this one on, with another part or with parts that are left
abbrev read : Open → List VPart → Open
read f parts = record { row = f.row; left = f.left; parts = parts }

abbrev left_with : Walk → List Tree → Walk
left_with w left = record { top = record { row = w.top.row; left = left; parts = w.top.parts }; around = w.around }

-- what a step keeps, and how much it leaves
pub record Keeps (ts : List VToken) (new : Walk) (whole : VPart) (most : ℕ) : Type 0 where
  pub means : walked ts new ≡ whole
  pub smaller : steps_left new < most

-- the innermost node ends
pub leaves : (ts : List VToken) (old : Walk) (fs : List Open) (outer dest inner : Open) (parts : List VPart) (part : VPart)
    → old.top.left ≡ [] → old.around ≡ fs ++ (outer ∷ []) → dest ≡ outer → inner ≡ old.top
    → part ≡ meaning_of inner.row (reverse inner.parts) → parts ≡ dest.parts ++ (part ∷ [])
    → Keeps ts (record { top = read dest parts; around = fs }) (walked ts old) (steps_left old)
leaves ts old fs outer dest inner parts part left_is around_is dest_is inner_is part_is parts_is =
    let one : closed ts (read dest parts) ≡ with_part ts dest part =
    ap (λ (ps : List VPart). meaning_of dest.row (map (kept_part ts) dest.left ++ reverse ps)) parts_is ∙ read-one ts dest.row dest.left dest.parts part in
    let two : with_part ts dest part ≡ with_part ts outer part = ap (λ (f : Open). with_part ts f part) dest_is in
    let three : part ≡ closed ts old.top =
    part_is ∙ ap (λ (f : Open). meaning_of f.row (reverse f.parts)) inner_is
    ∙ sym (ap (λ (ls : List Tree). meaning_of old.top.row (map (kept_part ts) ls ++ reverse old.top.parts)) left_is) in
    let counted : total (map weight old.around) ≡ total (map weight fs) + weight outer =
    ap (λ (gs : List Open). total (map weight gs)) around_is ∙ total-map-push weight fs outer in
    let same : weight dest ≡ weight outer = ap weight dest_is in
    record {
      means =
          ap (around ts fs) (one ∙ two ∙ ap (with_part ts outer) three)
          ∙ sym (around-push ts fs outer (closed ts old.top))
          ∙ sym (ap (λ (gs : List Open). around ts gs (closed ts old.top)) around_is);
      smaller = omega (arith, counted, same);
    }

-- a token is read
pub enters-leaf : (ts : List VToken) (old : Walk) (tree : Tree) (place : ℕ) (parts : List VPart) (part : VPart)
    → tree ≡ Leaf place → part ≡ kept (slice_get ts place) → parts ≡ old.top.parts ++ (part ∷ [])
    → Keeps ts (record { top = read old.top parts; around = old.around }) (around ts old.around (with_part ts old.top (kept_part ts tree))) (steps_left old + nodes tree)
enters-leaf ts old tree place parts part tree_is part_is parts_is =
    let one : closed ts (read old.top parts) ≡ with_part ts old.top part =
    ap (λ (ps : List VPart). meaning_of old.top.row (map (kept_part ts) old.top.left ++ reverse ps)) parts_is ∙ read-one ts old.top.row old.top.left old.top.parts part in
    let two : part ≡ kept_part ts tree = part_is ∙ sym (kept-leaf ts place) ∙ sym (ap (kept_part ts) tree_is) in
    let some : nodes tree ≡ 1 = ap nodes tree_is ∙ nodes-leaf place in
    record { means = ap (around ts old.around) (one ∙ ap (with_part ts old.top) two); smaller = omega (arith, some) }

-- a node begins
pub enters-node : (ts : List VToken) (old : Walk) (tree : Tree) (row : ℕ) (kids : List Tree) (outer top : Open) (fs : List Open)
    → tree ≡ Node row kids → outer ≡ old.top → top ≡ record { row = row; left = kids; parts = [] } → fs ≡ old.around ++ (outer ∷ [])
    → Keeps ts (record { top = top; around = fs }) (around ts old.around (with_part ts old.top (kept_part ts tree))) (steps_left old + nodes tree)
enters-node ts old tree row kids outer top fs tree_is outer_is top_is fs_is =
    let one : closed ts top ≡ kept_part ts tree =
    ap (closed ts) top_is ∙ none-read ts row kids ∙ sym (ap (kept_part ts) tree_is) in
    let two : weight top ≡ suc (total (map nodes kids)) = ap weight top_is in
    let some : nodes tree ≡ suc (suc (total (map nodes kids))) = ap nodes tree_is ∙ nodes-node row kids in
    let counted : total (map weight fs) ≡ total (map weight old.around) + weight outer =
    ap (λ (gs : List Open). total (map weight gs)) fs_is ∙ total-map-push weight old.around outer in
    let same : weight outer ≡ weight old.top = ap weight outer_is in
    record {
      means =
          ap (λ (gs : List Open). around ts gs (closed ts top)) fs_is
          ∙ around-push ts old.around outer (closed ts top)
          ∙ ap (λ (f : Open). around ts old.around (with_part ts f (closed ts top))) outer_is
          ∙ ap (λ (v : VPart). around ts old.around (with_part ts old.top v)) one;
      smaller = omega (arith, two, some, counted, same);
    }

-- the next part of the innermost node is entered
pub steps-on : (ts : List VToken) (old new : Walk) (left : List Tree) (tree : Tree) → old.top.left ≡ left ++ (tree ∷ [])
    → walked ts new ≡ around ts old.around (with_part ts (left_with old left).top (kept_part ts tree)) → steps_left new < steps_left (left_with old left) + nodes tree
    → Keeps ts new (walked ts old) (steps_left old)
steps-on ts old new left tree left_is means smaller =
    let one : closed ts old.top ≡ with_part ts (left_with old left).top (kept_part ts tree) =
    ap (λ (ls : List Tree). meaning_of old.top.row (map (kept_part ts) ls ++ reverse old.top.parts)) left_is
    ∙ next-one ts old.top.row left tree (reverse old.top.parts) in
    let counted : total (map nodes old.top.left) ≡ total (map nodes left) + nodes tree =
    ap (λ (ls : List Tree). total (map nodes ls)) left_is ∙ total-map-push nodes left tree in
    record { means = means ∙ sym (ap (around ts old.around) one); smaller = omega (arith, smaller, counted) }

-- no part of a node is read yet
pub begins : (ts : List VToken) (row : ℕ) (kids : List Tree) (top : Open) (fs : List Open) → top ≡ record { row = row; left = kids; parts = [] } → fs ≡ []
    → walked ts (record { top = top; around = fs }) ≡ kept_part ts (Node row kids)
begins ts row kids top fs top_is fs_is =
    ap (λ (gs : List Open). around ts gs (closed ts top)) fs_is ∙ ap (closed ts) top_is ∙ none-read ts row kids
