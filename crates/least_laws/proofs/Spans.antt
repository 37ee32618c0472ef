-- Nodes of derivations, and the tokens that they span: each was read by a row of the table, its parts are those of the row, and they
-- stand behind one another.
use Rattle.std.proofs.Common.{◌≡◌, ℕ, zero, suc, ◌≤◌, Bool, true, false, ◌&&◌, ◌==◌, List, [], ◌∷◌, drop, Some, refl, sym, ap, ◌∙◌, subst, arith}
use Rattle.std.specs.Prelude.{if◌then◌else◌, slice_get}
use Rattle.std.proofs.lemmas.Bool.{eqb-true}
use Rattle.ll_engine.specs.declared.table.Part.{Part}
use Rattle.ll_engine.specs.declared.table.Part.TheVariants.{Term, Non, Maybe, Many, Chain}
use Rattle.ll_engine.specs.declared.table.Row.{Row}
use Rattle.ll_engine.specs.declared.tree.Tree.{Tree, Tree-F, out-Tree, out-roll-Tree}
use Rattle.ll_engine.specs.declared.tree.Tree.TheVariants.{Leaf, Node, rolls-Leaf, rolls-Node}
use Rattle.ll_engine.specs.Grammar.{terminal, named, is_optional, IsRowOf}
use Rattle.ll_engine.specs.Reading as G
use Rattle.ll_engine.specs.Reading.{Nested, at_nesting, left_after, level, inside}
use Rattle.ll_engine.specs.Texts.{Within}
use Rattle.sv_tree.specs.Table.{table}
use Rattle.expr_build.specs.Nodes.{kids_in, kids_of, kid, row_in, row_of, token_of, token, mark, mark_in, token_in, tree_or, is_none, is_blank}
use Rattle.expr_build.specs.Expressions.{nesting_limit}
use Rattle.least_laws.proofs.Tests.{left-of, right-of}

-- a leaf with its token, and a node
abbrev pub IsLeaf : ℕ → Tree → Type 0
IsLeaf at x = out-Tree x ≡ Tree-F.Leaf at

abbrev pub IsNode : Tree → Type 0
IsNode x = out-Tree x ≡ Tree-F.Node (row_of x) (kids_of x)

-- Trees that a row's parts give from one token up to, but not including, another one. Nesting is this at least, and within the limit at
-- each token.
pub data Conforms : ℕ → List Part → ℕ → List Tree → ℕ → Type 0 where
  ended : {n at to : ℕ} → at ≡ to → Conforms n [] at [] to
  symbol : {n at to s : ℕ} {p : Part} {ps : List Part} {x : Tree} {ts : List Tree}
      → terminal p ≡ Some s → n ≤ nesting_limit → IsLeaf at x → Conforms n ps (suc at) ts to → Conforms n (p ∷ ps) at (x ∷ ts) to
  node : {n at mid to h : ℕ} {p : Part} {ps : List Part} {x : Tree} {ts : List Tree} {row : Row}
      → named p ≡ Some h → IsRowOf table h (row_of x) row → IsNode x → Conforms (inside suc row n) row.parts at (kids_of x) mid
      → Conforms n (left_after p ps) mid ts to → Conforms n (p ∷ ps) at (x ∷ ts) to
  left_out : {n at to : ℕ} {p : Part} {ps : List Part} {ts : List Tree} → is_optional p ≡ true → Conforms n ps at ts to → Conforms n (p ∷ ps) at ts to

pub rises : {n at to : ℕ} {ps : List Part} {ts : List Tree} → Conforms n ps at ts to → at ≤ to
rises (Conforms.ended e) = omega (arith, e)
rises (Conforms.symbol e l is c) = let h = rises c in omega arith
rises (Conforms.node e there is c d) = let h = rises c in let k = rises d in omega arith
rises (Conforms.left_out o c) = rises c

-- a node that was read by a row of the head
pub record Spans (h n at : ℕ) (x : Tree) (to : ℕ) : Type 0 where
  pub row : Row
  pub is_row : IsRowOf table h (row_of x) row
  pub is_node : IsNode x
  pub fits : Conforms (inside suc row n) row.parts at (kids_of x) to
  pub rise : at ≤ to

pub spans : {h n at to : ℕ} {x : Tree} {row : Row} → IsRowOf table h (row_of x) row → IsNode x → Conforms (inside suc row n) row.parts at (kids_of x) to → Spans h n at x to
spans {row = row} there is c = record { row = row; is_row = there; is_node = is; fits = c; rise = rises c }

-- nesting is so deep at least
inside-above : (b : Bool) (n m : ℕ) → n ≤ m → (if b then suc n else n) ≤ (if b then suc m else m)
inside-above true n m h = omega arith
inside-above false n m h = h

pub inside-from : (b : Bool) (n : ℕ) → n ≤ (if b then suc n else n)
inside-from true n = omega arith
inside-from false n = omega arith

pub lower : {n at to : ℕ} {ps : List Part} {ts : List Tree} (m : ℕ) → m ≤ n → Conforms n ps at ts to → Conforms m ps at ts to
lower m h (Conforms.ended e) = Conforms.ended e
lower m h (Conforms.symbol e l is c) = Conforms.symbol e (omega arith) is (lower m h c)
lower {n} m h (Conforms.node {row = row} e there is c d) = Conforms.node e there is (lower (inside suc row m) (inside-above row.deep m n h) c) (lower m h d)
lower m h (Conforms.left_out o c) = Conforms.left_out o (lower m h c)

pub spans-lower : {h n at to : ℕ} {x : Tree} (m : ℕ) → m ≤ n → Spans h n at x to → Spans h m at x to
spans-lower {n = n} m h s = spans s.is_row s.is_node (lower (inside suc s.row m) (inside-above s.row.deep m n h) s.fits)

-- leaves and nodes
leaf-out : (at : ℕ) (x : Tree) → x ≡ Leaf at → IsLeaf at x
leaf-out at x e = ap out-Tree (e ∙ sym (rolls-Leaf at)) ∙ out-roll-Tree (Tree-F.Leaf at)

node-out : (i : ℕ) (kids : List Tree) (x : Tree) → x ≡ Node i kids → out-Tree x ≡ Tree-F.Node i kids
node-out i kids x e = ap out-Tree (e ∙ sym (rolls-Node i kids)) ∙ out-roll-Tree (Tree-F.Node i kids)

is-node : (i : ℕ) (kids : List Tree) (x : Tree) → x ≡ Node i kids → IsNode x
is-node i kids x e =
    let o = node-out i kids x e in
    o ∙ ap (λ j. Tree-F.Node j kids) (sym (ap row_in o)) ∙ ap (λ ys. Tree-F.Node (row_of x) ys) (sym (ap kids_in o))

token-at : (at : ℕ) (x : Tree) → IsLeaf at x → token_of x ≡ at
token-at at x e = ap token_in e

mark-at : (at : ℕ) (x : Tree) → IsLeaf at x → mark x ≡ at
mark-at at x e = ap (mark_in x) e

pub mark-node : (x : Tree) → IsNode x → mark x ≡ token 0 x
mark-node x e = ap (mark_in x) e

-- a derivation within the limit of nesting
level-above : (p : Part) (around turn : ℕ) → around ≤ turn → around ≤ level suc p around turn
level-above (Term a) around turn h = omega arith
level-above (Non g) around turn h = omega arith
level-above (Maybe g) around turn h = omega arith
level-above (Many g) around turn h = omega arith
level-above (Chain g) around turn h = omega arith

once : (p : Part) (ps : List Part) → is_optional p ≡ false → left_after p ps ≡ ps
once (Term a) ps e = refl
once (Non g) ps e = refl
once (Maybe g) ps e = refl
once (Many g) ps e = absurd (cc)
once (Chain g) ps e = absurd (cc)

a-node : {n at mid to h i : ℕ} {p : Part} {ps : List Part} {x : Tree} {kids ts : List Tree} {row : Row}
    → named p ≡ Some h → IsRowOf table h i row → x ≡ Node i kids → Conforms (inside suc row n) row.parts at kids mid → Conforms n (left_after p ps) mid ts to
    → Conforms n (p ∷ ps) at (x ∷ ts) to
a-node {n} {at} {mid} {h = h} {i = i} {x = x} {kids = kids} {row = row} e there is c d =
    let o = node-out i kids x is in
    Conforms.node e (subst (λ j. IsRowOf table h j row) (sym (ap row_in o)) there) (is-node i kids x is)
    (subst (λ ys. Conforms (inside suc row n) row.parts at ys mid) (sym (ap kids_in o)) c) d

pub conforms : {around turn at to : ℕ} {ps : List Part} {w rest : List Nested} {ts : List Tree} (n : ℕ) → n ≤ around → around ≤ turn
    → G.Reads table suc around turn ps at w ts to rest → Within nesting_limit w → Conforms n ps at ts to × Within nesting_limit rest
conforms n h k (G.Reads.ended e f) l = (Conforms.ended e, subst (λ v. Within nesting_limit v) f l)
conforms {around} n h k (G.Reads.symbol {at = at} {x = x} e m is r) l =
    let c = conforms n h (omega arith) r l.1 in
    (Conforms.symbol e (let a = l.0 in omega (arith, m)) (leaf-out at x is) c.0, c.1)
conforms {around} {turn} n h k (G.Reads.taken {n = m} {p = p} {row = row} e there begun d is r s) l =
    let above : around ≤ m = let a = level-above p around turn k in omega (arith, d) in
    let c = conforms (inside suc row n) (inside-above row.deep n m (omega arith)) (omega arith) r l in
    let b = conforms n h above s c.1 in
    (a-node e there is c.0 b.0, b.1)
conforms n h k (G.Reads.left_out o d r) l =
    let c = conforms n h (omega arith) r l in
    (Conforms.left_out o c.0, c.1)
conforms {around} n h k (G.Reads.empty {at = at} {mid = mid} {to = to} {p = p} {ps = ps} {row = row} {ts = ts} o e d there blank is r s) l =
    let c = conforms (inside suc row n) (inside-above row.deep n around h) (omega arith) r l in
    let b = conforms n h (omega arith) s c.1 in
    (a-node e there is c.0 (subst (λ qs. Conforms n qs mid ts to) (sym (once p ps o)) b.0), b.1)

-- What a row says of its parts: a token, a node of a head, and as many nodes of a head as there are, at the end.
pub data Shape : Type 0 where
  Token : Shape
  One : ℕ → Shape
  Each : ℕ → Shape

abbrev pub AllSpan : ℕ → ℕ → ℕ → List Tree → ℕ → Type 0
AllSpan h n at [] to = at ≡ to
AllSpan h n at (x ∷ xs) to = (mid : ℕ) × (at ≤ mid) × Spans h n at x mid × AllSpan h n mid xs to

-- the parts of a node from a place on
abbrev pub Facts : List Shape → ℕ → ℕ → Tree → ℕ → ℕ → Type 0
Facts [] i n t at to = at ≡ to
Facts (Token ∷ ss) i n t at to = (token i t ≡ at) × (mark (kid i t) ≡ at) × Facts ss (suc i) n t (suc at) to
Facts (One h ∷ ss) i n t at to = (mid : ℕ) × (at ≤ mid) × Spans h n at (kid i t) mid × Facts ss (suc i) n t mid to
Facts (Each h ∷ ss) i n t at to = AllSpan h n at (drop i (kids_of t)) to

abbrev pub is_head : ℕ → Part → Bool
is_head h (Term a) = false
is_head h (Non g) = g == h
is_head h (Maybe g) = false
is_head h (Many g) = false
is_head h (Chain g) = false

abbrev pub is_list : ℕ → Part → Bool
is_list h (Term a) = false
is_list h (Non g) = false
is_list h (Maybe g) = g == h
is_list h (Many g) = g == h
is_list h (Chain g) = g == h

abbrev pub is_term : Part → Bool
is_term (Term a) = true
is_term (Non g) = false
is_term (Maybe g) = false
is_term (Many g) = false
is_term (Chain g) = false

abbrev pub is_end : List Part → Bool
is_end [] = true
is_end (p ∷ ps) = false

abbrev pub fits : List Shape → List Part → Bool
fits [] ps = is_end ps
fits (s ∷ ss) [] = false
fits (Token ∷ ss) (p ∷ ps) = is_term p && fits ss ps
fits (One h ∷ ss) (p ∷ ps) = is_head h p && fits ss ps
fits (Each h ∷ ss) (p ∷ ps) = is_list h p && is_end ps

-- the first of the parts
record Front (P : Tree → ℕ → Type 0) (n : ℕ) (ps : List Part) (ts : List Tree) (to : ℕ) : Type 0 where
  first : Tree
  others : List Tree
  mid : ℕ
  is : ts ≡ first ∷ others
  of : P first mid
  rest : Conforms n ps mid others to

of-named : {g h n at to : ℕ} {x : Tree} {row : Row} → Some g ≡ Some h → IsRowOf table h (row_of x) row → IsNode x
    → Conforms (inside suc row n) row.parts at (kids_of x) to → Spans g n at x to
of-named {g} {h} {x = x} {row = row} e there is c = let same : h ≡ g = cc in spans (subst (λ q. IsRowOf table q (row_of x) row) same there) is c

term-front : {n a at to : ℕ} {ps : List Part} {ts : List Tree} → Conforms n (Term a ∷ ps) at ts to → Front (λ x m. IsLeaf at x × (m ≡ suc at)) n ps ts to
term-front {at = at} (Conforms.symbol {x = x} {ts = ts} e l is c) = record { first = x; others = ts; mid = suc at; is = refl; of = (is, refl); rest = c }
term-front (Conforms.node e there is c d) = absurd (cc)
term-front (Conforms.left_out o c) = absurd (cc)

non-front : {n g at to : ℕ} {ps : List Part} {ts : List Tree} → Conforms n (Non g ∷ ps) at ts to → Front (λ x m. Spans g n at x m) n ps ts to
non-front (Conforms.symbol e l is c) = absurd (cc)
non-front (Conforms.node {mid = mid} {x = x} {ts = ts} e there is c d) = record { first = x; others = ts; mid = mid; is = refl; of = of-named e there is c; rest = d }
non-front (Conforms.left_out o c) = absurd (cc)

-- as many as there are
no-more : {n at to : ℕ} {ts : List Tree} (h : ℕ) → Conforms n [] at ts to → AllSpan h n at ts to
no-more h (Conforms.ended e) = e

many-span : {h n at to : ℕ} {ts : List Tree} → Conforms n (Many h ∷ []) at ts to → AllSpan h n at ts to
many-span (Conforms.symbol e l is c) = absurd (cc)
many-span (Conforms.node {mid = mid} e there is c d) = (mid, rises c, of-named e there is c, many-span d)
many-span {h} (Conforms.left_out o c) = no-more h c

chain-span : {h n at to : ℕ} {ts : List Tree} → Conforms n (Chain h ∷ []) at ts to → AllSpan h n at ts to
chain-span (Conforms.symbol e l is c) = absurd (cc)
chain-span (Conforms.node {mid = mid} e there is c d) = (mid, rises c, of-named e there is c, chain-span d)
chain-span {h} (Conforms.left_out o c) = no-more h c

maybe-span : {h n at to : ℕ} {ts : List Tree} → Conforms n (Maybe h ∷ []) at ts to → AllSpan h n at ts to
maybe-span (Conforms.symbol e l is c) = absurd (cc)
maybe-span {h} (Conforms.node {mid = mid} e there is c d) = (mid, rises c, of-named e there is c, no-more h d)
maybe-span {h} (Conforms.left_out o c) = no-more h c

list-span : (p : Part) (h n at to : ℕ) (ts : List Tree) → is_list h p ≡ true → Conforms n (p ∷ []) at ts to → AllSpan h n at ts to
list-span (Term a) h n at to ts f c = absurd (cc)
list-span (Non g) h n at to ts f c = absurd (cc)
list-span (Maybe g) h n at to ts f c = subst (λ q. AllSpan q n at ts to) (eqb-true g h f) (maybe-span c)
list-span (Many g) h n at to ts f c = subst (λ q. AllSpan q n at ts to) (eqb-true g h f) (many-span c)
list-span (Chain g) h n at to ts f c = subst (λ q. AllSpan q n at ts to) (eqb-true g h f) (chain-span c)

-- parts by their places
get-drop : (i : ℕ) (ks : List Tree) (x : Tree) (xs : List Tree) → drop i ks ≡ x ∷ xs → slice_get ks i ≡ Some x
get-drop zero [] x xs e = absurd (cc)
get-drop (suc i) [] x xs e = absurd (cc)
get-drop zero (k ∷ ks) x xs e = ap (λ ys. slice_get ys 0) e
get-drop (suc i) (k ∷ ks) x xs e = get-drop i ks x xs e

drop-next : (i : ℕ) (ks : List Tree) (x : Tree) (xs : List Tree) → drop i ks ≡ x ∷ xs → drop (suc i) ks ≡ xs
drop-next zero [] x xs e = absurd (cc)
drop-next (suc i) [] x xs e = absurd (cc)
drop-next zero (k ∷ ks) x xs e = cc
drop-next (suc i) (k ∷ ks) x xs e = drop-next i ks x xs e

kid-is : (i : ℕ) (t x : Tree) (xs : List Tree) → drop i (kids_of t) ≡ x ∷ xs → kid i t ≡ x
kid-is i t x xs e = ap (tree_or t) (get-drop i (kids_of t) x xs e)

no-part : {n at to : ℕ} {ts : List Tree} → Conforms n [] at ts to → at ≡ to
no-part (Conforms.ended e) = e

module _ (t : Tree) (n to : ℕ) where
  pub facts : (ss : List Shape) (ps : List Part) (i at : ℕ) (ts : List Tree) → fits ss ps ≡ true → drop i (kids_of t) ≡ ts → Conforms n ps at ts to → Facts ss i n t at to
  facts [] [] i at ts f e c = no-part c
  facts [] (p ∷ ps) i at ts f e c = absurd (cc)
  facts (s ∷ ss) [] i at ts f e c = absurd (cc)
  facts (Token ∷ ss) (Term a ∷ ps) i at ts f e c =
      let r = term-front c in
      let d = e ∙ r.is in
      let k = kid-is i t r.first r.others d in (
        ap token_of k ∙ token-at at r.first r.of.0,
        ap mark k ∙ mark-at at r.first r.of.0,
        facts ss ps (suc i) (suc at) r.others f (drop-next i (kids_of t) r.first r.others d) (subst (λ m. Conforms n ps m r.others to) r.of.1 r.rest),
      )
  facts (Token ∷ ss) (Non g ∷ ps) i at ts f e c = absurd (cc)
  facts (Token ∷ ss) (Maybe g ∷ ps) i at ts f e c = absurd (cc)
  facts (Token ∷ ss) (Many g ∷ ps) i at ts f e c = absurd (cc)
  facts (Token ∷ ss) (Chain g ∷ ps) i at ts f e c = absurd (cc)
  facts (One h ∷ ss) (Non g ∷ ps) i at ts f e c =
      let r = non-front c in
      let d = e ∙ r.is in
      let k = kid-is i t r.first r.others d in
      let same = eqb-true g h (left-of (g == h) (fits ss ps) f) in (
        r.mid,
        r.of.rise,
        subst (λ q. Spans q n at (kid i t) r.mid) same (subst (λ x. Spans g n at x r.mid) (sym k) r.of),
        facts ss ps (suc i) r.mid r.others (right-of (g == h) (fits ss ps) f) (drop-next i (kids_of t) r.first r.others d) r.rest,
      )
  facts (One h ∷ ss) (Term g ∷ ps) i at ts f e c = absurd (cc)
  facts (One h ∷ ss) (Maybe g ∷ ps) i at ts f e c = absurd (cc)
  facts (One h ∷ ss) (Many g ∷ ps) i at ts f e c = absurd (cc)
  facts (One h ∷ ss) (Chain g ∷ ps) i at ts f e c = absurd (cc)
  facts (Each h ∷ ss) (p ∷ []) i at ts f e c = subst (λ ys. AllSpan h n at ys to) (sym e) (list-span p h n at to ts (left-of (is_list h p) true f) c)
  facts (Each h ∷ ss) (p ∷ q ∷ ps) i at ts f e c = absurd (let g = right-of (is_list h p) false f in cc)

-- a node without parts
blank-ends : {n at to : ℕ} {ps : List Part} {ts : List Tree} → Conforms n ps at ts to → is_none ts ≡ true → at ≡ to
blank-ends (Conforms.ended e) f = e
blank-ends (Conforms.symbol e l is c) f = absurd (cc)
blank-ends (Conforms.node e there is c d) f = absurd (cc)
blank-ends (Conforms.left_out o c) f = blank-ends c f

pub blank-span : {h n at to : ℕ} {x : Tree} → is_blank x ≡ true → Spans h n at x to → at ≡ to
blank-span f s = blank-ends s.fits f

-- a node that is read alone
pub whole-span : {h n at to : ℕ} {x : Tree} → Conforms n (Non h ∷ []) at (x ∷ []) to → Spans h n at x to
whole-span (Conforms.symbol e l is c) = absurd (cc)
whole-span {h} {n} {at} {x = x} (Conforms.node e there is c d) = subst (λ m. Spans h n at x m) (no-part d) (of-named e there is c)
whole-span (Conforms.left_out o c) = absurd (cc)
