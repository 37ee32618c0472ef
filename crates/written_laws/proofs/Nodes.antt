-- Nodes of derivations: each was read by a row of the table, and its parts are those of the row.
use Rattle.std.proofs.Common.{◌≡◌, ℕ, zero, suc, Bool, true, false, ◌&&◌, ◌==◌, List, [], ◌∷◌, drop, Some, refl, sym, ap, ◌∙◌, subst}
use Rattle.std.specs.Prelude.{⊤, slice_get}
use Rattle.std.proofs.lemmas.Bool.{eqb-true}
use Rattle.ll_engine.specs.declared.table.Part.{Part}
use Rattle.ll_engine.specs.declared.table.Part.TheVariants.{Term, Non, Maybe, Many, Chain}
use Rattle.ll_engine.specs.declared.table.Row.{Row}
use Rattle.ll_engine.specs.declared.tree.Tree.{Tree, Tree-F, out-roll-Tree}
use Rattle.ll_engine.specs.declared.tree.Tree.TheVariants.{Leaf, Node, rolls-Leaf, rolls-Node}
use Rattle.ll_engine.specs.Grammar.{terminal, named, is_optional, IsRowOf}
use Rattle.ll_engine.specs.Reading as G
use Rattle.ll_engine.specs.Reading.{Nested, left_after}
use Rattle.sv_tree.specs.Heads as head
use Rattle.sv_tree.specs.Table.{table, plain}
use Rattle.expr_build.specs.Nodes.{kids_in, kids_of, kid, row_in, row_of, tree_or, is_none, is_blank}
use Rattle.written_laws.proofs.Tests.{left-of, right-of}

-- Trees that a row's parts give, whatever their text. A leaf is seen as a node of row 0 without parts.
pub data Conforms : List Part → List Tree → Type 0 where
  ended : Conforms [] []
  symbol : {p : Part} {ps : List Part} {x : Tree} {ts : List Tree} {s : ℕ}
      → terminal p ≡ Some s → row_of x ≡ 0 → kids_of x ≡ [] → Conforms ps ts → Conforms (p ∷ ps) (x ∷ ts)
  node : {p : Part} {ps : List Part} {x : Tree} {ts : List Tree} {h : ℕ} {row : Row}
      → named p ≡ Some h → IsRowOf table h (row_of x) row → Conforms row.parts (kids_of x) → Conforms (left_after p ps) ts → Conforms (p ∷ ps) (x ∷ ts)
  left_out : {p : Part} {ps : List Part} {ts : List Tree} → is_optional p ≡ true → Conforms ps ts → Conforms (p ∷ ps) ts

-- a node that was read by a row of the head
pub record OfHead (h : ℕ) (x : Tree) : Type 0 where
  pub row : Row
  pub is_row : IsRowOf table h (row_of x) row
  pub fits : Conforms row.parts (kids_of x)

pub record Good (x : Tree) : Type 0 where
  pub number : ℕ
  pub is : OfHead number x

pub good : {h : ℕ} {x : Tree} → OfHead h x → Good x
good {h} o = record { number = h; is = o }

abbrev pub AllGood : List Tree → Type 0
AllGood [] = ⊤
AllGood (x ∷ xs) = Good x × AllGood xs

abbrev pub AllOf : ℕ → List Tree → Type 0
AllOf h [] = ⊤
AllOf h (x ∷ xs) = OfHead h x × AllOf h xs

pub all-good : (h : ℕ) (ts : List Tree) → AllOf h ts → AllGood ts
all-good h [] a = tt
all-good h (t ∷ ts) a = (good a.0, all-good h ts a.1)

-- leaves and nodes
leaf-kids : (at : ℕ) (x : Tree) → x ≡ Leaf at → kids_of x ≡ []
leaf-kids at x e = ap kids_of e ∙ ap kids_of (sym (rolls-Leaf at)) ∙ ap kids_in (out-roll-Tree (Tree-F.Leaf at))

leaf-row : (at : ℕ) (x : Tree) → x ≡ Leaf at → row_of x ≡ 0
leaf-row at x e = ap row_of e ∙ ap row_of (sym (rolls-Leaf at)) ∙ ap row_in (out-roll-Tree (Tree-F.Leaf at))

node-kids : (row : ℕ) (kids : List Tree) (x : Tree) → x ≡ Node row kids → kids_of x ≡ kids
node-kids row kids x e = ap kids_of e ∙ ap kids_of (sym (rolls-Node row kids)) ∙ ap kids_in (out-roll-Tree (Tree-F.Node row kids))

node-row : (row : ℕ) (kids : List Tree) (x : Tree) → x ≡ Node row kids → row_of x ≡ row
node-row row kids x e = ap row_of e ∙ ap row_of (sym (rolls-Node row kids)) ∙ ap row_in (out-roll-Tree (Tree-F.Node row kids))

once : (p : Part) (ps : List Part) → is_optional p ≡ false → left_after p ps ≡ ps
once (Term a) ps e = refl
once (Non h) ps e = refl
once (Maybe h) ps e = refl
once (Many h) ps e = absurd (cc)
once (Chain h) ps e = absurd (cc)

-- a derivation without its text
pub conforms : {around turn at to : ℕ} {ps : List Part} {w rest : List Nested} {ts : List Tree} → G.Reads table suc around turn ps at w ts to rest → Conforms ps ts
conforms (G.Reads.ended e f) = Conforms.ended
conforms (G.Reads.symbol {at = at} {x = x} e n is r) = Conforms.symbol e (leaf-row at x is) (leaf-kids at x is) (conforms r)
conforms (G.Reads.taken {h = h} {i = i} {row = row} {x = x} {kids = kids} e there begun n is r s) =
    Conforms.node e (subst (λ j. IsRowOf table h j row) (sym (node-row i kids x is)) there) (subst (λ ys. Conforms row.parts ys) (sym (node-kids i kids x is)) (conforms r)) (conforms s)
conforms (G.Reads.left_out o n r) = Conforms.left_out o (conforms r)
conforms (G.Reads.empty {h = h} {i = i} {p = p} {ps = ps} {row = row} {x = x} {kids = kids} {ts = ts} o e n there blank is r s) =
    Conforms.node e (subst (λ j. IsRowOf table h j row) (sym (node-row i kids x is)) there) (subst (λ ys. Conforms row.parts ys) (sym (node-kids i kids x is)) (conforms r))
    (subst (λ qs. Conforms qs ts) (sym (once p ps o)) (conforms s))

-- each part is a node of a derivation too
leaf-good : (x : Tree) → row_of x ≡ 0 → kids_of x ≡ [] → Good x
unfolding table
leaf-good x r k = record {
  number = 0;
  is = record {
    row = plain head.source_text (Many head.description ∷ []);
    is_row = subst (λ i. IsRowOf table 0 i (plain head.source_text (Many head.description ∷ []))) (sym r) (record { is_there = refl; is_of = refl });
    fits = subst (λ ys. Conforms (Many head.description ∷ []) ys) (sym k) (Conforms.left_out refl Conforms.ended);
  };
}

each : {ps : List Part} {ts : List Tree} → Conforms ps ts → AllGood ts
each Conforms.ended = tt
each (Conforms.symbol {x = x} e r k c) = (leaf-good x r k, each c)
each (Conforms.node {h = h} {row = row} e there c d) = (record { number = h; is = record { row = row; is_row = there; fits = c } }, each d)
each (Conforms.left_out o c) = each c

pub kids-good : (t : Tree) → Good t → AllGood (kids_of t)
kids-good t g = each g.is.fits

at-place : (n : ℕ) (ts : List Tree) (t : Tree) → Good t → AllGood ts → Good (tree_or t (slice_get ts n))
at-place n [] t g a = g
at-place zero (x ∷ xs) t g a = a.0
at-place (suc n) (x ∷ xs) t g a = at-place n xs t g a.1

pub kid-good : (n : ℕ) (t : Tree) → Good t → Good (kid n t)
kid-good n t g = at-place n (kids_of t) t g (kids-good t g)

pub drop-good : (n : ℕ) (ts : List Tree) → AllGood ts → AllGood (drop n ts)
drop-good zero ts a = a
drop-good (suc n) [] a = tt
drop-good (suc n) (t ∷ ts) a = drop-good n ts a.1

-- parts that are there in any text of the row
record Front (g : ℕ) (ps : List Part) (ts : List Tree) : Type 0 where
  first : Tree
  others : List Tree
  is : ts ≡ first ∷ others
  of : OfHead g first
  rest : Conforms ps others

record Rest (ps : List Part) (ts : List Tree) : Type 0 where
  first : Tree
  others : List Tree
  is : ts ≡ first ∷ others
  rest : Conforms ps others

of-named : {g h : ℕ} {x : Tree} {row : Row} → Some g ≡ Some h → IsRowOf table h (row_of x) row → Conforms row.parts (kids_of x) → OfHead g x
of-named {g} {h} {x} {row} e there c = let same : h ≡ g = cc in record { row = row; is_row = subst (λ q. IsRowOf table q (row_of x) row) same there; fits = c }

non-front : {g : ℕ} {ps : List Part} {ts : List Tree} → Conforms (Non g ∷ ps) ts → Front g ps ts
non-front (Conforms.symbol e r k c) = absurd (cc)
non-front (Conforms.node {x = x} {ts = ts} e there c d) = record { first = x; others = ts; is = refl; of = of-named e there c; rest = d }
non-front (Conforms.left_out o c) = absurd (cc)

term-front : {a : ℕ} {ps : List Part} {ts : List Tree} → Conforms (Term a ∷ ps) ts → Rest ps ts
term-front (Conforms.symbol {x = x} {ts = ts} e r k c) = record { first = x; others = ts; is = refl; rest = c }
term-front (Conforms.node e there c d) = absurd (cc)
term-front (Conforms.left_out o c) = absurd (cc)

all-of-none : (h : ℕ) {ts : List Tree} → Conforms [] ts → AllOf h ts
all-of-none h Conforms.ended = tt

many-of : {h : ℕ} {ts : List Tree} → Conforms (Many h ∷ []) ts → AllOf h ts
many-of {h} (Conforms.symbol e r k c) = absurd (cc)
many-of {h} (Conforms.node e there c d) = (of-named e there c, many-of d)
many-of {h} (Conforms.left_out o c) = all-of-none h c

-- a part of the head stands in the place
abbrev pub is_non : ℕ → Part → Bool
is_non h (Term a) = false
is_non h (Non g) = g == h
is_non h (Maybe g) = false
is_non h (Many g) = false
is_non h (Chain g) = false

abbrev pub is_plain : Part → Bool
is_plain (Term a) = true
is_plain (Non g) = true
is_plain (Maybe g) = false
is_plain (Many g) = false
is_plain (Chain g) = false

abbrev pub has_part : List Part → ℕ → ℕ → Bool
has_part [] n h = false
has_part (p ∷ ps) zero h = is_non h p
has_part (p ∷ ps) (suc n) h = is_plain p && has_part ps n h

record Stands (n h : ℕ) (ts : List Tree) : Type 0 where
  it : Tree
  is : slice_get ts n ≡ Some it
  of : OfHead h it

further : {n h : ℕ} {ts us : List Tree} {x : Tree} → ts ≡ x ∷ us → Stands n h us → Stands (suc n) h ts
further {n} e s = record { it = s.it; is = ap (λ ys. slice_get ys (suc n)) e ∙ s.is; of = s.of }

stands : (ps : List Part) (n h : ℕ) (ts : List Tree) → has_part ps n h ≡ true → Conforms ps ts → Stands n h ts
stands [] n h ts f c = absurd (cc)
stands (Term a ∷ ps) zero h ts f c = absurd (cc)
stands (Non g ∷ ps) zero h ts f c =
    let front = non-front c in
    record { it = front.first; is = ap (λ ys. slice_get ys 0) front.is; of = subst (λ q. OfHead q front.first) (eqb-true g h f) front.of }
stands (Maybe g ∷ ps) zero h ts f c = absurd (cc)
stands (Many g ∷ ps) zero h ts f c = absurd (cc)
stands (Chain g ∷ ps) zero h ts f c = absurd (cc)
stands (Term a ∷ ps) (suc n) h ts f c = let rest = term-front c in further rest.is (stands ps n h rest.others f rest.rest)
stands (Non g ∷ ps) (suc n) h ts f c = let front = non-front c in further front.is (stands ps n h front.others f front.rest)
stands (Maybe g ∷ ps) (suc n) h ts f c = absurd (cc)
stands (Many g ∷ ps) (suc n) h ts f c = absurd (cc)
stands (Chain g ∷ ps) (suc n) h ts f c = absurd (cc)

pub kid-of : (n h : ℕ) (t : Tree) (row : Row) → has_part row.parts n h ≡ true → Conforms row.parts (kids_of t) → OfHead h (kid n t)
kid-of n h t row f c = let s = stands row.parts n h (kids_of t) f c in subst (λ o. OfHead h (tree_or t o)) (sym s.is) s.of

-- a first part that is there in any text
abbrev pub begins : List Part → Bool
begins [] = false
begins (p ∷ ps) = is_plain p

begun : (ps : List Part) (ts : List Tree) → begins ps ≡ true → Conforms ps ts → is_none ts ≡ false
begun [] ts f c = absurd (cc)
begun (Term a ∷ ps) ts f c = ap is_none (term-front c).is
begun (Non g ∷ ps) ts f c = ap is_none (non-front c).is
begun (Maybe g ∷ ps) ts f c = absurd (cc)
begun (Many g ∷ ps) ts f c = absurd (cc)
begun (Chain g ∷ ps) ts f c = absurd (cc)

pub not-blank : (t : Tree) (row : Row) → begins row.parts ≡ true → Conforms row.parts (kids_of t) → is_blank t ≡ false
not-blank t row f c = begun row.parts (kids_of t) f c

-- one of a head, and as many of another one as there are
abbrev pub is_many : ℕ → List Part → Bool
is_many h [] = false
is_many h (Many g ∷ []) = g == h
is_many h (p ∷ ps) = false

abbrev pub is_list : ℕ → ℕ → List Part → Bool
is_list g h [] = false
is_list g h (Non f ∷ ps) = (f == g) && is_many h ps
is_list g h (p ∷ ps) = false

pub record Listed (g h : ℕ) (ts : List Tree) : Type 0 where
  pub first : Tree
  pub others : List Tree
  pub is : ts ≡ first ∷ others
  pub of : OfHead g first
  pub rest : AllOf h others

many-listed : (h : ℕ) (ps : List Part) (ts : List Tree) → is_many h ps ≡ true → Conforms ps ts → AllOf h ts
many-listed h [] ts f c = absurd (cc)
many-listed h (Many g ∷ []) ts f c = subst (λ q. AllOf q ts) (eqb-true g h f) (many-of c)
many-listed h (Term g ∷ []) ts f c = absurd (cc)
many-listed h (Non g ∷ []) ts f c = absurd (cc)
many-listed h (Maybe g ∷ []) ts f c = absurd (cc)
many-listed h (Chain g ∷ []) ts f c = absurd (cc)
many-listed h (Term g ∷ p ∷ ps) ts f c = absurd (cc)
many-listed h (Non g ∷ p ∷ ps) ts f c = absurd (cc)
many-listed h (Maybe g ∷ p ∷ ps) ts f c = absurd (cc)
many-listed h (Many g ∷ p ∷ ps) ts f c = absurd (cc)
many-listed h (Chain g ∷ p ∷ ps) ts f c = absurd (cc)

pub listed : (g h : ℕ) (ps : List Part) (ts : List Tree) → is_list g h ps ≡ true → Conforms ps ts → Listed g h ts
listed g h [] ts f c = absurd (cc)
listed g h (Non e ∷ ps) ts f c =
    let front = non-front c in
    record {
      first = front.first;
      others = front.others;
      is = front.is;
      of = subst (λ q. OfHead q front.first) (eqb-true e g (left-of (e == g) (is_many h ps) f)) front.of;
      rest = many-listed h ps front.others (right-of (e == g) (is_many h ps) f) front.rest;
    }
listed g h (Term e ∷ ps) ts f c = absurd (cc)
listed g h (Maybe e ∷ ps) ts f c = absurd (cc)
listed g h (Many e ∷ ps) ts f c = absurd (cc)
listed g h (Chain e ∷ ps) ts f c = absurd (cc)

-- the derivation of a text
pub derivation-good : {h to : ℕ} {w rest : List Nested} (t : Tree) → G.Reads table suc 0 0 (Non h ∷ []) 0 w (t ∷ []) to rest → Good t
derivation-good t r = (each (conforms r)).0
