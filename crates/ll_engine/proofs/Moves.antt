-- Each move keeps what completes the rows.
use Rattle.std.proofs.Common.{◌≡◌, ◌++◌, ℕ, pred, List, [], ◌∷◌, Option, Some, true, false, refl, sym, ◌∙◌, ap, subst, drop, append_assoc, append-nil}
use Rattle.ll_engine.specs.declared.table.Part.{Part}
use Rattle.ll_engine.specs.declared.table.Part.TheVariants.{Term, Non, Maybe, Many, Chain}
use Rattle.ll_engine.specs.declared.table.Row.{Row}
use Rattle.ll_engine.specs.declared.tree.Tree.{Tree}
use Rattle.ll_engine.specs.declared.tree.Tree.TheVariants.{Node}
use Rattle.ll_engine.specs.Grammar.{named, is_optional, IsRowOf, IsBlank, IsBegun}
use Rattle.ll_engine.specs.Reading.{Nested, next, level, inside, left_after, Reads}
use Rattle.ll_engine.specs.Machine.{Level, RowReads, Completes, Goes, Same, with_kid, fresh, passed, entered, skipped, closed}
use Rattle.ll_engine.proofs.Shapes as Shapes

-- another top row that reads the same
top_onto : (t : List Row) (l m : Level) (ls : List Level) (x : Option ℕ)
    → ((at to : ℕ) (w u : List Nested) (y : Tree) → next w ≡ x → RowReads t l at w y to u → RowReads t m at w y to u)
    → (at : ℕ) (w : List Nested) (tree : Tree) → next w ≡ x → Completes t l ls at w tree → Completes t m ls at w tree
top_onto t l m [] x f at w tree e c = (c.0, f at c.0 w [] tree e c.1)
top_onto t l m (n ∷ ns) x f at w tree e c = (c.0, c.1, c.2, f at c.1 w c.2 c.0 e c.3, c.4)

pub left_part : (l : Level) (p : Part) (ps : List Part) → l.left ≡ p ∷ ps → drop 1 l.left ≡ ps
left_part l p ps e = ap (drop 1) e

skip_onto : (t : List Row) (l : Level) (p : Part) (ps : List Part) (x : Option ℕ)
    → l.left ≡ p ∷ ps → is_optional p ≡ true → (IsBegun t (p ∷ []) x → ⊥)
    → (at to : ℕ) (w u : List Nested) (y : Tree) → next w ≡ x → RowReads t l at w y to u
    → RowReads t (record l { left = drop 1 l.left; turn = l.room }) at w y to u
skip_onto t l p ps x e o n at to w u y f r = record {
  kids = r.kids;
  reads = subst (λ q. Reads t pred l.room l.room q at w r.kids to u) (sym (left_part l p ps e))
      (Shapes.left_out t pred o (λ b. n (subst (λ q. IsBegun t (p ∷ []) q) f b))
      (subst (λ q. Reads t pred l.room l.turn q at w r.kids to u) e r.reads));
  is_node = r.is_node;
}

skip_back : (t : List Row) (l : Level) (p : Part) (ps : List Part) (x : Option ℕ)
    → l.left ≡ p ∷ ps → is_optional p ≡ true → (IsBegun t (p ∷ []) x → ⊥)
    → (at to : ℕ) (w u : List Nested) (y : Tree) → next w ≡ x
    → RowReads t (record l { left = drop 1 l.left; turn = l.room }) at w y to u
    → RowReads t l at w y to u
skip_back t l p ps x e o n at to w u y f r = record {
  kids = r.kids;
  reads = subst (λ q. Reads t pred l.room l.turn q at w r.kids to u) (sym e)
      (Reads.left_out o (λ b. n (subst (λ q. IsBegun t (p ∷ []) q) f b))
      (subst (λ q. Reads t pred l.room l.room q at w r.kids to u) (left_part l p ps e) r.reads));
  is_node = r.is_node;
}

pub skip : (t : List Row) (l : Level) (ls : List Level) (p : Part) (ps : List Part) (x : Option ℕ)
    → l.left ≡ p ∷ ps → is_optional p ≡ true → (IsBegun t (p ∷ []) x → ⊥)
    → Same t x (l ∷ ls) (skipped (l ∷ ls))
skip t l ls p ps x e o n = record {
  onto = top_onto t l _ ls x (skip_onto t l p ps x e o n);
  back = top_onto t _ l ls x (skip_back t l p ps x e o n);
}

-- the row is ended
pub close : (t : List Row) (l m : Level) (ms : List Level) (x : Option ℕ) → l.left ≡ []
    → Same t x (l ∷ m ∷ ms) (closed (l ∷ m ∷ ms))
close t l m ms x e = record { onto = onto; back = back }
  where
    onto : (at : ℕ) (w : List Nested) (tree : Tree) → next w ≡ x → Goes t (l ∷ m ∷ ms) at w tree
        → Completes t (with_kid m (Node l.row l.kids)) ms at w tree
    onto at w tree f c =
        let r = c.3 in
        let s = Shapes.ended t pred (subst (λ q. Reads t pred l.room l.turn q at w r.kids c.1 c.2) e r.reads) in
        let kids : l.kids ++ r.kids ≡ l.kids = ap (λ q. l.kids ++ q) s.nothing ∙ append-nil l.kids in
        let node : c.0 ≡ Node l.row l.kids = r.is_node ∙ ap (λ q. Node l.row q) kids in
        subst (λ q. Completes t (with_kid m q) ms at w tree) node
        (subst (λ q. Completes t (with_kid m c.0) ms q w tree) (sym s.same_at)
        (subst (λ q. Completes t (with_kid m c.0) ms c.1 q tree) (sym s.same) c.4))

    back : (at : ℕ) (w : List Nested) (tree : Tree) → next w ≡ x
        → Completes t (with_kid m (Node l.row l.kids)) ms at w tree → Goes t (l ∷ m ∷ ms) at w tree
    back at w tree f c =
        let reads : Reads t pred l.room l.turn l.left at w [] at w =
        subst (λ q. Reads t pred l.room l.turn q at w [] at w) (sym e) (Reads.ended refl refl) in (
          Node l.row l.kids,
          at,
          w,
          record { kids = []; reads = reads; is_node = ap (λ q. Node l.row q) (sym (append-nil l.kids)) },
          c,
        )

pub passed_left : (p : Part) (ps : List Part) (l : Level) → l.left ≡ p ∷ ps → (passed p l).left ≡ left_after p ps
passed_left (Term a) ps l e = ap (drop 1) e
passed_left (Non a) ps l e = ap (drop 1) e
passed_left (Maybe a) ps l e = ap (drop 1) e
passed_left (Many a) ps l e = e
passed_left (Chain a) ps l e = e

pub fresh_is : (t : List Row) (h i n : ℕ) (row : Row) → IsRowOf t h i row
    → fresh t i n ≡ record { row = i; room = inside pred row n; turn = inside pred row n; left = row.parts; kids = [] }
fresh_is t h i n row r = rw r.is_there

-- a node that was read for the part, before what is read of the rest
pub rejoin : (t : List Row) (m : Level) (node : Tree) (at to : ℕ) (w u : List Nested) (y : Tree)
    → RowReads t (with_kid m node) at w y to u
    → (ts : List Tree) × Reads t pred m.room m.turn m.left at w ts to u × (y ≡ Node m.row (m.kids ++ node ∷ ts))
rejoin t m node at to w u y r =
    (r.kids, r.reads, r.is_node ∙ ap (λ q. Node m.row q) (append_assoc m.kids (node ∷ []) r.kids))

pub unjoin : (t : List Row) (m : Level) (node : Tree) (at to : ℕ) (w u : List Nested) (y : Tree) (ts : List Tree)
    → Reads t pred m.room m.turn m.left at w ts to u → y ≡ Node m.row (m.kids ++ node ∷ ts)
    → RowReads t (with_kid m node) at w y to u
unjoin t m node at to w u y ts r e = record {
  kids = ts;
  reads = r;
  is_node = e ∙ sym (ap (λ q. Node m.row q) (append_assoc m.kids (node ∷ []) ts));
}

-- A row is opened: `wrap` and `unwrap` are the derivation's own step.
record Opens (t : List Row) (l : Level) (p : Part) (i : ℕ) (row : Row) (x : Option ℕ) : Type 0 where
  wrap : (at mid to : ℕ) (w v u : List Nested) (kids us : List Tree) → next w ≡ x
      → Reads t pred (inside pred row (level pred p l.room l.turn)) (inside pred row (level pred p l.room l.turn)) row.parts at w kids mid v
      → Reads t pred l.room (level pred p l.room l.turn) (passed p l).left mid v us to u
      → Reads t pred l.room l.turn l.left at w (Node i kids ∷ us) to u
  unwrap : (at to : ℕ) (w u : List Nested) (ts : List Tree) → next w ≡ x
      → Reads t pred l.room l.turn l.left at w ts to u
      → (kids : List Tree) × (us : List Tree) × (mid : ℕ) × (v : List Nested) × (ts ≡ Node i kids ∷ us)
      × Reads t pred (inside pred row (level pred p l.room l.turn)) (inside pred row (level pred p l.room l.turn)) row.parts at w kids mid v
      × Reads t pred l.room (level pred p l.room l.turn) (passed p l).left mid v us to u

module _ (t : List Row) (l : Level) (p : Part) (h i : ℕ) (row : Row) (x : Option ℕ)
    (r : IsRowOf t h i row) (o : Opens t l p i row x) where
  opened : Level
  opened = fresh t i (level pred p l.room l.turn)

  new_reads : (at to : ℕ) (w u : List Nested) (kids : List Tree)
      → Reads t pred (inside pred row (level pred p l.room l.turn)) (inside pred row (level pred p l.room l.turn)) row.parts at w kids to u
      → RowReads t (fresh t i (level pred p l.room l.turn)) at w (Node i kids) to u
  new_reads at to w u kids d =
      subst (λ q. RowReads t q at w (Node i kids) to u) (sym (fresh_is t h i (level pred p l.room l.turn) row r))
      (record { kids = kids; reads = d; is_node = refl })

  old_reads : (at to : ℕ) (w u : List Nested) (y : Tree)
      → RowReads t (fresh t i (level pred p l.room l.turn)) at w y to u
      → (kids : List Tree) × (y ≡ Node i kids)
      × Reads t pred (inside pred row (level pred p l.room l.turn)) (inside pred row (level pred p l.room l.turn)) row.parts at w kids to u
  old_reads at to w u y d =
      let e = subst (λ q. RowReads t q at w y to u) (fresh_is t h i (level pred p l.room l.turn) row r) d in
      (e.kids, e.is_node, e.reads)

  open_onto : (ls : List Level) (at : ℕ) (w : List Nested) (tree : Tree) → next w ≡ x
      → Goes t (l ∷ ls) at w tree → Goes t (entered t i p (l ∷ ls)) at w tree
  open_onto [] at w tree e c =
      let d = c.1 in
      let s = o.unwrap at c.0 w [] d.kids e d.reads in (
        Node i s.0,
        s.2,
        s.3,
        new_reads at s.2 w s.3 s.0 s.5,
        (
          c.0,
          unjoin t (passed p l) (Node i s.0) s.2 c.0 s.3 [] tree s.1 s.6
              (d.is_node ∙ ap (λ q. Node l.row (l.kids ++ q)) s.4),
        ),
      )
  open_onto (m ∷ ms) at w tree e c =
      let d = c.3 in
      let s = o.unwrap at c.1 w c.2 d.kids e d.reads in (
        Node i s.0,
        s.2,
        s.3,
        new_reads at s.2 w s.3 s.0 s.5,
        (
          c.0,
          c.1,
          c.2,
          unjoin t (passed p l) (Node i s.0) s.2 c.1 s.3 c.2 c.0 s.1 s.6
              (d.is_node ∙ ap (λ q. Node l.row (l.kids ++ q)) s.4),
          c.4,
        ),
      )

  open_back : (ls : List Level) (at : ℕ) (w : List Nested) (tree : Tree) → next w ≡ x
      → Goes t (entered t i p (l ∷ ls)) at w tree → Goes t (l ∷ ls) at w tree
  open_back [] at w tree e c =
      let a = old_reads at c.1 w c.2 c.0 c.3 in
      let b = rejoin t (passed p l) c.0 c.1 c.4.0 c.2 [] tree c.4.1 in (
        c.4.0,
        record {
          kids = Node i a.0 ∷ b.0;
          reads = o.wrap at c.1 c.4.0 w c.2 [] a.0 b.0 e a.2 b.1;
          is_node = b.2 ∙ ap (λ q. Node l.row (l.kids ++ q ∷ b.0)) a.1;
        },
      )
  open_back (m ∷ ms) at w tree e c =
      let a = old_reads at c.1 w c.2 c.0 c.3 in
      let d = c.4 in
      let b = rejoin t (passed p l) c.0 c.1 d.1 c.2 d.2 d.0 d.3 in (
        d.0,
        d.1,
        d.2,
        record {
          kids = Node i a.0 ∷ b.0;
          reads = o.wrap at c.1 d.1 w c.2 d.2 a.0 b.0 e a.2 b.1;
          is_node = b.2 ∙ ap (λ q. Node l.row (l.kids ++ q ∷ b.0)) a.1;
        },
        d.4,
      )

  opens : (ls : List Level) → Same t x (l ∷ ls) (entered t i p (l ∷ ls))
  opens ls = record { onto = open_onto ls; back = open_back ls }

-- the part is read by the row that the token begins
pub enter : (t : List Row) (l : Level) (ls : List Level) (p : Part) (ps : List Part) (h i : ℕ) (row : Row) (x : Option ℕ)
    → l.left ≡ p ∷ ps → named p ≡ Some h → IsRowOf t h i row → IsBegun t row.parts x
    → ((j : ℕ) (r : Row) → IsRowOf t h j r → IsBegun t r.parts x → (j ≡ i) × (r ≡ row))
    → Same t x (l ∷ ls) (entered t i p (l ∷ ls))
enter t l ls p ps h i row x e f r b only = opens t l p h i row x r (record { wrap = wrap; unwrap = unwrap }) ls
  where
    n : ℕ
    n = level pred p l.room l.turn

    wrap : (at mid to : ℕ) (w v u : List Nested) (kids us : List Tree) → next w ≡ x
        → Reads t pred (inside pred row (level pred p l.room l.turn)) (inside pred row (level pred p l.room l.turn)) row.parts at w kids mid v
        → Reads t pred l.room (level pred p l.room l.turn) (passed p l).left mid v us to u
        → Reads t pred l.room l.turn l.left at w (Node i kids ∷ us) to u
    wrap at mid to w v u kids us g a c =
        subst (λ q. Reads t pred l.room l.turn q at w (Node i kids ∷ us) to u) (sym e)
        (Reads.taken f r (subst (λ q. IsBegun t row.parts q) (sym g) b) refl refl a
        (subst (λ q. Reads t pred l.room (level pred p l.room l.turn) q mid v us to u) (passed_left p ps l e) c))

    unwrap : (at to : ℕ) (w u : List Nested) (ts : List Tree) → next w ≡ x
        → Reads t pred l.room l.turn l.left at w ts to u
        → (kids : List Tree) × (us : List Tree) × (mid : ℕ) × (v : List Nested) × (ts ≡ Node i kids ∷ us)
        × Reads t pred (inside pred row (level pred p l.room l.turn)) (inside pred row (level pred p l.room l.turn)) row.parts at w kids mid v
        × Reads t pred l.room (level pred p l.room l.turn) (passed p l).left mid v us to u
    unwrap at to w u ts g d =
        let s = Shapes.taken t pred (λ j q a c. only j q a (subst (λ y. IsBegun t q.parts y) g c)) f r
        (subst (λ q. IsBegun t row.parts q) (sym g) b)
        (subst (λ q. Reads t pred l.room l.turn q at w ts to u) e d) in (
          s.kids,
          s.us,
          s.mid,
          s.u,
          s.trees,
          s.within,
          subst (λ q. Reads t pred l.room (level pred p l.room l.turn) q s.mid s.u s.us to u) (sym (passed_left p ps l e)) s.reads,
        )

once_left : (p : Part) (ps : List Part) {h : ℕ} → named p ≡ Some h → is_optional p ≡ false → left_after p ps ≡ ps
once_left (Term a) ps e f = refl
once_left (Non a) ps e f = refl
once_left (Maybe a) ps e f = cc
once_left (Many a) ps e f = cc
once_left (Chain a) ps e f = cc

once_level : (p : Part) (a b : ℕ) {h : ℕ} → named p ≡ Some h → is_optional p ≡ false → level pred p a b ≡ a
once_level (Term c) a b e f = refl
once_level (Non c) a b e f = refl
once_level (Maybe c) a b e f = cc
once_level (Many c) a b e f = cc
once_level (Chain c) a b e f = cc

-- the head is read as empty
pub enter_empty : (t : List Row) (l : Level) (ls : List Level) (p : Part) (ps : List Part) (h i : ℕ) (row : Row) (x : Option ℕ)
    → l.left ≡ p ∷ ps → named p ≡ Some h → is_optional p ≡ false → IsRowOf t h i row → IsBlank t row.parts
    → (IsBegun t (p ∷ []) x → ⊥)
    → ((j : ℕ) (r : Row) → IsRowOf t h j r → IsBlank t r.parts → (j ≡ i) × (r ≡ row))
    → Same t x (l ∷ ls) (entered t i p (l ∷ ls))
enter_empty t l ls p ps h i row x e f o r b none only = opens t l p h i row x r (record { wrap = wrap; unwrap = unwrap }) ls
  where
    same : level pred p l.room l.turn ≡ l.room
    same = once_level p l.room l.turn f o

    left : (passed p l).left ≡ ps
    left = passed_left p ps l e ∙ once_left p ps f o

    wrap : (at mid to : ℕ) (w v u : List Nested) (kids us : List Tree) → next w ≡ x
        → Reads t pred (inside pred row (level pred p l.room l.turn)) (inside pred row (level pred p l.room l.turn)) row.parts at w kids mid v
        → Reads t pred l.room (level pred p l.room l.turn) (passed p l).left mid v us to u
        → Reads t pred l.room l.turn l.left at w (Node i kids ∷ us) to u
    wrap at mid to w v u kids us g a c =
        subst (λ q. Reads t pred l.room l.turn q at w (Node i kids ∷ us) to u) (sym e)
        (Reads.empty o f (λ y. none (subst (λ q. IsBegun t (p ∷ []) q) g y)) r b refl
        (subst (λ q. Reads t pred (inside pred row q) (inside pred row q) row.parts at w kids mid v) same a)
        (subst (λ q. Reads t pred l.room q ps mid v us to u) same
        (subst (λ q. Reads t pred l.room (level pred p l.room l.turn) q mid v us to u) left c)))

    unwrap : (at to : ℕ) (w u : List Nested) (ts : List Tree) → next w ≡ x
        → Reads t pred l.room l.turn l.left at w ts to u
        → (kids : List Tree) × (us : List Tree) × (mid : ℕ) × (v : List Nested) × (ts ≡ Node i kids ∷ us)
        × Reads t pred (inside pred row (level pred p l.room l.turn)) (inside pred row (level pred p l.room l.turn)) row.parts at w kids mid v
        × Reads t pred l.room (level pred p l.room l.turn) (passed p l).left mid v us to u
    unwrap at to w u ts g d =
        let s = Shapes.empty t pred only o f (λ y. none (subst (λ q. IsBegun t (p ∷ []) q) g y))
        (subst (λ q. Reads t pred l.room l.turn q at w ts to u) e d) in (
          s.kids,
          s.us,
          s.mid,
          s.u,
          s.trees,
          subst (λ q. Reads t pred (inside pred row q) (inside pred row q) row.parts at w s.kids s.mid s.u) (sym same) s.within,
          subst (λ q. Reads t pred l.room (level pred p l.room l.turn) q s.mid s.u s.us to u) (sym left)
              (subst (λ q. Reads t pred l.room q ps s.mid s.u s.us to u) (sym same) s.reads),
        )
