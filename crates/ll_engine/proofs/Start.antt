-- The beginning of a text.
use Rattle.std.proofs.Common.{◌≡◌, ◌++◌, ℕ, suc, pred, List, [], ◌∷◌, Option, Some, None, refl, sym, ◌∙◌, ap, subst, slice_get, arith}
use Rattle.ll_engine.specs.declared.table.Part.TheVariants.{Non}
use Rattle.ll_engine.specs.declared.table.Row.{Row}
use Rattle.ll_engine.specs.declared.tables.Head.{Head}
use Rattle.ll_engine.specs.declared.tree.Tree.{Tree}
use Rattle.ll_engine.specs.declared.tree.Tree.TheVariants.{Node}
use Rattle.ll_engine.specs.Grammar.{named, IsRowOf, IsBlank, IsBegun, HasText}
use Rattle.ll_engine.specs.Class.{Follows, ComesAt}
use Rattle.ll_engine.specs.Knows.{Knows, row_next, row_blank}
use Rattle.ll_engine.specs.Reading.{Nested, next, inside, Reads}
use Rattle.ll_engine.specs.Texts.{Agrees, FailsAt}
use Rattle.ll_engine.specs.Machine.{Level, RowReads, IsLevel, fresh, parts_of}
use Rattle.ll_engine.specs.Steps.{or_else, row_for}
use Rattle.ll_engine.proofs.Shapes as Shapes
use Rattle.ll_engine.proofs.Rows.{begun, only_begun, none_begun, only_blank}
use Rattle.ll_engine.proofs.Moves.{fresh_is}
use Rattle.ll_engine.proofs.GoOn.{Context, Onward, go_on}
use Rattle.ll_engine.proofs.Stack.{decide}
use Rattle.ll_engine.proofs.Steps.{not_begun}
use Rattle.ll_engine.proofs.Rooms.{rooms}
use Rattle.ll_engine.proofs.Tokens.{agrees-rooms, agrees_next, room_left}
use Rattle.ll_engine.proofs.Progress.{Whole, Progress, front_at, downward}

-- one head is read as one node
one_node : {t : List Row} {h d e at to : ℕ} {w rest : List Nested} {ts : List Tree}
    → Reads t pred d e (Non h ∷ []) at w ts to rest → (x : Tree) × (ts ≡ x ∷ [])
one_node (Reads.symbol f n l r) = cc
one_node (Reads.taken {x = x} nm s b l k inner (Reads.ended i j)) = (x, refl)
one_node (Reads.left_out f n r) = cc
one_node (Reads.empty {x = x} c nm n s b k inner (Reads.ended i j)) = (x, refl)

module _ (t : List Row) (heads : List Head) (k : Knows t heads) (h limit : ℕ) (ss : List ℕ) (row : Row) (first : IsRowOf t h 0 row) where
  text_of_head : HasText t (Non h ∷ [])
  text_of_head = subst (λ q. HasText t (Non q ∷ [])) first.is_of (k.is_fit.keeps 0 h row first).has_text

  no_head : {a : ℕ} → ComesAt t (λ x. x ≡ None) [] (Some a) → ⊥
  no_head (ComesAt.here l) = elim l [ ]
  no_head (ComesAt.later b e) = cc

  behind_head : (x : Option ℕ) → ComesAt t (λ x. x ≡ None) [] x → x ≡ None
  behind_head x (ComesAt.here l) = elim l [ ]
  behind_head x (ComesAt.later b e) = e

  at_end : (g : ℕ) (x : Option ℕ) → named (Non h) ≡ Some g → x ≡ None → Follows t g x
  at_end g x e f =
      let same : h ≡ g = cc in
      subst (λ q. Follows t g q) (sym f) (Follows.at_end (subst (λ q. IsRowOf t q 0 row) same first))

  context : Context t (λ x. x ≡ None) (Non h ∷ [])
  context = (λ a b s c. no_head c, λ g x e c. at_end g x e (behind_head x c), tt)

  some_text : Onward t pred (λ x. x ≡ None) (suc limit) (suc limit) (Non h ∷ []) 0
  some_text = go_on t k.is_fit (decide t heads k) pred text_of_head (λ x. x ≡ None) context (suc limit) (suc limit) 0

  record Some_text : Type 0 where
    text : List Nested
    tree : Tree
    whole : Whole t h (suc limit) text tree

  one_text : Some_text
  one_text =
      let r = some_text.reads [] refl in
      let x = one_node r in
      record {
        text = some_text.text ++ [];
        tree = x.0;
        whole = record { to = some_text.to; reads = subst (λ q. Reads t pred (suc limit) (suc limit) (Non h ∷ []) 0 (some_text.text ++ []) q some_text.to []) x.1 r };
      }

  next_of : (w : List Nested) → Agrees 1 w ss → next w ≡ slice_get ss 0
  next_of w a = agrees_next [] w ss a

  pub start_fails : row_for heads h (slice_get ss 0) ≡ None → FailsAt t ss limit 0
  start_fails e = go (row_next heads h (slice_get ss 0)) refl
    where
      go : (o : Option ℕ) → row_next heads h (slice_get ss 0) ≡ o → FailsAt t ss limit 0
      go (Some i) f = let s = ap (λ q. or_else q (row_blank heads h)) f in cc (s, e)
      go None f =
          let b : row_blank heads h ≡ None = sym (ap (λ q. or_else q (row_blank heads h)) f) ∙ e in
          record {
            is_token = omega arith;
            front = front_at t heads k h limit ss row first 0 [] one_text.text one_text.tree refl refl tt one_text.whole;
            no_text = λ w x m a.
                let d = downward t h limit row w x first m in
                let n = next_of (rooms (room_left limit) w) (agrees-rooms (room_left limit) 1 w ss a) in
                Shapes.stuck t pred refl refl
                (λ i r s c. none_begun t heads k h i (slice_get ss 0) r f s (subst (λ q. IsBegun t r.parts q) n c))
                (λ i r s c. k.not_blank h i r b s c)
                d.reads;
          }

  start_level : (i : ℕ) (r : Row) → IsRowOf t h i r → IsLevel t (fresh t i (suc limit)) (λ x. x ≡ None)
  start_level i r s = record {
    head = h;
    at = 0;
    row = r;
    is_row = s;
    cut = sym (ap parts_of s.is_there);
    follows = λ x e. at_end h x refl e;
  }

  -- what the row of the head reads is a text, and each text is read so
  record StartsSo (i : ℕ) (r : Row) : Type 0 where
    wrap : (to : ℕ) (w : List Nested) (kids : List Tree) → next w ≡ slice_get ss 0
        → Reads t pred (inside pred r (suc limit)) (inside pred r (suc limit)) r.parts 0 w kids to []
        → Whole t h (suc limit) w (Node i kids)
    unwrap : (w : List Nested) (x : Tree) → next w ≡ slice_get ss 0 → Whole t h (suc limit) w x
        → (kids : List Tree) × (to : ℕ) × (x ≡ Node i kids)
        × Reads t pred (inside pred r (suc limit)) (inside pred r (suc limit)) r.parts 0 w kids to []

  starts_so : (i : ℕ) (r : Row) → IsRowOf t h i r → StartsSo i r → Progress t h limit ss 0 (fresh t i (suc limit) ∷ [])
  starts_so i r s o = record {
    row = row;
    is_first = first;
    before = [];
    long = refl;
    spells = refl;
    has_room = tt;
    rest = one_text.text;
    tree = one_text.tree;
    front = one_text.whole;
    stack = (start_level i r s, tt);
    onto = λ v x n c.
        let d = subst (λ q. RowReads t q 0 v x c.0 []) (fresh_is t h i (suc limit) r s) c.1 in
        subst (λ q. Whole t h (suc limit) v q) (sym d.is_node) (o.wrap c.0 v d.kids n d.reads);
    back = λ w x m a.
        let u = o.unwrap w x (next_of w a) m in (
          w,
          refl,
          (
            u.1,
            subst (λ q. RowReads t q 0 w x u.1 []) (sym (fresh_is t h i (suc limit) r s))
                (record { kids = u.0; reads = u.3; is_node = u.2 }),
          ),
        );
  }

  last_node : (i : ℕ) (x : Tree) (kids us : List Tree) → x ∷ [] ≡ Node i kids ∷ us → x ≡ Node i kids
  last_node i x kids us e = ap (λ q. head_of q) e
    where
      head_of : List Tree → Tree
      head_of [] = x
      head_of (y ∷ ys) = y

  by_begun : (i : ℕ) (r : Row) → IsRowOf t h i r → IsBegun t r.parts (slice_get ss 0) → StartsSo i r
  by_begun i r s b = record {
    wrap = λ to w kids n d. record {
      to = to;
      reads = Reads.taken refl s (subst (λ q. IsBegun t r.parts q) (sym n) b) refl refl d (Reads.ended refl refl);
    };
    unwrap = λ w x n m.
        let y = Shapes.taken t pred (λ j q z c. only_begun t heads k h i j (slice_get ss 0) r q s b z (subst (λ v. IsBegun t q.parts v) n c))
        refl s (subst (λ q. IsBegun t r.parts q) (sym n) b) m.reads in
        let e = Shapes.ended t pred y.reads in (
          y.kids,
          y.mid,
          last_node i x y.kids y.us y.trees,
          subst (λ q. Reads t pred (inside pred r (suc limit)) (inside pred r (suc limit)) r.parts 0 w y.kids y.mid q) e.same y.within,
        );
  }

  by_blank : (i : ℕ) (r : Row) → IsRowOf t h i r → IsBlank t r.parts → row_next heads h (slice_get ss 0) ≡ None → StartsSo i r
  by_blank i r s b e = record {
    wrap = λ to w kids n d. record {
      to = to;
      reads = Reads.empty refl refl (λ c. not_begun t heads k (Non h) h (slice_get ss 0) refl e (subst (λ q. IsBegun t (Non h ∷ []) q) n c))
          s b refl d (Reads.ended refl refl);
    };
    unwrap = λ w x n m.
        let y = Shapes.empty t pred (λ j q z c. only_blank t heads k h i j r q s b z c) refl refl
        (λ c. not_begun t heads k (Non h) h (slice_get ss 0) refl e (subst (λ q. IsBegun t (Non h ∷ []) q) n c)) m.reads in
        let f = Shapes.ended t pred y.reads in (
          y.kids,
          y.mid,
          last_node i x y.kids y.us y.trees,
          subst (λ q. Reads t pred (inside pred r (suc limit)) (inside pred r (suc limit)) r.parts 0 w y.kids y.mid q) f.same y.within,
        );
  }

  pub starts : (i : ℕ) (ls : List Level) → row_for heads h (slice_get ss 0) ≡ Some i → ls ≡ fresh t i (suc limit) ∷ []
      → Progress t h limit ss 0 ls
  starts i ls e l = subst (λ q. Progress t h limit ss 0 q) (sym l) (go (row_next heads h (slice_get ss 0)) refl)
    where
      go : (o : Option ℕ) → row_next heads h (slice_get ss 0) ≡ o → Progress t h limit ss 0 (fresh t i (suc limit) ∷ [])
      go (Some j) f =
          let s = ap (λ q. or_else q (row_blank heads h)) f in
          let same : row_next heads h (slice_get ss 0) ≡ Some i = f ∙ (sym s ∙ e) in
          let r = begun t heads k h i (slice_get ss 0) same in
          starts_so i r.0 r.1 (by_begun i r.0 r.1 r.2)
      go None f =
          let b : row_blank heads h ≡ Some i = sym (ap (λ q. or_else q (row_blank heads h)) f) ∙ e in
          let r = k.blank h i b in
          starts_so i r.0 r.1 (by_blank i r.0 r.1 r.2 f)
