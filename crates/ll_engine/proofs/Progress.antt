-- How far the reader has come in the symbols.
use Rattle.std.proofs.Common.{◌≡◌, ◌++◌, ◌≤◌, ◌<◌, ℕ, suc, pred, List, [], ◌∷◌, Some, None, refl, sym, ◌∙◌, ap, subst, take, drop, map, length, slice_get, append_assoc, append-nil, arith}
use Rattle.std.proofs.lemmas.List.{map-append, length-append, take_all}
use Rattle.ll_engine.specs.declared.table.Part.{Part}
use Rattle.ll_engine.specs.declared.table.Part.TheVariants.{Non}
use Rattle.ll_engine.specs.declared.table.Row.{Row}
use Rattle.ll_engine.specs.declared.tables.Head.{Head}
use Rattle.ll_engine.specs.declared.tree.Tree.{Tree}
use Rattle.ll_engine.specs.declared.tree.Tree.TheVariants.{Node}
use Rattle.ll_engine.specs.Grammar.{terminal, IsRowOf}
use Rattle.ll_engine.specs.Knows.{Knows}
use Rattle.ll_engine.specs.Reading.{Nested, at_nesting, next, Reads}
use Rattle.ll_engine.specs.Texts.{symbol_of, Agrees, Within, IsText, IsReading, Front, FailsAt, PassesFirst, PassesAt}
use Rattle.ll_engine.specs.Machine.{Level, Goes, Stuck, IsStack, took}
use Rattle.ll_engine.specs.Steps.{IsReady, IsOver, Reaches, Takes, LacksRoom, Finishes, room_of, node_of}
use Rattle.ll_engine.proofs.Stack.{decide, alive, stack_took, take_onto, take_back}
use Rattle.ll_engine.proofs.Rooms.{rooms, to_rooms, from_rooms}
use Rattle.ll_engine.proofs.Tokens.{agrees_less, agrees-rooms, agrees_origin, agrees_before, agrees_next, agrees_at, take_next, symbols-rooms, room_left, HasRoom, within_of, all_within, no_room, has_room-push}

-- a text, by the room at its symbols
pub record Whole (t : List Row) (h room : ℕ) (w : List Nested) (tree : Tree) : Type 0 where
  pub to : ℕ
  pub reads : Reads t pred room room (Non h ∷ []) 0 w (tree ∷ []) to []

-- what was read so far, and what completes it where the next token is that of the symbols
pub record Progress (t : List Row) (h limit : ℕ) (ss : List ℕ) (at : ℕ) (ls : List Level) : Type 0 where
  pub row : Row
  pub is_first : IsRowOf t h 0 row
  pub before : List Nested
  pub long : length before ≡ at
  pub spells : map symbol_of before ≡ take at ss
  pub has_room : HasRoom before
  pub rest : List Nested
  pub tree : Tree
  pub front : Whole t h (suc limit) (before ++ rest) tree
  pub stack : IsStack t ls
  pub onto : (v : List Nested) (x : Tree) → next v ≡ slice_get ss at → Goes t ls at v x → Whole t h (suc limit) (before ++ v) x
  pub back : (w : List Nested) (x : Tree) → Whole t h (suc limit) w x → Agrees (suc at) w ss
      → (v : List Nested) × (w ≡ before ++ v) × Goes t ls at v x

down : (limit n : ℕ) → room_left limit (suc n) ≡ pred (room_left limit n)
down limit n = omega arith

full : (limit : ℕ) → room_left limit 0 ≡ suc limit
full limit = omega arith

-- a text counted up, from one counted down
record Upward (t : List Row) (h limit : ℕ) (w : List Nested) (tree : Tree) : Type 0 where
  text : List Nested
  is_rooms : rooms (room_left limit) text ≡ w
  to : ℕ
  reads : Reads t suc 0 0 (Non h ∷ []) 0 text (tree ∷ []) to []

upward : (t : List Row) (h limit : ℕ) (w : List Nested) (tree : Tree) → Whole t h (suc limit) w tree → Upward t h limit w tree
upward t h limit w tree m =
    let o = from_rooms t (room_left limit) suc pred (down limit) m.reads 0 0 (sym (full limit)) (sym (full limit)) [] refl in
    record { text = o.text; is_rooms = o.is_rooms; to = m.to; reads = o.reads }

is_text : (t : List Row) (h limit : ℕ) (row : Row) (w : List Nested) (tree : Tree) → IsRowOf t h 0 row
    → (u : Upward t h limit w tree) → IsText t u.text tree
is_text t h limit row w tree s u = record { head = h; row = row; is_first = s; to = u.to; reads = u.reads }

same_head : (t : List Row) (g h : ℕ) (r s : Row) → IsRowOf t g 0 r → IsRowOf t h 0 s → g ≡ h
same_head t g h r s a b = let x = a.is_there in let y = b.is_there in let u = a.is_of in let v = b.is_of in let e : r ≡ s = cc in cc

pub downward : (t : List Row) (h limit : ℕ) (row : Row) (w : List Nested) (tree : Tree) → IsRowOf t h 0 row
    → IsText t w tree → Whole t h (suc limit) (rooms (room_left limit) w) tree
downward t h limit row w tree s m =
    let r = to_rooms t (room_left limit) suc pred (down limit) m.reads in
    let e = same_head t m.head h m.row row m.is_first s in
    record {
      to = m.to;
      reads = subst (λ q. Reads t pred q q (Non h ∷ []) 0 (rooms (room_left limit) w) (tree ∷ []) m.to []) (full limit)
          (subst (λ q. Reads t pred (room_left limit 0) (room_left limit 0) (Non q ∷ []) 0 (rooms (room_left limit) w) (tree ∷ []) m.to []) e r);
    }

module _ (t : List Row) (heads : List Head) (k : Knows t heads) (h limit : ℕ) (ss : List ℕ) where
  -- some text begins with what was read
  pub front_at : (row : Row) → IsRowOf t h 0 row → (at : ℕ) (b v : List Nested) (tree : Tree) → length b ≡ at
      → map symbol_of b ≡ take at ss → HasRoom b → Whole t h (suc limit) (b ++ v) tree → Front t ss limit at
  front_at row s at b v tree long spells room m =
      let u = upward t h limit (b ++ v) tree m in
      let p = subst (λ q. map symbol_of b ≡ take q ss) (sym long) spells in
      let a = subst (λ q. Agrees (length b) q ss) (sym u.is_rooms) (agrees_before b v ss p) in
      record {
        text = u.text;
        tree = tree;
        is_text = is_text t h limit row (b ++ v) tree s u;
        agrees = subst (λ q. Agrees q u.text ss) long (agrees_origin (room_left limit) (length b) u.text ss a);
        within = subst (λ q. Within limit (take q u.text)) long (within_of limit b v u.text u.is_rooms room);
      }

  pub fails_at : (at : ℕ) (ls : List Level) → Progress t h limit ss at ls → at ≤ length ss
      → Stuck t (slice_get ss at) ls → FailsAt t ss limit at
  fails_at at ls p le stuck = record {
    is_token = le;
    front = front_at p.row p.is_first at p.before p.rest p.tree p.long p.spells p.has_room p.front;
    no_text = λ w x m a.
        let d = p.back (rooms (room_left limit) w) x (downward t h limit p.row w x p.is_first m) (agrees-rooms (room_left limit) (suc at) w ss a) in
        let b = subst (λ q. Agrees (suc at) q ss) d.1 (agrees-rooms (room_left limit) (suc at) w ss a) in
        let c = subst (λ q. Agrees (suc q) (p.before ++ d.0) ss) (sym p.long) b in
        let n = agrees_next p.before d.0 ss c ∙ ap (λ q. slice_get ss q) p.long in
        stuck at d.0 x n d.2;
  }

  pub settled : (at : ℕ) (ls ms : List Level) → Progress t h limit ss at ls → Reaches t (slice_get ss at) ls ms
      → Progress t h limit ss at ms
  settled at ls ms p r = record {
    row = p.row;
    is_first = p.is_first;
    before = p.before;
    long = p.long;
    spells = p.spells;
    has_room = p.has_room;
    rest = p.rest;
    tree = p.tree;
    front = p.front;
    stack = r.stack;
    onto = λ v x n g. p.onto v x n (r.same.back at v x n g);
    back = λ w x m a.
        let d = p.back w x m a in
        let b = subst (λ q. Agrees (suc at) q ss) d.1 a in
        let c = subst (λ q. Agrees (suc q) (p.before ++ d.0) ss) (sym p.long) b in
        let n = agrees_next p.before d.0 ss c ∙ ap (λ q. slice_get ss q) p.long in
        (d.0, d.1, r.same.onto at d.0 x n d.2);
  }

  push_long : (b : List Nested) (x : Nested) (at : ℕ) → length b ≡ at → length (b ++ x ∷ []) ≡ suc at
  push_long b x at e = let f = length-append b (x ∷ []) in omega (arith, e, f)

  push_spells : (b : List Nested) (a n at : ℕ) → map symbol_of b ≡ take at ss → slice_get ss at ≡ Some a
      → map symbol_of (b ++ at_nesting a n ∷ []) ≡ take (suc at) ss
  push_spells b a n at e f =
      map-append symbol_of b (at_nesting a n ∷ []) ∙ (ap (λ q. q ++ a ∷ []) e ∙ sym (take_next at a ss f))

  module _ (at a : ℕ) (l : Level) (ls : List Level) (p : Part) (ps : List Part) (q : Progress t h limit ss at (l ∷ ls))
      (e : l.left ≡ p ∷ ps) (f : terminal p ≡ Some a) (g : slice_get ss at ≡ Some a) where
    behind : (v : List Nested) (x : Tree) → Goes t (took at (l ∷ ls)) (suc at) v x
        → Whole t h (suc limit) (q.before ++ (at_nesting a l.room ∷ v)) x
    behind v x c = q.onto (at_nesting a l.room ∷ v) x (sym g) (take_back t l ls p ps a at v x e f c)

    next_stack : IsStack t (took at (l ∷ ls))
    next_stack = stack_took t k.is_fit l ls p ps at e q.stack

    some_behind : (v : List Nested) × (x : Tree) × Goes t (took at (l ∷ ls)) (suc at) v x
    some_behind =
        let r = alive t k.is_fit (decide t heads k) _ ls next_stack (suc at) in
        (r.0, r.1, r.2)

    each_behind : (w : List Nested) (x : Tree) → Whole t h (suc limit) w x → Agrees (suc at) w ss
        → (v : List Nested) × (w ≡ q.before ++ (at_nesting a l.room ∷ v)) × Goes t (took at (l ∷ ls)) (suc at) v x
    each_behind w x m d =
        let r = q.back w x m d in
        let s = take_onto t l ls p ps a at r.0 x e f r.2 in
        (s.0, r.1 ∙ ap (λ y. q.before ++ y) s.1, s.2)

    regroup : (v : List Nested) → q.before ++ (at_nesting a l.room ∷ v) ≡ (q.before ++ at_nesting a l.room ∷ []) ++ v
    regroup v = sym (append_assoc q.before (at_nesting a l.room ∷ []) v)

    pub next_progress : 0 < l.room → Progress t h limit ss (suc at) (took at (l ∷ ls))
    next_progress r =
        let o = some_behind in
        record {
          row = q.row;
          is_first = q.is_first;
          before = q.before ++ at_nesting a l.room ∷ [];
          long = push_long q.before (at_nesting a l.room) at q.long;
          spells = push_spells q.before a l.room at q.spells g;
          has_room = has_room-push q.before a l.room q.has_room r;
          rest = o.0;
          tree = o.1;
          front = subst (λ w. Whole t h (suc limit) w o.1) (regroup o.0) (behind o.0 o.1 o.2);
          stack = next_stack;
          onto = λ v x n c. subst (λ w. Whole t h (suc limit) w x) (regroup v) (behind v x c);
          back = λ w x m d.
              let s = each_behind w x m (agrees_less (suc at) w ss d) in
              (s.0, s.1 ∙ regroup s.0, s.2);
        }

    spelled : map symbol_of q.before ≡ take (length q.before) ss
    spelled = subst (λ y. map symbol_of q.before ≡ take y ss) (sym q.long) q.spells

    passes_each : l.room ≡ 0 → (w : List Nested) (x : Tree) → IsText t w x → Agrees (suc at) w ss → PassesFirst w limit at
    passes_each z w x m d =
        let s = each_behind (rooms (room_left limit) w) x (downward t h limit q.row w x q.is_first m)
        (agrees-rooms (room_left limit) (suc at) w ss d) in
        let y = subst (λ r. rooms (room_left limit) w ≡ q.before ++ (at_nesting a r ∷ s.0)) z s.1 in
        let n = no_room limit a q.before s.0 w y in
        record {
          before = subst (λ r. Within limit (take r w)) q.long (within_of limit q.before (at_nesting a 0 ∷ s.0) w y q.has_room);
          symbol = n.symbol;
          nesting = n.nesting;
          rest = n.rest;
          is_at = subst (λ r. drop r w ≡ at_nesting n.symbol n.nesting ∷ n.rest) q.long n.is_at;
          passes = n.passes;
        }

    pub passes_at : at < length ss → l.room ≡ 0 → PassesAt t ss limit at
    passes_at le z =
        let o = some_behind in
        let w = q.before ++ (at_nesting a l.room ∷ o.0) in
        let u = upward t h limit w o.1 (behind o.0 o.1 o.2) in
        let here : next (at_nesting a l.room ∷ o.0) ≡ slice_get ss (length q.before) = sym g ∙ ap (λ y. slice_get ss y) (sym q.long) in
        let d = subst (λ y. Agrees (suc (length q.before)) y ss) (sym u.is_rooms) (agrees_at q.before (at_nesting a l.room ∷ o.0) ss spelled here) in
        record {
          is_symbol = le;
          text = u.text;
          tree = o.1;
          is_text = is_text t h limit q.row w o.1 q.is_first u;
          agrees = subst (λ y. Agrees (suc y) u.text ss) q.long (agrees_origin (room_left limit) (suc (length q.before)) u.text ss d);
          each = passes_each z;
        }

  progress_ready : (at a : ℕ) (mid : List Level) → Progress t h limit ss at mid → IsReady (Some a) mid → slice_get ss at ≡ Some a
      → 0 < room_of mid → Progress t h limit ss (suc at) (took at mid)
  progress_ready at a [] q r g z = absurd r
  progress_ready at a (l ∷ ls) q r g z =
      let f : terminal r.0 ≡ Some a = r.4 ∙ sym r.5 in
      next_progress at a l ls r.0 r.2 q r.3 f g z

  pub takes : (at a : ℕ) (ls ms : List Level) → Progress t h limit ss at ls → slice_get ss at ≡ Some a
      → Takes t (Some a) at ls ms → Progress t h limit ss (suc at) ms
  takes at a ls ms q g m =
      let c = m.comes in
      let r = subst (λ y. Reaches t y ls c.mid) (sym g) c.reaches in
      subst (λ y. Progress t h limit ss (suc at) y) (sym m.is_new)
      (progress_ready at a c.mid (settled at ls c.mid q r) c.ready g m.has_room)

  lacks_ready : (at a : ℕ) (mid : List Level) → Progress t h limit ss at mid → IsReady (Some a) mid → slice_get ss at ≡ Some a
      → at < length ss → room_of mid ≡ 0 → PassesAt t ss limit at
  lacks_ready at a [] q r g le z = absurd r
  lacks_ready at a (l ∷ ls) q r g le z =
      let f : terminal r.0 ≡ Some a = r.4 ∙ sym r.5 in
      passes_at at a l ls r.0 r.2 q r.3 f g le z

  pub lacks : (at a : ℕ) (ls : List Level) → Progress t h limit ss at ls → slice_get ss at ≡ Some a → at < length ss
      → LacksRoom t (Some a) ls → PassesAt t ss limit at
  lacks at a ls q g le m =
      let c = m.comes in
      let r = subst (λ y. Reaches t y ls c.mid) (sym g) c.reaches in
      lacks_ready at a c.mid (settled at ls c.mid q r) c.ready g le m.has_none

  past_end : (xs : List ℕ) → slice_get xs (length xs) ≡ None
  past_end [] = refl
  past_end (x ∷ xs) = past_end xs

  over_goes : (at : ℕ) (mid : List Level) (x : Tree) → IsOver mid → node_of mid x → Goes t mid at [] x
  over_goes at [] x o n = absurd o
  over_goes at (l ∷ []) x o n = (
    at,
    record {
      kids = [];
      reads = subst (λ q. Reads t pred l.room l.turn q at [] [] at []) (sym o) (Reads.ended refl refl);
      is_node = n ∙ ap (λ q. Node l.row q) (sym (append-nil l.kids));
    },
  )
  over_goes at (l ∷ m ∷ ms) x o n = absurd o

  pub finishes : (ls : List Level) (x : Tree) → Progress t h limit ss (length ss) ls → Finishes t ls x
      → IsReading t ss limit x
  finishes ls x q m =
      let n = past_end ss in
      let r = subst (λ y. Reaches t y ls m.last) (sym n) m.reaches in
      let p = settled (length ss) ls m.last q r in
      let g = p.onto [] x (sym n) (over_goes (length ss) m.last x m.is_over m.is_node) in
      let w = subst (λ y. Whole t h (suc limit) y x) (append-nil p.before) g in
      let u = upward t h limit p.before x w in
      record {
        text = u.text;
        is_text = is_text t h limit p.row p.before x p.is_first u;
        spells = sym (symbols-rooms (room_left limit) u.text) ∙ (ap (map symbol_of) u.is_rooms ∙ (p.spells ∙ take_all (length ss) ss (omega arith)));
        within = all_within limit u.text (subst HasRoom (sym u.is_rooms) p.has_room);
      }

  pub fails_end : (ls : List Level) → Progress t h limit ss (length ss) ls → Stuck t None ls → FailsAt t ss limit (length ss)
  fails_end ls q m = fails_at (length ss) ls q (omega arith) (subst (λ y. Stuck t y ls) (sym (past_end ss)) m)
