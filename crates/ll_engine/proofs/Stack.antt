-- The rows that are being read stand in each other, and what is left of them goes on to a text.
use Rattle.std.proofs.Common.{◌≡◌, ◌++◌, ◌⊎◌, inl, inr, ℕ, suc, pred, List, [], ◌∷◌, Option, Some, None, true, false, refl, sym, ◌∙◌, ap, subst, drop}
use Rattle.ll_engine.specs.declared.table.Part.{Part}
use Rattle.ll_engine.specs.declared.table.Part.TheVariants.{Term, Non, Maybe, Many, Chain}
use Rattle.ll_engine.specs.declared.table.Row.{Row}
use Rattle.ll_engine.specs.declared.tables.Head.{Head}
use Rattle.ll_engine.specs.declared.tree.Tree.{Tree}
use Rattle.ll_engine.specs.declared.tree.Tree.TheVariants.{Leaf, Node}
use Rattle.ll_engine.specs.Grammar.{terminal, named, is_optional, is_repeated, IsRowOf, IsBlank, HasText}
use Rattle.ll_engine.specs.Class.{IsFit, Leads, ComesAt}
use Rattle.ll_engine.specs.Knows.{Knows, row_blank}
use Rattle.ll_engine.specs.Reading.{Nested, at_nesting, next, left_after, Reads}
use Rattle.ll_engine.specs.Machine.{Level, Completes, Goes, Next, IsLevel, IsStack, parts_of, with_kid, passed, entered, skipped, closed, took}
use Rattle.ll_engine.proofs.Shapes as Shapes
use Rattle.ll_engine.proofs.Moves.{rejoin, unjoin, passed_left, left_part}
use Rattle.ll_engine.proofs.GoOn.{drop_next, blank_rest, context_of, follows_at, Onward, go_on}

blank_row_of : {t : List Row} {h : ℕ} → IsBlank t (Non h ∷ [])
    → (i : ℕ) × (row : Row) × IsRowOf t h i row × IsBlank t row.parts
blank_row_of (IsBlank.skipped o b) = cc
blank_row_of {t} {h} (IsBlank.empty {h = g} {i = i} {row = row} f s b c) =
    let e : g ≡ h = cc in (i, row, subst (λ q. IsRowOf t q i row) e s, b)

pub decide : (t : List Row) (heads : List Head) → Knows t heads
    → (h : ℕ) → IsBlank t (Non h ∷ []) ⊎ (IsBlank t (Non h ∷ []) → ⊥)
decide t heads k h = go (row_blank heads h) refl
  where
    go : (o : Option ℕ) → row_blank heads h ≡ o → IsBlank t (Non h ∷ []) ⊎ (IsBlank t (Non h ∷ []) → ⊥)
    go None e = inr (λ b. let r = blank_row_of b in k.not_blank h r.0 r.1 e r.2 r.3)
    go (Some i) e = let r = k.blank h i e in inl (IsBlank.empty refl r.1 r.2 IsBlank.nothing)

module _ (t : List Row) (k : IsFit t) where
  with_row : (p : Part) (ps : List Part) (h g : ℕ) → named p ≡ Some h → g ≡ h → HasText t (Non g ∷ [])
      → HasText t ps → HasText t (p ∷ ps)
  with_row p ps h g f e (HasText.symbol o m) n = cc
  with_row p ps h g f e (HasText.skipped o m) n = cc
  with_row p ps h g f e (HasText.row {h = j} {i = i} {row = row} o s m l) n =
      let same : j ≡ h = cc in
      HasText.row f (subst (λ q. IsRowOf t q i row) same s) m n

  -- each head has a text, so the rest of a row has one
  pub has_text : (g i : ℕ) (row : Row) → IsRowOf t g i row → (ps : List Part) (n : ℕ) → drop n row.parts ≡ ps
      → HasText t ps
  has_text g i row s [] n e = HasText.nothing
  has_text g i row s (p ∷ ps) n e = of_part p refl (has_text g i row s ps (suc n) (drop_next n row.parts p ps e))
    where
      of_head : (h : ℕ) → named p ≡ Some h → HasText t ps → HasText t (p ∷ ps)
      of_head h f m =
          let r = (k.keeps i g row s).known n h p ps (record { cut = e }) f in
          with_row p ps h r.1.head f r.2.is_of (k.keeps r.0 h r.1 r.2).has_text m

      of_part : (q : Part) → q ≡ p → HasText t ps → HasText t (p ∷ ps)
      of_part (Term a) f m = HasText.symbol (ap terminal (sym f)) m
      of_part (Non a) f m = of_head a (ap named (sym f)) m
      of_part (Maybe a) f m = of_head a (ap named (sym f)) m
      of_part (Many a) f m = of_head a (ap named (sym f)) m
      of_part (Chain a) f m = of_head a (ap named (sym f)) m

  module _ (decide' : (h : ℕ) → IsBlank t (Non h ∷ []) ⊎ (IsBlank t (Non h ∷ []) → ⊥)) where
    -- what one row reads from here
    onward : (l : Level) (B : Option ℕ → Type 0) → IsLevel t l B → (at : ℕ)
        → Onward t pred B l.room l.turn l.left at
    onward l B v at =
        go_on t k decide' pred (has_text v.head l.row v.row v.is_row l.left v.at v.cut) B
        (context_of t B v.head l.row v.row (k.keeps l.row v.head v.row v.is_row) v.is_row v.follows l.left v.at v.cut)
        l.room l.turn at

    level_kid : (m : Level) (x : Tree) (B : Option ℕ → Type 0) → IsLevel t m B → IsLevel t (with_kid m x) B
    level_kid m x B v = record {
      head = v.head;
      at = v.at;
      row = v.row;
      is_row = v.is_row;
      cut = v.cut;
      follows = v.follows;
    }

    -- some list completes the rows
    pub alive : (l : Level) (ls : List Level) → IsStack t (l ∷ ls) → (at : ℕ)
        → (w : List Nested) × (tree : Tree) × Completes t l ls at w tree × Next t (l ∷ ls) (next w)
    alive l [] v at =
        let o = onward l (Next t []) v.0 at in (
          o.text ++ [],
          Node l.row (l.kids ++ o.trees),
          (o.to, record { kids = o.trees; reads = o.reads [] refl; is_node = refl }),
          o.comes [] refl,
        )
    alive l (m ∷ ms) v at =
        let o = onward l (Next t (m ∷ ms)) v.0 at in
        let x = Node l.row (l.kids ++ o.trees) in
        let r = alive (with_kid m x) ms (level_kid m x (Next t ms) v.1.0, v.1.1) o.to in (
          o.text ++ r.0,
          r.1,
          (x, o.to, r.0, record { kids = o.trees; reads = o.reads r.0 r.3; is_node = refl }, r.2),
          o.comes r.0 r.3,
        )

  pub stack_skipped : (l : Level) (ls : List Level) (p : Part) (ps : List Part) → l.left ≡ p ∷ ps
      → IsStack t (l ∷ ls) → IsStack t (skipped (l ∷ ls))
  stack_skipped l ls p ps e v =
      let a = v.0 in (
        record {
          head = a.head;
          at = suc a.at;
          row = a.row;
          is_row = a.is_row;
          follows = a.follows;
          cut = drop_next a.at a.row.parts p ps (a.cut ∙ e) ∙ sym (left_part l p ps e);
        },
        v.1,
      )

  pub stack_took : (l : Level) (ls : List Level) (p : Part) (ps : List Part) (n : ℕ) → l.left ≡ p ∷ ps
      → IsStack t (l ∷ ls) → IsStack t (took n (l ∷ ls))
  stack_took l ls p ps n e v =
      let a = v.0 in (
        record {
          head = a.head;
          at = suc a.at;
          row = a.row;
          is_row = a.is_row;
          follows = a.follows;
          cut = drop_next a.at a.row.parts p ps (a.cut ∙ e) ∙ sym (left_part l p ps e);
        },
        v.1,
      )

  pub stack_closed : (l m : Level) (ms : List Level) → IsStack t (l ∷ m ∷ ms) → IsStack t (closed (l ∷ m ∷ ms))
  stack_closed l m ms v =
      let a = v.1.0 in (
        record {
          head = a.head;
          at = a.at;
          row = a.row;
          is_row = a.is_row;
          cut = a.cut;
          follows = a.follows;
        },
        v.1.1,
      )

  comes_on : (B : Option ℕ → Type 0) (p : Part) (ps : List Part) (x : Option ℕ) → is_optional p ≡ true
      → terminal p ≡ None → ComesAt t B (p ∷ ps) x → ComesAt t B ps x
  comes_on B p ps x o n (ComesAt.here (Leads.itself f)) = cc
  comes_on B p ps x o n (ComesAt.here (Leads.inside f m s l)) = absurd (m (IsBlank.skipped o IsBlank.nothing))
  comes_on B p ps x o n (ComesAt.here (Leads.behind b l)) = ComesAt.here l
  comes_on B p ps x o n (ComesAt.later b y) = ComesAt.later (blank_rest t b) y

  comes_after : (B : Option ℕ → Type 0) (p : Part) (ps : List Part) (x : Option ℕ)
      → ComesAt t B (left_after p ps) x → ComesAt t B ps x
  comes_after B (Term a) ps x c = c
  comes_after B (Non a) ps x c = c
  comes_after B (Maybe a) ps x c = c
  comes_after B (Many a) ps x c = comes_on B (Many a) ps x refl refl c
  comes_after B (Chain a) ps x c = comes_on B (Chain a) ps x refl refl c

  level_passed : (l : Level) (p : Part) (ps : List Part) (B : Option ℕ → Type 0) → l.left ≡ p ∷ ps
      → IsLevel t l B → IsLevel t (passed p l) B
  level_passed l p ps B e v = of_part p e
    where
      once : drop (suc v.at) v.row.parts ≡ drop 1 l.left → (q : Part) → is_repeated q ≡ false → IsLevel t (passed q l) B
      once f (Term a) g = record { head = v.head; at = suc v.at; row = v.row; is_row = v.is_row; follows = v.follows; cut = f }
      once f (Non a) g = record { head = v.head; at = suc v.at; row = v.row; is_row = v.is_row; follows = v.follows; cut = f }
      once f (Maybe a) g = record { head = v.head; at = suc v.at; row = v.row; is_row = v.is_row; follows = v.follows; cut = f }
      once f (Many a) g = cc
      once f (Chain a) g = cc

      cut : drop (suc v.at) v.row.parts ≡ drop 1 l.left
      cut = drop_next v.at v.row.parts p ps (v.cut ∙ e) ∙ sym (left_part l p ps e)

      of_part : (q : Part) → l.left ≡ q ∷ ps → IsLevel t (passed q l) B
      of_part (Term a) f = once cut (Term a) refl
      of_part (Non a) f = once cut (Non a) refl
      of_part (Maybe a) f = once cut (Maybe a) refl
      of_part (Many a) f = record { head = v.head; at = v.at; row = v.row; is_row = v.is_row; follows = v.follows; cut = v.cut }
      of_part (Chain a) f = record { head = v.head; at = v.at; row = v.row; is_row = v.is_row; follows = v.follows; cut = v.cut }

  pub stack_entered : (l : Level) (ls : List Level) (p : Part) (ps : List Part) (h i : ℕ) (row : Row)
      → l.left ≡ p ∷ ps → named p ≡ Some h → IsRowOf t h i row
      → IsStack t (l ∷ ls) → IsStack t (entered t i p (l ∷ ls))
  stack_entered l ls p ps h i row e f s v =
      let a = v.0 in (
        record {
          head = h;
          at = 0;
          row = row;
          is_row = s;
          cut = sym (ap parts_of s.is_there);
          follows = λ x c. follows_at t (Next t ls) a.head l.row a.at a.row p ps a.is_row a.follows
              (record { cut = a.cut ∙ e }) h x f
              (comes_after (Next t ls) p ps x (subst (λ q. ComesAt t (Next t ls) q x) (passed_left p ps l e) c));
        },
        (level_passed l p ps (Next t ls) e a, v.1),
      )

-- a symbol is read
pub take_onto : (t : List Row) (l : Level) (ls : List Level) (p : Part) (ps : List Part) (a at : ℕ) (w : List Nested) (tree : Tree)
    → l.left ≡ p ∷ ps → terminal p ≡ Some a → Goes t (l ∷ ls) at w tree
    → (v : List Nested) × (w ≡ at_nesting a l.room ∷ v) × Goes t (took at (l ∷ ls)) (suc at) v tree
take_onto t l [] p ps a at w tree e f c =
    let r = c.1 in
    let s = Shapes.symbol t pred f (subst (λ q. Reads t pred l.room l.turn q at w r.kids c.0 []) e r.reads) in (
      s.v,
      s.text,
      (
        c.0,
        unjoin t (record l { left = drop 1 l.left; turn = l.room }) (Leaf at) (suc at) c.0 s.v [] tree s.us
            (subst (λ q. Reads t pred l.room l.room q (suc at) s.v s.us c.0 []) (sym (left_part l p ps e)) s.reads)
            (r.is_node ∙ ap (λ q. Node l.row (l.kids ++ q)) s.trees),
      ),
    )
take_onto t l (m ∷ ms) p ps a at w tree e f c =
    let r = c.3 in
    let s = Shapes.symbol t pred f (subst (λ q. Reads t pred l.room l.turn q at w r.kids c.1 c.2) e r.reads) in (
      s.v,
      s.text,
      (
        c.0,
        c.1,
        c.2,
        unjoin t (record l { left = drop 1 l.left; turn = l.room }) (Leaf at) (suc at) c.1 s.v c.2 c.0 s.us
            (subst (λ q. Reads t pred l.room l.room q (suc at) s.v s.us c.1 c.2) (sym (left_part l p ps e)) s.reads)
            (r.is_node ∙ ap (λ q. Node l.row (l.kids ++ q)) s.trees),
        c.4,
      ),
    )

pub take_back : (t : List Row) (l : Level) (ls : List Level) (p : Part) (ps : List Part) (a at : ℕ) (v : List Nested) (tree : Tree)
    → l.left ≡ p ∷ ps → terminal p ≡ Some a → Goes t (took at (l ∷ ls)) (suc at) v tree
    → Goes t (l ∷ ls) at (at_nesting a l.room ∷ v) tree
take_back t l [] p ps a at v tree e f c =
    let b = rejoin t (record l { left = drop 1 l.left; turn = l.room }) (Leaf at) (suc at) c.0 v [] tree c.1 in (
      c.0,
      record {
        kids = Leaf at ∷ b.0;
        is_node = b.2;
        reads = subst (λ q. Reads t pred l.room l.turn q at (at_nesting a l.room ∷ v) (Leaf at ∷ b.0) c.0 []) (sym e)
            (Reads.symbol f refl refl (subst (λ q. Reads t pred l.room l.room q (suc at) v b.0 c.0 []) (left_part l p ps e) b.1));
      },
    )
take_back t l (m ∷ ms) p ps a at v tree e f c =
    let b = rejoin t (record l { left = drop 1 l.left; turn = l.room }) (Leaf at) (suc at) c.1 v c.2 c.0 c.3 in (
      c.0,
      c.1,
      c.2,
      record {
        kids = Leaf at ∷ b.0;
        is_node = b.2;
        reads = subst (λ q. Reads t pred l.room l.turn q at (at_nesting a l.room ∷ v) (Leaf at ∷ b.0) c.1 c.2) (sym e)
            (Reads.symbol f refl refl (subst (λ q. Reads t pred l.room l.room q (suc at) v b.0 c.1 c.2) (left_part l p ps e) b.1));
      },
      c.4,
    )
