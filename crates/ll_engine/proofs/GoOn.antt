-- Whatever was read goes on to a text.
use Rattle.std.proofs.Common.{◌≡◌, ◌++◌, ◌⊎◌, inl, inr, ℕ, zero, suc, List, [], ◌∷◌, Option, Some, None, true, refl, sym, subst, drop, append_assoc}
use Rattle.ll_engine.specs.declared.table.Part.{Part}
use Rattle.ll_engine.specs.declared.table.Part.TheVariants.{Term, Non, Maybe, Many, Chain}
use Rattle.ll_engine.specs.declared.table.Row.{Row}
use Rattle.ll_engine.specs.declared.tree.Tree.{Tree}
use Rattle.ll_engine.specs.declared.tree.Tree.TheVariants.{Leaf, Node}
use Rattle.ll_engine.specs.Grammar.{terminal, named, is_optional, HasPart, IsRowOf, IsBlank, IsBegun, Begins, HasText}
use Rattle.ll_engine.specs.Class.{IsFit, Keeps, Leads, Follows, ComesAt}
use Rattle.ll_engine.specs.Reading.{Nested, at_nesting, next, inside, Reads}
use Rattle.ll_engine.proofs.Shapes.{part_begun}

pub drop_next : (n : ℕ) (xs : List Part) (p : Part) (ps : List Part) → drop n xs ≡ p ∷ ps → drop (suc n) xs ≡ ps
drop_next zero [] p ps e = cc
drop_next zero (x ∷ xs) p ps e = cc
drop_next (suc n) [] p ps e = cc
drop_next (suc n) (x ∷ xs) p ps e = drop_next n xs p ps e

module _ (t : List Row) where
  pub blank_join : {p : Part} {ps : List Part} → IsBlank t (p ∷ []) → IsBlank t ps → IsBlank t (p ∷ ps)
  blank_join (IsBlank.skipped e b) c = IsBlank.skipped e c
  blank_join (IsBlank.empty e r b d) c = IsBlank.empty e r b c

  pub blank_first : {p : Part} {ps : List Part} → IsBlank t (p ∷ ps) → IsBlank t (p ∷ [])
  blank_first (IsBlank.skipped e b) = IsBlank.skipped e IsBlank.nothing
  blank_first (IsBlank.empty e r b d) = IsBlank.empty e r b IsBlank.nothing

  pub blank_rest : {p : Part} {ps : List Part} → IsBlank t (p ∷ ps) → IsBlank t ps
  blank_rest (IsBlank.skipped e b) = b
  blank_rest (IsBlank.empty e r b d) = d

  pub leads_begins : {ps : List Part} {a : ℕ} → Leads t ps a → Begins t ps a
  leads_begins (Leads.itself e) = Begins.itself e
  leads_begins (Leads.inside e n r l) = Begins.inside e r (leads_begins l)
  leads_begins (Leads.behind b l) = Begins.behind b (leads_begins l)

  pub comes_behind : {B : Option ℕ → Type 0} {p : Part} {ps : List Part} {x : Option ℕ}
      → IsBlank t (p ∷ []) → ComesAt t B ps x → ComesAt t B (p ∷ ps) x
  comes_behind b (ComesAt.here l) = ComesAt.here (Leads.behind b l)
  comes_behind b (ComesAt.later c y) = ComesAt.later (blank_join b c) y

  -- Of each of the parts: where it is left out, no symbol that begins it comes; and what comes behind it
  -- comes behind its head.
  abbrev pub Context : (Option ℕ → Type 0) → List Part → Type 0
  Context B [] = Unit {0}
  Context B (p ∷ ps) =
      ((a : ℕ) → IsBlank t (p ∷ []) → Begins t (p ∷ []) a → ComesAt t B ps (Some a) → ⊥)
      × ((h : ℕ) (x : Option ℕ) → named p ≡ Some h → ComesAt t B ps x → Follows t h x)
      × Context B ps

  decided_at : (B : Option ℕ → Type 0) (h i n : ℕ) (row : Row) (p : Part) (ps : List Part) → Keeps t row
      → IsRowOf t h i row → ((x : Option ℕ) → B x → Follows t h x) → HasPart row.parts n p ps
      → (a : ℕ) → IsBlank t (p ∷ []) → Begins t (p ∷ []) a → ComesAt t B ps (Some a) → ⊥
  decided_at B h i n row p ps k r f c a b s m = k.decided n a p ps c b s (wider m)
    where
      wider : {x : Option ℕ} → ComesAt t B ps x → ComesAt t (Follows t row.head) ps x
      wider (ComesAt.here l) = ComesAt.here l
      wider {x} (ComesAt.later e y) = ComesAt.later e (subst (λ q. Follows t q x) (sym r.is_of) (f x y))

  pub follows_at : (B : Option ℕ → Type 0) (g i n : ℕ) (row : Row) (p : Part) (ps : List Part)
      → IsRowOf t g i row → ((x : Option ℕ) → B x → Follows t g x) → HasPart row.parts n p ps
      → (h : ℕ) (x : Option ℕ) → named p ≡ Some h → ComesAt t B ps x → Follows t h x
  follows_at B g i n row p ps r f c h x e (ComesAt.here l) = Follows.before r c e l
  follows_at B g i n row p ps r f c h x e (ComesAt.later b y) = Follows.last r c e b (f x y)

  pub context_of : (B : Option ℕ → Type 0) (h i : ℕ) (row : Row) → Keeps t row
      → IsRowOf t h i row → ((x : Option ℕ) → B x → Follows t h x)
      → (ps : List Part) (n : ℕ) → drop n row.parts ≡ ps → Context B ps
  context_of B h i row k r f [] n e = tt
  context_of B h i row k r f (p ∷ ps) n e = (
    decided_at B h i n row p ps k r f (record { cut = e }),
    follows_at B h i n row p ps r f (record { cut = e }),
    context_of B h i row k r f ps (suc n) (drop_next n row.parts p ps e),
  )

  -- parts that may be left out, left out
  pub record AllLeft (g : ℕ → ℕ) (d e : ℕ) (ps : List Part) (at : ℕ) : Type 0 where
    pub kids : List Tree
    pub reads : (w : List Nested) → (IsBegun t ps (next w) → ⊥) → Reads t g d e ps at w kids at w

  begun_behind : {p : Part} (ps : List Part) (x : Option ℕ) → IsBlank t (p ∷ []) → IsBegun t ps x → IsBegun t (p ∷ ps) x
  begun_behind ps None b c = c
  begun_behind ps (Some a) b c = Begins.behind b c

  begun_first : (p : Part) (ps : List Part) (x : Option ℕ) → IsBegun t (p ∷ []) x → IsBegun t (p ∷ ps) x
  begun_first p ps None b = b
  begun_first p ps (Some a) (Begins.itself e) = Begins.itself e
  begun_first p ps (Some a) (Begins.inside e r b) = Begins.inside e r b
  begun_first p ps (Some a) (Begins.behind b c) = elim c [ ]

  pub all_left : (g : ℕ → ℕ) {ps : List Part} → IsBlank t ps → (d e at : ℕ) → AllLeft g d e ps at
  all_left g IsBlank.nothing d e at = record { kids = []; reads = λ w n. Reads.ended refl refl }
  all_left g (IsBlank.skipped {p = p} {ps = ps} o b) d e at =
      let r = all_left g b d d at in
      record {
        kids = r.kids;
        reads = λ w n. Reads.left_out o (λ c. n (begun_first _ _ (next w) c))
            (r.reads w (λ c. n (begun_behind _ (next w) (IsBlank.skipped o IsBlank.nothing) c)));
      }
  all_left g (IsBlank.empty {p = Term a} f s b c) d e at = cc
  all_left g (IsBlank.empty {p = Non a} {ps = ps} {h = h} {i = i} {row = row} f s b c) d e at =
      let k = all_left g b (inside g row d) (inside g row d) at in
      let r = all_left g c d d at in
      record {
        kids = Node i k.kids ∷ r.kids;
        reads = λ w n. Reads.empty refl f (λ y. n (begun_first _ _ (next w) y)) s b refl
            (k.reads w (λ y. n (part_begun (Non a) ps (next w) f s y)))
            (r.reads w (λ y. n (begun_behind _ (next w) (IsBlank.empty f s b IsBlank.nothing) y)));
      }
  all_left g (IsBlank.empty {p = Maybe a} f s b c) d e at =
      let r = all_left g c d d at in
      record {
        kids = r.kids;
        reads = λ w n. Reads.left_out refl (λ y. n (begun_first _ _ (next w) y))
            (r.reads w (λ y. n (begun_behind _ (next w) (IsBlank.skipped refl IsBlank.nothing) y)));
      }
  all_left g (IsBlank.empty {p = Many a} f s b c) d e at =
      let r = all_left g c d d at in
      record {
        kids = r.kids;
        reads = λ w n. Reads.left_out refl (λ y. n (begun_first _ _ (next w) y))
            (r.reads w (λ y. n (begun_behind _ (next w) (IsBlank.skipped refl IsBlank.nothing) y)));
      }
  all_left g (IsBlank.empty {p = Chain a} f s b c) d e at =
      let r = all_left g c d d at in
      record {
        kids = r.kids;
        reads = λ w n. Reads.left_out refl (λ y. n (begun_first _ _ (next w) y))
            (r.reads w (λ y. n (begun_behind _ (next w) (IsBlank.skipped refl IsBlank.nothing) y)));
      }

  -- a list that the parts read whatever comes behind it, as long as that may come there
  pub record Onward (g : ℕ → ℕ) (B : Option ℕ → Type 0) (d e : ℕ) (ps : List Part) (at : ℕ) : Type 0 where
    pub text : List Nested
    pub trees : List Tree
    pub to : ℕ
    pub reads : (rest : List Nested) → B (next rest) → Reads t g d e ps at (text ++ rest) trees to rest
    pub comes : (rest : List Nested) → B (next rest) → ComesAt t B ps (next (text ++ rest))

  not_begun : (B : Option ℕ → Type 0) (p : Part) (ps : List Part) (x : Option ℕ)
      → ((a : ℕ) → IsBlank t (p ∷ []) → Begins t (p ∷ []) a → ComesAt t B ps (Some a) → ⊥)
      → IsBlank t (p ∷ []) → ComesAt t B ps x → IsBegun t (p ∷ []) x → ⊥
  not_begun B p ps None f b c s = s
  not_begun B p ps (Some a) f b c s = f a b s c

  on_skip : (g : ℕ → ℕ) (B : Option ℕ → Type 0) (p : Part) (ps : List Part) (d e at : ℕ) → is_optional p ≡ true
      → Context B (p ∷ ps) → Onward g B d d ps at → Onward g B d e (p ∷ ps) at
  on_skip g B p ps d e at o c r =
      let b = IsBlank.skipped o IsBlank.nothing in
      record {
        text = r.text;
        trees = r.trees;
        to = r.to;
        reads = λ rest y. Reads.left_out o (not_begun B p ps (next (r.text ++ rest)) c.0 b (r.comes rest y)) (r.reads rest y);
        comes = λ rest y. comes_behind b (r.comes rest y);
      }

  on_symbol : (g : ℕ → ℕ) (B : Option ℕ → Type 0) (p : Part) (ps : List Part) (a d e at : ℕ) → terminal p ≡ Some a
      → Onward g B d d ps (suc at) → Onward g B d e (p ∷ ps) at
  on_symbol g B p ps a d e at f r = record {
    text = at_nesting a d ∷ r.text;
    trees = Leaf at ∷ r.trees;
    to = r.to;
    reads = λ rest y. Reads.symbol f refl refl (r.reads rest y);
    comes = λ rest y. ComesAt.here (Leads.itself f);
  }

  on_empty : (g : ℕ → ℕ) (B : Option ℕ → Type 0) (a : ℕ) (ps : List Part) (d e at : ℕ)
      → IsBlank t (Non a ∷ []) → Context B (Non a ∷ ps) → Onward g B d d ps at → Onward g B d e (Non a ∷ ps) at
  on_empty g B a ps d e at (IsBlank.skipped o b) c r = cc
  on_empty g B a ps d e at (IsBlank.empty {i = i} {row = row} f s b m) c r =
      let k = all_left g b (inside g row d) (inside g row d) at in
      let z = IsBlank.empty f s b IsBlank.nothing in
      record {
        text = r.text;
        trees = Node i k.kids ∷ r.trees;
        to = r.to;
        reads = λ rest y.
            let x = next (r.text ++ rest) in
            let n = not_begun B (Non a) ps x c.0 z (r.comes rest y) in
            Reads.empty refl f n s b refl
            (k.reads (r.text ++ rest) (λ q. n (part_begun (Non a) [] x f s q)))
            (r.reads rest y);
        comes = λ rest y. comes_behind z (r.comes rest y);
      }

  comes_leads : (B : Option ℕ → Type 0) (ps : List Part) (x : Option ℕ) → (IsBlank t ps → ⊥)
      → ComesAt t B ps x → (a : ℕ) × (x ≡ Some a) × Leads t ps a
  comes_leads B ps x n (ComesAt.here {a = a} l) = (a, refl, l)
  comes_leads B ps x n (ComesAt.later b y) = absurd (n b)

  on_row : (g : ℕ → ℕ) (B : Option ℕ → Type 0) (a h i : ℕ) (row : Row) (ps : List Part) (d e at : ℕ)
      → named (Non a) ≡ Some h → IsRowOf t h i row → (IsBlank t (Non a ∷ []) → ⊥)
      → (r : Onward g (ComesAt t B ps) (inside g row d) (inside g row d) row.parts at)
      → Onward g B d d ps r.to → Onward g B d e (Non a ∷ ps) at
  on_row g B a h i row ps d e at f s n r q =
      let not_blank : IsBlank t row.parts → ⊥ = λ b. n (IsBlank.empty f s b IsBlank.nothing) in
      record {
        text = r.text ++ q.text;
        trees = Node i r.trees ∷ q.trees;
        to = q.to;
        reads = λ rest y.
            let l = comes_leads _ _ _ not_blank (r.comes (q.text ++ rest) (q.comes rest y)) in
            let b = subst (λ x. IsBegun t row.parts x) (sym l.1) (leads_begins l.2) in
            subst (λ w. Reads t g d e (Non a ∷ ps) at w (Node i r.trees ∷ q.trees) q.to rest)
            (sym (append_assoc r.text q.text rest))
            (Reads.taken f s b refl refl (r.reads (q.text ++ rest) (q.comes rest y)) (q.reads rest y));
        comes = λ rest y.
            let l = comes_leads _ _ _ not_blank (r.comes (q.text ++ rest) (q.comes rest y)) in
            subst (λ w. ComesAt t B (Non a ∷ ps) (next w)) (sym (append_assoc r.text q.text rest))
            (subst (λ x. ComesAt t B (Non a ∷ ps) x) (sym l.1) (ComesAt.here (Leads.inside f n s l.2)));
      }

  module _ (k : IsFit t) (decide : (h : ℕ) → IsBlank t (Non h ∷ []) ⊎ (IsBlank t (Non h ∷ []) → ⊥)) where
    pub go_on : (g : ℕ → ℕ) {ps : List Part} → HasText t ps → (B : Option ℕ → Type 0) → Context B ps
        → (d e at : ℕ) → Onward g B d e ps at
    go_on g HasText.nothing B c d e at = record {
      text = [];
      trees = [];
      to = at;
      reads = λ rest y. Reads.ended refl refl;
      comes = λ rest y. ComesAt.later IsBlank.nothing y;
    }
    go_on g (HasText.symbol {p = p} {ps = ps} {a = a} f m) B c d e at =
        on_symbol g B p ps a d e at f (go_on g m B c.2 d d (suc at))
    go_on g (HasText.skipped {p = p} {ps = ps} o m) B c d e at =
        on_skip g B p ps d e at o c (go_on g m B c.2 d d at)
    go_on g (HasText.row {p = Term a} f s m n) B c d e at = cc
    go_on g (HasText.row {p = Non a} {ps = ps} {h = h} {i = i} {row = row} f s m n) B c d e at =
        let of_row = go_on g m (ComesAt t B ps)
        (context_of (ComesAt t B ps) h i row (k.keeps i h row s) s (λ x y. c.1 h x f y) row.parts 0 refl)
        (inside g row d) (inside g row d) at in
        elim (decide a) [
          | inl b ↦ on_empty g B a ps d e at b c (go_on g n B c.2 d d at)
          | inr nb ↦ on_row g B a h i row ps d e at f s nb of_row (go_on g n B c.2 d d of_row.to)
        ]
    go_on g (HasText.row {p = Maybe a} {ps = ps} f s m n) B c d e at =
        on_skip g B (Maybe a) ps d e at refl c (go_on g n B c.2 d d at)
    go_on g (HasText.row {p = Many a} {ps = ps} f s m n) B c d e at =
        on_skip g B (Many a) ps d e at refl c (go_on g n B c.2 d d at)
    go_on g (HasText.row {p = Chain a} {ps = ps} f s m n) B c d e at =
        on_skip g B (Chain a) ps d e at refl c (go_on g n B c.2 d d at)
