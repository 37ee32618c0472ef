-- What each step of the reader does to the rows that are being read.
use Rattle.std.proofs.Common.{◌≡◌, ℕ, pred, List, [], ◌∷◌, Option, Some, None, true, refl, sym, ◌∙◌, ap, subst, drop}
use Rattle.ll_engine.specs.declared.table.Part.{Part}
use Rattle.ll_engine.specs.declared.table.Part.TheVariants.{Term, Non}
use Rattle.ll_engine.specs.declared.table.Row.{Row}
use Rattle.ll_engine.specs.declared.tables.Head.{Head}
use Rattle.ll_engine.specs.declared.tree.Tree.{Tree}
use Rattle.ll_engine.specs.Grammar.{named, is_optional, is_repeated, IsRowOf, IsBlank, IsBegun, Begins}
use Rattle.ll_engine.specs.Knows.{Knows, row_next, row_blank}
use Rattle.ll_engine.specs.Reading.{Nested, next, Reads}
use Rattle.ll_engine.specs.Machine.{Level, Stuck, IsStack, entered, skipped, closed}
use Rattle.ll_engine.specs.Steps.{first_of, or_else, row_for, IsMove}
use Rattle.ll_engine.proofs.Shapes as Shapes
use Rattle.ll_engine.proofs.Rows.{keeps, begun, only_begun, none_begun, only_blank}
use Rattle.ll_engine.proofs.Moves as Moves
use Rattle.ll_engine.proofs.Stack.{stack_skipped, stack_closed, stack_entered}
use Rattle.ll_engine.proofs.Falls.{enter_falls, skip_falls, close_falls}

pub first_some : (xs : List Part) (p : Part) → first_of xs ≡ Some p → xs ≡ p ∷ drop 1 xs
first_some [] p e = cc
first_some (x ∷ xs) p e = cc

pub first_none : (xs : List Part) → first_of xs ≡ None → xs ≡ []
first_none [] e = refl
first_none (x ∷ xs) e = cc

module _ (t : List Row) (heads : List Head) (k : Knows t heads) where
  pub not_begun : (p : Part) (h : ℕ) (x : Option ℕ) → named p ≡ Some h → row_next heads h x ≡ None
      → IsBegun t (p ∷ []) x → ⊥
  not_begun p h None f e b = b
  not_begun p h (Some a) f e (Begins.itself g) = Shapes.symbol_only p g f
  not_begun p h (Some a) f e (Begins.inside {h = g} {i = i} {row = row} q s b) =
      let same : g ≡ h = cc in
      none_begun t heads k h i (Some a) row e (subst (λ j. IsRowOf t j i row) same s) b
  not_begun p h (Some a) f e (Begins.behind c b) = elim b [ ]

  repeated_blank : (p : Part) (h i : ℕ) (row : Row) → named p ≡ Some h → IsRowOf t h i row → IsBlank t row.parts
      → IsBlank t (Non h ∷ [])
  repeated_blank p h i row f s b = IsBlank.empty refl s b IsBlank.nothing

  -- a repeated part of a row that is being read is never empty
  repeats : (l : Level) (ls : List Level) (p : Part) (ps : List Part) (h i : ℕ) (row : Row)
      → IsStack t (l ∷ ls) → l.left ≡ p ∷ ps → named p ≡ Some h → IsRowOf t h i row
      → is_repeated p ≡ true → IsBlank t row.parts → ⊥
  repeats l ls p ps h i row v e f s r b =
      let a = v.0 in
      (keeps k a.is_row).repeats a.at h p ps (record { cut = a.cut ∙ e }) r f (repeated_blank p h i row f s b)

  pub move_enter : (l : Level) (ls new : List Level) (p : Part) (h i : ℕ) (x : Option ℕ)
      → IsStack t (l ∷ ls) → first_of l.left ≡ Some p → named p ≡ Some h → row_next heads h x ≡ Some i
      → new ≡ entered t i p (l ∷ ls) → IsMove t heads x (l ∷ ls) new
  move_enter l ls new p h i x v e f g n =
      let c = first_some l.left p e in
      let ps = drop 1 l.left in
      let r = begun t heads k h i x g in
      let whole : IsMove t heads x (l ∷ ls) (entered t i p (l ∷ ls)) = record {
        same = Moves.enter t l ls p ps h i r.0 x c f r.1 r.2
            (λ j q s b. only_begun t heads k h i j x r.0 q r.1 r.2 s b);
        stack = stack_entered t k.is_fit l ls p ps h i r.0 c f r.1;
        falls = enter_falls t heads k l ls p ps h i r.0 c f r.1 (repeats l ls p ps h i r.0 v c f r.1);
      } in
      subst (λ q. IsMove t heads x (l ∷ ls) q) (sym n) whole

  pub move_empty : (l : Level) (ls new : List Level) (h i : ℕ) (x : Option ℕ)
      → IsStack t (l ∷ ls) → first_of l.left ≡ Some (Non h) → row_next heads h x ≡ None → row_blank heads h ≡ Some i
      → new ≡ entered t i (Non h) (l ∷ ls) → IsMove t heads x (l ∷ ls) new
  move_empty l ls new h i x v e g b n =
      let c = first_some l.left (Non h) e in
      let ps = drop 1 l.left in
      let r = k.blank h i b in
      let whole : IsMove t heads x (l ∷ ls) (entered t i (Non h) (l ∷ ls)) = record {
        same = Moves.enter_empty t l ls (Non h) ps h i r.0 x c refl refl r.1 r.2
            (not_begun (Non h) h x refl g)
            (λ j q s d. only_blank t heads k h i j r.0 q r.1 r.2 s d);
        stack = stack_entered t k.is_fit l ls (Non h) ps h i r.0 c refl r.1;
        falls = enter_falls t heads k l ls (Non h) ps h i r.0 c refl r.1 (repeats l ls (Non h) ps h i r.0 v c refl r.1);
      } in
      subst (λ q. IsMove t heads x (l ∷ ls) q) (sym n) whole

  -- a head that is not optional is read by its row
  pub move_non : (l : Level) (ls new : List Level) (h i : ℕ) (x : Option ℕ)
      → IsStack t (l ∷ ls) → first_of l.left ≡ Some (Non h) → row_for heads h x ≡ Some i
      → new ≡ entered t i (Non h) (l ∷ ls) → IsMove t heads x (l ∷ ls) new
  move_non l ls new h i x v e g n = go (row_next heads h x) refl
    where
      go : (o : Option ℕ) → row_next heads h x ≡ o → IsMove t heads x (l ∷ ls) new
      go None f = move_empty l ls new h i x v e f (sym (ap (λ q. or_else q (row_blank heads h)) f) ∙ g) n
      go (Some j) f =
          let s = ap (λ q. or_else q (row_blank heads h)) f in
          let same : row_next heads h x ≡ Some i = f ∙ (sym s ∙ g) in
          move_enter l ls new (Non h) h i x v e refl same n

  pub move_skip : (l : Level) (ls new : List Level) (p : Part) (h : ℕ) (x : Option ℕ)
      → first_of l.left ≡ Some p → named p ≡ Some h → is_optional p ≡ true → row_next heads h x ≡ None
      → new ≡ skipped (l ∷ ls) → IsMove t heads x (l ∷ ls) new
  move_skip l ls new p h x e f o g n =
      let c = first_some l.left p e in
      let ps = drop 1 l.left in
      let whole : IsMove t heads x (l ∷ ls) (skipped (l ∷ ls)) = record {
        same = Moves.skip t l ls p ps x c o (not_begun p h x f g);
        stack = stack_skipped t k.is_fit l ls p ps c;
        falls = skip_falls t heads k l ls p ps c o;
      } in
      subst (λ q. IsMove t heads x (l ∷ ls) q) (sym n) whole

  pub move_close : (l m : Level) (ms new : List Level) (x : Option ℕ) → first_of l.left ≡ None
      → new ≡ closed (l ∷ m ∷ ms) → IsMove t heads x (l ∷ m ∷ ms) new
  move_close l m ms new x e n =
      let c = first_none l.left e in
      let whole : IsMove t heads x (l ∷ m ∷ ms) (closed (l ∷ m ∷ ms)) = record {
        same = Moves.close t l m ms x c;
        stack = stack_closed t k.is_fit l m ms;
        falls = close_falls t heads k l m ms c;
      } in
      subst (λ q. IsMove t heads x (l ∷ m ∷ ms) q) (sym n) whole

  -- the parts that are left read nothing with this next token
  stuck_top : (l : Level) (ls : List Level) (x : Option ℕ)
      → ((at to : ℕ) (w u : List Nested) (ts : List Tree) → next w ≡ x → Reads t pred l.room l.turn l.left at w ts to u → ⊥)
      → Stuck t x (l ∷ ls)
  stuck_top l [] x f at w tree e c = f at c.0 w [] c.1.kids e c.1.reads
  stuck_top l (m ∷ ms) x f at w tree e c = f at c.1 w c.2 c.3.kids e c.3.reads

  pub stuck_non : (l : Level) (ls : List Level) (h : ℕ) (x : Option ℕ)
      → first_of l.left ≡ Some (Non h) → row_for heads h x ≡ None → Stuck t x (l ∷ ls)
  stuck_non l ls h x e g = go (row_next heads h x) refl
    where
      go : (o : Option ℕ) → row_next heads h x ≡ o → Stuck t x (l ∷ ls)
      go (Some i) f = let s = ap (λ q. or_else q (row_blank heads h)) f in cc (s, g)
      go None f =
          let b : row_blank heads h ≡ None = sym (ap (λ q. or_else q (row_blank heads h)) f) ∙ g in
          let c = first_some l.left (Non h) e in
          stuck_top l ls x (λ at to w u ts y r. Shapes.stuck t pred refl refl
          (λ i row s d. none_begun t heads k h i x row f s (subst (λ q. IsBegun t row.parts q) y d))
          (λ i row s d. k.not_blank h i row b s d)
          (subst (λ q. Reads t pred l.room l.turn q at w ts to u) c r))

  pub stuck_symbol : (l : Level) (ls : List Level) (a : ℕ) (x : Option ℕ)
      → first_of l.left ≡ Some (Term a) → (x ≡ Some a → ⊥) → Stuck t x (l ∷ ls)
  stuck_symbol l ls a x e n =
      let c = first_some l.left (Term a) e in
      stuck_top l ls x (λ at to w u ts y r.
      let s = Shapes.symbol t pred refl (subst (λ q. Reads t pred l.room l.turn q at w ts to u) c r) in
      n (sym y ∙ ap next s.text))

  -- behind the outermost row comes nothing
  pub stuck_end : (l : Level) (a : ℕ) (x : Option ℕ) → first_of l.left ≡ None → x ≡ Some a → Stuck t x (l ∷ [])
  stuck_end l a x e y at w tree f c =
      let s = Shapes.ended t pred (subst (λ q. Reads t pred l.room l.turn q at w c.1.kids c.0 []) (first_none l.left e) c.1.reads) in
      let n = ap next s.same in
      cc (n, f, y)
