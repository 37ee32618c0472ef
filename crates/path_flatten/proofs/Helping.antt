-- Lists of helpers that grow.
use Rattle.std.proofs.Common.{◌≡◌, ◌↔◌, ℕ, zero, suc, ◌<◌, Bool, true, false, IsTrue, List, [], ◌∷◌, ◌++◌, length, get_or, arith, append_assoc, append-nil, inl, inr, refl, ap, sym, ◌∙◌, subst}
use Rattle.row_machine.specs.Valuation.{Member}
use Rattle.v_tree.specs.Printing.{helper_text}
use Rattle.v_tree.specs.declared.names.Helper.{Helper}
use Rattle.v_meaning.specs.Scopes.{Scope}
use Rattle.two_state.specs.Kinds.{Helps}
use Rattle.path_flatten.specs.Helping.{EachHelps, IsSized, AllSized, AllOnce, Grows}

-- a helper that stands in the text
pub helped : (hs : List Helper) (sc : Scope) (h : Helper) → EachHelps hs sc → Member hs h → Helps h.kind h.width (sc.callee (helper_text h))
helped [] sc h all is = absurd is
helped (x ∷ xs) sc h all (inl e) = subst (λ (y : Helper). Helps y.kind y.width (sc.callee (helper_text y))) (sym e) all.0
helped (x ∷ xs) sc h all (inr is) = helped xs sc h all.1 is

helps-left : (xs ys : List Helper) (sc : Scope) → EachHelps (xs ++ ys) sc → EachHelps xs sc
helps-left [] ys sc h = tt
helps-left (x ∷ xs) ys sc h = (h.0, helps-left xs ys sc h.1)

-- a text that has more helpers has the former ones
pub helps-before : (old new : List Helper) (sc : Scope) → Grows old new → EachHelps new sc → EachHelps old sc
helps-before old new sc g h = helps-left old g.more sc (subst (λ l. EachHelps l sc) g.is h)

pub grows-none : (hs : List Helper) → Grows hs hs
grows-none hs = record { more = []; is = sym (append-nil hs); sized = λ h. h; once = λ h. h }

pub grows-both : (a b c : List Helper) → Grows a b → Grows b c → Grows a c
grows-both a b c g h = record {
  more = g.more ++ h.more;
  is = h.is ∙ ap (λ l. l ++ h.more) g.is ∙ append_assoc a g.more h.more;
  sized = λ k. h.sized (g.sized k);
  once = λ k. h.once (g.once k);
}

-- one more, of sizes at least 1, that wasn't there
sized-next : (hs : List Helper) (h : Helper) → IsSized h → AllSized hs → AllSized (hs ++ h ∷ [])
sized-next [] h one all = (one, tt)
sized-next (x ∷ xs) h one all = (all.0, sized-next xs h one all.1)

not-last : (hs : List Helper) (x h : Helper) → (x ≡ h → ⊥) → (Member hs x → ⊥) → Member (hs ++ h ∷ []) x → ⊥
not-last [] x h apart none (inl e) = apart e
not-last [] x h apart none (inr k) = k
not-last (y ∷ ys) x h apart none (inl e) = none (inl e)
not-last (y ∷ ys) x h apart none (inr k) = not-last ys x h apart (λ m. none (inr m)) k

once-next : (hs : List Helper) (h : Helper) → (Member hs h → ⊥) → AllOnce hs → AllOnce (hs ++ h ∷ [])
once-next [] h none all = (λ k. k, tt)
once-next (x ∷ xs) h none all = (not-last xs x h (λ e. none (inl (sym e))) all.0, once-next xs h (λ k. none (inr k)) all.1)

member-last : (hs : List Helper) (h : Helper) → Member (hs ++ h ∷ []) h
member-last [] h = inl refl
member-last (x ∷ xs) h = inr (member-last xs h)

pub grows-next : (hs : List Helper) (h : Helper) → IsSized h → (Member hs h → ⊥) → Grows hs (hs ++ h ∷ [])
grows-next hs h one none = record { more = h ∷ []; is = refl; sized = sized-next hs h one; once = once-next hs h none }

pub there-next : (hs : List Helper) (h : Helper) → Member (hs ++ h ∷ []) h
there-next hs h = member-last hs h

-- tests that say whether something holds
pub yes-by : (b : Bool) (P : Type 0) → b ≡ true → (IsTrue b ↔ P) → P
yes-by b P is w = w.0 is

pub no-by : (b : Bool) (P : Type 0) → b ≡ false → (IsTrue b ↔ P) → P → ⊥
no-by b P is w p = let t : b ≡ true = w.1 p in cc

-- one that is found
pub found-at : (xs : List Helper) (i : ℕ) (d h : Helper) → i < length xs → get_or xs i d ≡ h → Member xs h
found-at [] i d h less is = absurd (omega arith)
found-at (x ∷ xs) zero d h less is = inl (sym is)
found-at (x ∷ xs) (suc i) d h less is = inr (found-at xs i d h (omega arith) is)
