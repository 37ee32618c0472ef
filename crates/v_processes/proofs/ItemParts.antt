-- What an instance has itself, item by item.
use Rattle.std.proofs.Common.{◌≡◌, ℕ, ◌+◌, List, [], ◌∷◌, ◌++◌, refl, sym, ap, ◌∙◌, arith}
use Rattle.std.proofs.lemmas.List.{append-nil}
use Rattle.v_tree.specs.Names.{Name}
use Rattle.v_tree.specs.declared.items.VItem.{VItem}
use Rattle.v_tree.specs.declared.items.VItem.TheVariants as I
use Rattle.v_tree.specs.declared.items.VModule.{VModule}
use Rattle.v_meaning.specs.Scopes.{Scope}
use Rattle.v_meaning.specs.Modules.{processes, initials, below, connections, signals, items_of}
use Rattle.v_processes.specs.Stems.{own_sources, link_sources}

pub processes-cons : (ms : List VModule) (count : Name → ℕ) (sc : Scope) (n : ℕ) (i : VItem) (is : List VItem)
    → processes ms count sc n (i ∷ is) ≡ processes ms count sc n (i ∷ []) ++ processes ms count sc (n + below count (i ∷ [])) is
processes-cons ms count sc n (I.Signal s) is = ap (λ k. processes ms count sc k is) (omega arith)
processes-cons ms count sc n (I.Initial x) is = ap (λ k. processes ms count sc k is) (omega arith)
processes-cons ms count sc n (I.Process p) is = ap (λ k. processes ms count sc n (I.Process p ∷ []) ++ processes ms count sc k is) (omega arith)
processes-cons ms count sc n (I.Function f) is = ap (λ k. processes ms count sc k is) (omega arith)
processes-cons ms count sc n (I.Instance x) is =
    let here = connections sc n (signals (items_of ms x.of)) x.connections in
    ap (λ l. l ++ processes ms count sc (n + count x.of) is) (sym (append-nil here)) ∙ ap (λ k. (here ++ []) ++ processes ms count sc k is) (omega arith)

pub sources-cons : (ms : List VModule) (count : Name → ℕ) (own : List VItem) (n : ℕ) (i : VItem) (is : List VItem)
    → own_sources ms count own n (i ∷ is) ≡ own_sources ms count own n (i ∷ []) ++ own_sources ms count own (n + below count (i ∷ [])) is
sources-cons ms count own n (I.Signal s) is = ap (λ k. own_sources ms count own k is) (omega arith)
sources-cons ms count own n (I.Initial x) is = ap (λ k. own_sources ms count own k is) (omega arith)
sources-cons ms count own n (I.Process p) is = ap (λ k. own_sources ms count own n (I.Process p ∷ []) ++ own_sources ms count own k is) (omega arith)
sources-cons ms count own n (I.Function f) is = ap (λ k. own_sources ms count own k is) (omega arith)
sources-cons ms count own n (I.Instance x) is =
    let here = link_sources own n (signals (items_of ms x.of)) x.connections in
    ap (λ l. l ++ own_sources ms count own (n + count x.of) is) (sym (append-nil here)) ∙ ap (λ k. (here ++ []) ++ own_sources ms count own k is) (omega arith)

pub initials-cons : (sc : Scope) (i : VItem) (is : List VItem) → initials sc (i ∷ is) ≡ initials sc (i ∷ []) ++ initials sc is
initials-cons sc (I.Signal s) is = refl
initials-cons sc (I.Initial x) is = refl
initials-cons sc (I.Process p) is = refl
initials-cons sc (I.Function f) is = refl
initials-cons sc (I.Instance x) is = refl

pub nothing-more : {A : Type 0} (xs : List A) → xs ≡ xs ++ []
nothing-more xs = sym (append-nil xs)

pub plus-none : (n : ℕ) → n ≡ n + 0
plus-none n = omega arith

pub one-child : (n a : ℕ) → n + a ≡ n + (a + 0)
one-child n a = omega arith

pub ruleset own = (nothing-more, plus-none, one-child)
