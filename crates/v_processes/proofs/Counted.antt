-- Numbers of signals, level by level.
use Rattle.std.proofs.Common.{◌≡◌, ℕ, suc, ◌+◌, List, [], ◌∷◌, length, Result, Ok, Err, IfOk, sym, ap, ◌∙◌, arith}
use Rattle.v_tree.specs.Names.{Name}
use Rattle.v_tree.specs.declared.items.VItem.{VItem}
use Rattle.v_tree.specs.declared.items.VItem.TheVariants as I
use Rattle.v_tree.specs.declared.items.VModule.{VModule}
use Rattle.v_meaning.specs.Modules.{signals, items_of, signal_count, below}

pub none-counted : (depth : ℕ) (ms : List VModule) (name : Name) → depth ≡ 0 → 0 ≡ signal_count depth ms name
unfolding signal_count
none-counted depth ms name e = sym (ap (λ d. signal_count d ms name) e)

pub counted-level : (depth d : ℕ) (ms : List VModule) (name : Name) (n own b : ℕ) (is : List VItem) → depth ≡ suc d → is ≡ items_of ms name → own ≡ length (signals (items_of ms name)) → b ≡ below (signal_count d ms) is
    → n ≡ own + b → n ≡ signal_count depth ms name
unfolding signal_count
counted-level depth d ms name n own b is e i o h f =
    f ∙ (λ j. o j + h j) ∙ ap (λ l. length (signals (items_of ms name)) + below (signal_count d ms) l) i ∙ sym (ap (λ k. signal_count k ms name) e)

pub below-cons : (count : Name → ℕ) (i : VItem) (is : List VItem) → below count (i ∷ is) ≡ below count (i ∷ []) + below count is
below-cons count (I.Signal s) is = omega arith
below-cons count (I.Initial x) is = omega arith
below-cons count (I.Process p) is = omega arith
below-cons count (I.Function f) is = omega arith
below-cons count (I.Instance x) is = omega arith

pub if-ok : {A E : Type 0} (r : Result A E) {P Q : A → Type 0} → ((a : A) → P a → Q a) → IfOk r P → IfOk r Q
if-ok (Ok a) f h = f a h
if-ok (Err e) f h = tt

pub ruleset counting = (none-counted)
