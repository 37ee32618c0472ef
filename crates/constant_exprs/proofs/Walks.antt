-- Walks over lists of parts.
use Rattle.std.proofs.Common.{◌≡◌, ℕ, zero, suc, ◌+◌, ◌<◌, ◌≤◌, List, [], ◌∷◌, map, length, drop, get_or, refl, arith, ap, sym, ◌∙◌, subst}
use Rattle.std.proofs.Math.Seq.{drop-cons}
use Rattle.std.proofs.Math.Numerals.{add-one}
use Rattle.sv_types.specs.declared.expression.Expr.{Expr}
use Rattle.sv_types.specs.declared.expression.Choice.{Choice}
use Rattle.sv_types.specs.Meanings.{total}
use Rattle.eval_parts.proofs.Nodes.{nodes, choice_nodes}

pub at-front : {A : Type 0} (xs : List A) (i : ℕ) (x : A) → i < length xs → x ≡ get_or xs i x → drop i xs ≡ x ∷ drop (i + 1) xs
at-front xs i x h is = drop-cons xs i x h ∙ ap (λ y. y ∷ drop (suc i) xs) (sym is) ∙ ap (λ k. x ∷ drop k xs) (sym (add-one i))

pub drop-none : {A : Type 0} (xs : List A) (i : ℕ) → length xs ≤ i → drop i xs ≡ []
drop-none [] zero h = refl
drop-none [] (suc i) h = refl
drop-none (x ∷ xs) zero h = absurd (omega arith)
drop-none (x ∷ xs) (suc i) h = drop-none xs i (omega arith)

-- what follows for all from what is left: one further on, and at the end
pub next : {A : Type 0} (P : List A → Type 0) (xs : List A) (i : ℕ) (x : A) → i < length xs → x ≡ get_or xs i x → (P (drop (i + 1) xs) → P (x ∷ drop (i + 1) xs)) → (P (drop i xs) → P xs) → P (drop (i + 1) xs) → P xs
next P xs i x h is add all rest = all (subst P (sym (at-front xs i x h is)) (add rest))

pub here : {A : Type 0} (P : List A → Type 0) (xs : List A) (i : ℕ) (x : A) → i < length xs → x ≡ get_or xs i x → P (x ∷ drop (i + 1) xs) → (P (drop i xs) → P xs) → P xs
here P xs i x h is front all = all (subst P (sym (at-front xs i x h is)) front)

pub done : {A : Type 0} (P : List A → Type 0) (xs : List A) (i : ℕ) → length xs ≤ i → P [] → (P (drop i xs) → P xs) → P xs
done P xs i h none all = all (subst P (sym (drop-none xs i h)) none)

-- an element has no more nodes than all
pub one-node : (es : List Expr) (i : ℕ) (x : Expr) → i < length es → x ≡ get_or es i x → nodes x ≤ total (map nodes es)
one-node [] i x h is = absurd (omega arith)
one-node (e ∷ es) zero x h is = omega (arith, ap nodes is)
one-node (e ∷ es) (suc i) x h is = let r = one-node es i x (omega arith) is in omega arith

pub one-choice : (cs : List Choice) (i : ℕ) (c : Choice) → i < length cs → c ≡ get_or cs i c → choice_nodes c ≤ total (map choice_nodes cs)
one-choice [] i c h is = absurd (omega arith)
one-choice (d ∷ cs) zero c h is = omega (arith, ap choice_nodes is)
one-choice (d ∷ cs) (suc i) c h is = let r = one-choice cs i c (omega arith) is in omega arith
