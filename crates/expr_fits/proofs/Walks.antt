-- Walks over lists of parts.
use Rattle.std.proofs.Common.{◌≡◌, ℕ, zero, suc, ◌+◌, ◌<◌, ◌≤◌, max, Bool, List, [], ◌∷◌, map, length, drop, get_or, Option, Some, None, refl, arith, ap, sym, ◌∙◌, subst}
use Rattle.std.specs.Prelude.{slice_get}
use Rattle.std.proofs.Math.Seq.{drop-cons}
use Rattle.std.proofs.Math.Numerals.{add-one}
use Rattle.sv_types.specs.declared.expression.Expr.{Expr}
use Rattle.sv_types.specs.declared.expression.Choice.{Choice}
use Rattle.sv_types.specs.Surroundings.{Parameter}
use Rattle.sv_types.specs.Meanings.{total, wide}
use Rattle.sv_types.specs.Operators.{assigned_width}
use Rattle.sv_types.specs.Expressions.{meaning}
use Rattle.eval_parts.specs.Limits.{Fits, AllFitAt}
use Rattle.eval_parts.proofs.Nodes.{nodes, choice_nodes}

pub at-front : {A : Type 0} (xs : List A) (i : ℕ) (x : A) → i < length xs → x ≡ get_or xs i x → drop i xs ≡ x ∷ drop (i + 1) xs
at-front xs i x h is = drop-cons xs i x h ∙ ap (λ y. y ∷ drop (suc i) xs) (sym is) ∙ ap (λ k. x ∷ drop k xs) (sym (add-one i))

pub drop-none : {A : Type 0} (xs : List A) (i : ℕ) → length xs ≤ i → drop i xs ≡ []
drop-none [] zero h = refl
drop-none [] (suc i) h = refl
drop-none (x ∷ xs) zero h = absurd (omega arith)
drop-none (x ∷ xs) (suc i) h = drop-none xs i (omega arith)

-- what follows for all from what is left, one further on, and at the end
pub next : {A : Type 0} (P : List A → Type 0) (xs : List A) (i : ℕ) (x : A) → i < length xs → x ≡ get_or xs i x → (P (drop (i + 1) xs) → P (x ∷ drop (i + 1) xs)) → (P (drop i xs) → P xs) → P (drop (i + 1) xs) → P xs
next P xs i x h is add all rest = all (subst P (sym (at-front xs i x h is)) (add rest))

pub done : {A : Type 0} (P : List A → Type 0) (xs : List A) (i : ℕ) → length xs ≤ i → P [] → (P (drop i xs) → P xs) → P xs
done P xs i h none all = all (subst P (sym (drop-none xs i h)) none)

-- an element has fewer nodes than all
pub one-node : (es : List Expr) (i : ℕ) (x : Expr) → i < length es → x ≡ get_or es i x → nodes x ≤ total (map nodes es)
one-node [] i x h is = absurd (omega arith)
one-node (e ∷ es) zero x h is = omega (arith, ap nodes is)
one-node (e ∷ es) (suc i) x h is = let r = one-node es i x (omega arith) is in omega arith

pub one-choice : (cs : List Choice) (i : ℕ) (c : Choice) → i < length cs → c ≡ get_or cs i c → choice_nodes c ≤ total (map choice_nodes cs)
one-choice [] i c h is = absurd (omega arith)
one-choice (d ∷ cs) zero c h is = omega (arith, ap choice_nodes is)
one-choice (d ∷ cs) (suc i) c h is = let r = one-choice cs i c (omega arith) is in omega arith

-- the next one with its place
place-next : (ps : List (List Bool)) (es : List Expr) (i : ℕ) (p : List Bool) (x : Expr) (fs : ℕ → List Parameter) → i < length es → x ≡ get_or es i x → slice_get ps i ≡ Some p → Fits (meaning x) fs (assigned_width p (meaning x))
    → AllFitAt (drop (suc i) ps) (drop (suc i) es) fs → AllFitAt (drop i ps) (drop i es) fs
place-next [] es zero p x fs h is at f r = absurd (cc)
place-next [] es (suc i) p x fs h is at f r = absurd (cc)
place-next (q ∷ ps) [] i p x fs h is at f r = absurd (omega arith)
place-next (q ∷ ps) (e ∷ es) zero p x fs h is at f r =
    let same : q ≡ p = cc in
    (subst (λ (y : Expr). Fits (meaning y) fs (assigned_width q (meaning y))) is (subst (λ m. Fits (meaning x) fs (assigned_width m (meaning x))) (sym same) f), r)
place-next (q ∷ ps) (e ∷ es) (suc i) p x fs h is at f r = place-next ps es i p x fs (omega arith) is at f r

pub place-step : (ps : List (List Bool)) (es : List Expr) (i : ℕ) (p : List Bool) (x : Expr) (fs : ℕ → List Parameter) → i < length es → x ≡ get_or es i x → slice_get ps i ≡ Some p → Fits (meaning x) fs (assigned_width p (meaning x))
    → AllFitAt (drop (i + 1) ps) (drop (i + 1) es) fs → AllFitAt (drop i ps) (drop i es) fs
place-step ps es i p x fs h is at f r = place-next ps es i p x fs h is at f (subst (λ k. AllFitAt (drop k ps) (drop k es) fs) (add-one i) r)

-- no further places, and no further expressions
pub places-end : (ps : List (List Bool)) (es : List Expr) (i : ℕ) (fs : ℕ → List Parameter) → slice_get ps i ≡ None → AllFitAt (drop i ps) es fs
places-end [] es zero fs at = tt
places-end [] es (suc i) fs at = tt
places-end (p ∷ ps) es zero fs at = absurd (cc)
places-end (p ∷ ps) es (suc i) fs at = places-end ps es i fs at

all-placed : (ps : List (List Bool)) (es : List Expr) (fs : ℕ → List Parameter) → es ≡ [] → AllFitAt ps es fs
all-placed [] es fs is = tt
all-placed (p ∷ ps) [] fs is = tt
all-placed (p ∷ ps) (e ∷ es) fs is = absurd (cc)

pub exprs-end : (ps : List (List Bool)) (es : List Expr) (i : ℕ) (fs : ℕ → List Parameter) → length es ≤ i → AllFitAt (drop i ps) (drop i es) fs
exprs-end ps es i fs h = all-placed (drop i ps) (drop i es) fs (drop-none es i h)
