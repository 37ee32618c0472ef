-- From place to place.
use Rattle.std.proofs.Common.{◌≡◌, ℕ, zero, suc, ◌+◌, ◌<◌, ◌≤◌, Bool, List, [], ◌∷◌, ◌++◌, drop, length, get_or, Some, None, refl, arith, ap, sym, ◌∙◌, append_assoc, append-nil}
use Rattle.std.specs.Prelude.{slice_get}
use Rattle.std.proofs.Math.Seq.{drop-cons}
use Rattle.std.proofs.Math.ListN.{drop_of_length-le}
use Rattle.std.proofs.Math.Numerals.{add-one}
use Rattle.std.proofs.lemmas.Option.{slice_get_within, get_or_from_slice_get}
use Rattle.sv_types.specs.declared.expression.Expr.{Expr}
use Rattle.sv_types.specs.Meanings.{signed}
use Rattle.sv_types.specs.Operators.{assigned_width}
use Rattle.sv_types.specs.Expressions.{meaning}
use Rattle.eval_forms.specs.Asked.{Asked, bits_asked, assigned_asked}

at-front : {A : Type 0} (xs : List A) (i : ℕ) (x : A) → i < length xs → x ≡ get_or xs i x → drop i xs ≡ x ∷ drop (i + 1) xs
at-front xs i x h is = drop-cons xs i x h ∙ ap (λ y. y ∷ drop (suc i) xs) (sym is) ∙ ap (λ k. x ∷ drop k xs) (sym (add-one i))

none-past : {A : Type 0} (xs : List A) (i : ℕ) → slice_get xs i ≡ None → drop i xs ≡ []
none-past [] i is = drop_of_length-le [] (omega arith)
none-past (x ∷ xs) zero is = absurd (cc)
none-past (x ∷ xs) (suc i) is = none-past xs i is

no-values : (ps : List (List Bool)) → assigned_asked ps [] ≡ []
no-values [] = refl
no-values (p ∷ ps) = refl

-- no further place
pub assigned-ends : (ps : List (List Bool)) (i : ℕ) (es : List Expr) (made all : List Asked) → slice_get ps i ≡ None → made ++ assigned_asked (drop i ps) es ≡ all → made ≡ all
assigned-ends ps i es made all is before = sym (append-nil made) ∙ ap (λ qs. made ++ assigned_asked qs es) (sym (none-past ps i is)) ∙ before

-- no further value
pub assigned-all : (ps : List (List Bool)) (i : ℕ) (es : List Expr) (made all : List Asked) → length es ≤ i → made ++ assigned_asked ps (drop i es) ≡ all → made ≡ all
assigned-all ps i es made all h before =
    sym (append-nil made) ∙ ap (λ xs. made ++ xs) (sym (no-values ps)) ∙ ap (λ ys. made ++ assigned_asked ps ys) (sym (drop_of_length-le es h)) ∙ before

pub assigned-next : (ps : List (List Bool)) (i : ℕ) (es : List Expr) (e : Expr) (p : List Bool) (x : Asked) (made new all : List Asked) → i < length es → e ≡ get_or es i e → slice_get ps i ≡ Some p
    → x ≡ bits_asked e (assigned_width p (meaning e)) (signed (meaning e)) → new ≡ made ++ x ∷ [] → made ++ assigned_asked (drop i ps) (drop i es) ≡ all → new ++ assigned_asked (drop (i + 1) ps) (drop (i + 1) es) ≡ all
assigned-next ps i es e p x made new all h is there asks more before =
    let later = assigned_asked (drop (i + 1) ps) (drop (i + 1) es) in
    let places = at-front ps i p (slice_get_within ps i p there) (sym (get_or_from_slice_get ps i p p there)) in
    ap (λ q. q ++ later) more ∙ append_assoc made (x ∷ []) later ∙ ap (λ y. made ++ (y ∷ later)) asks
    ∙ ap (λ qs. made ++ assigned_asked qs (e ∷ drop (i + 1) es)) (sym places) ∙ ap (λ ys. made ++ assigned_asked (drop i ps) ys) (sym (at-front es i e h is)) ∙ before
