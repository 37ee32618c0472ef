-- One function more, and one less.
use Rattle.std.proofs.Common.{◌≡◌, ℕ, suc, Bool, List, [], ◌∷◌, ◌++◌, length, take, Option, Some, refl, ap, sym, ◌∙◌}
use Rattle.std.specs.Prelude.{slice_get}
use Rattle.sv_types.specs.declared.statement.Function.{Function}
use Rattle.expr_type.specs.Uses.{mark_of, marks_behind, stream_marks}
use Rattle.typing_fits.specs.Sound.{Extends}

-- marks
pub marks-more : (fs : List Function) (marks : List Bool) (f : Function) → marks_behind marks (fs ++ f ∷ []) ≡ marks_behind marks fs ++ mark_of (marks_behind marks fs) f ∷ []
marks-more [] marks f = refl
marks-more (g ∷ gs) marks f = marks-more gs (marks ++ mark_of marks g ∷ []) f

pub one-mark-more : (fs : List Function) (f : Function) → stream_marks (fs ++ f ∷ []) ≡ stream_marks fs ++ mark_of (stream_marks fs) f ∷ []
one-mark-more fs f = marks-more fs [] f

pub mark-kept : (fs gs : List Function) (ms ns : List Bool) (f : Function) (m : Bool) → ms ≡ stream_marks fs → m ≡ mark_of ms f → ns ≡ ms ++ m ∷ [] → gs ≡ fs ++ f ∷ [] → ns ≡ stream_marks gs
mark-kept fs gs ms ns f m marked is more behind =
    more ∙ ap (λ (b : Bool). ms ++ b ∷ []) is ∙ ap (λ (x : List Bool). x ++ mark_of x f ∷ []) marked ∙ sym (one-mark-more fs f) ∙ ap stream_marks (sym behind)

-- Functions that stay known stand at the front: with so many of them alone, those are what was known before.
nothing-there : {A : Type 0} (x : A) → slice_get {X = A} [] 0 ≡ Some x → ⊥
nothing-there x e = absurd (cc)

first-there : {A : Type 0} (x y : A) → Path (Option A) (Some y) (Some x) → y ≡ x
first-there x y e = cc

front : {A : Type 0} (xs ys : List A) → ((n : ℕ) (x : A) → slice_get xs n ≡ Some x → slice_get ys n ≡ Some x) → take (length xs) ys ≡ xs
front [] ys h = refl
front (x ∷ xs) [] h = absurd (nothing-there x (h 0 x refl))
front (x ∷ xs) (y ∷ ys) h =
    let heads : y ≡ x = first-there x y (h 0 x refl) in
    ap (λ z. z ∷ take (length xs) ys) heads ∙ ap (λ zs. x ∷ zs) (front xs ys (λ n z e. h (suc n) z e))

pub cut-back : (fs gs : List Function) → Extends fs gs → take (length fs) gs ≡ fs
cut-back fs gs e = front fs gs e.keeps
