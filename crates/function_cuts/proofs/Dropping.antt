-- Where functions are found, the last of which is taken away.
use Rattle.std.proofs.Common.{◌≡◌, ◌≤◌, ℕ, zero, suc, Bool, true, false, cond, List, [], ◌∷◌, ◌++◌, length, take, Option, Some, None, refl, arith, ap, sym, ◌∙◌, subst}
use Rattle.std.specs.Prelude.{slice_get}
use Rattle.std.proofs.lemmas.List.{length-append, take-append-le, take_all}
use Rattle.sv_types.specs.declared.statement.Function.{Function}
use Rattle.expr_type.specs.Uses.{mark_of, stream_marks}
use Rattle.function_places.specs.Places.{Declared, same_declared, first_place, without_place}
use Rattle.known_functions.specs.Behind.{declared_of, or_else}
use Rattle.known_functions.proofs.Laws.{one-mark-more}
use Rattle.known_functions.proofs.Places.{same-is, same-itself, place-behind, found-there}

-- what stands at a place of a list stands within it
within : {A : Type 0} (xs : List A) (n : ℕ) (x : A) → slice_get xs n ≡ Some x → suc n ≤ length xs
within [] n x e = absurd (cc)
within (y ∷ ys) zero x e = omega arith
within (y ∷ ys) (suc n) x e =
    let rest : suc n ≤ length ys = within ys n x e in
    omega arith

found-within : (d : Declared) (fs : List Function) (n : ℕ) → first_place d fs ≡ Some n → suc n ≤ length fs
found-within d fs n e =
    let it = found-there d fs n e in
    within fs n it.of it.known

-- one of two places, by whether there is a first one
no-first : (o : Option ℕ) (n : ℕ) → (o ≡ Some n → ⊥) → or_else o (Some n) ≡ Some n → o ≡ None
no-first None n not e = refl
no-first (Some m) n not e = absurd (not e)

one-first : (o : Option ℕ) (n : ℕ) → (or_else o (Some n) ≡ Some n → ⊥) → or_else o (Some n) ≡ o
one-first None n not = absurd (not refl)
one-first (Some m) n not = refl

nothing-behind : (o : Option ℕ) → or_else o None ≡ o
nothing-behind None = refl
nothing-behind (Some m) = refl

-- where it is declared, the last function is found behind the others
itself-if : (b : Bool) (n : ℕ) → b ≡ true → cond b (Some n) None ≡ Some n
itself-if true n e = refl
itself-if false n e = absurd (cc)

elsewhere-if : (b : Bool) (n : ℕ) → b ≡ false → cond b (Some n) None ≡ None
elsewhere-if true n e = absurd (cc)
elsewhere-if false n e = refl

at-last : (d : Declared) (fs : List Function) (f : Function) → declared_of f ≡ d → first_place d (fs ++ f ∷ []) ≡ or_else (first_place d fs) (Some (length fs))
at-last d fs f is =
    let same : same_declared (declared_of f) d ≡ true = subst (λ (x : Declared). same_declared x d ≡ true) (sym is) (same-itself d) in
    place-behind d fs f ∙ ap (or_else (first_place d fs)) (itself-if (same_declared (declared_of f) d) (length fs) same)

elsewhere : (d : Declared) (fs : List Function) (f : Function) → same_declared (declared_of f) d ≡ false → first_place d (fs ++ f ∷ []) ≡ first_place d fs
elsewhere d fs f differs =
    place-behind d fs f ∙ ap (or_else (first_place d fs)) (elsewhere-if (same_declared (declared_of f) d) (length fs) differs)
    ∙ nothing-behind (first_place d fs)

not-there : (d : Declared) (fs : List Function) → first_place d fs ≡ Some (length fs) → ⊥
not-there d fs e =
    let it : suc (length fs) ≤ length fs = found-within d fs (length fs) e in
    absurd (omega arith)

-- the place of the last function is taken away where it is found there
without-last : (b : Bool) (fs : List Function) (f : Function) (d : Declared) (o : Option ℕ) → same_declared (declared_of f) d ≡ b → (b ≡ true → first_place d fs ≡ None) → o ≡ first_place d (fs ++ f ∷ [])
    → cond b None o ≡ first_place d fs
without-last true fs f d o is none all = sym (none refl)
without-last false fs f d o is none all = all ∙ elsewhere d fs f is

none-before : (d x : Declared) (fs : List Function) → d ≡ x → first_place d fs ≡ None → first_place x fs ≡ None
none-before d x fs is e = subst (λ (y : Declared). first_place y fs ≡ None) is e

pub removed : (fs : List Function) (f : Function) (places : Declared → Option ℕ) (declared : Declared) (place : ℕ) → declared_of f ≡ declared → length fs ≡ place
    → ((d : Declared) → places d ≡ first_place d (fs ++ f ∷ [])) → places declared ≡ Some place → (d : Declared) → without_place places declared d ≡ first_place d fs
removed fs f places declared place is at all here d =
    let none : first_place declared fs ≡ None =
    no-first (first_place declared fs) (length fs) (not-there declared fs) (sym (at-last declared fs f is) ∙ sym (all declared) ∙ here ∙ ap (λ (n : ℕ). Some n) (sym at)) in
    subst (λ (x : Declared). cond (same_declared x d) None (places d) ≡ first_place d fs) is
    (without-last (same_declared (declared_of f) d) fs f d (places d) refl
    (λ same. none-before declared d fs (sym is ∙ same-is (declared_of f) d same) none) (all d))

-- it stays where another is found there
with-last : (b : Bool) (fs : List Function) (f : Function) (d : Declared) (o : Option ℕ) → same_declared (declared_of f) d ≡ b → (b ≡ true → o ≡ first_place d fs) → o ≡ first_place d (fs ++ f ∷ [])
    → o ≡ first_place d fs
with-last true fs f d o is there all = there refl
with-last false fs f d o is there all = all ∙ elsewhere d fs f is

pub left : (fs : List Function) (f : Function) (places : Declared → Option ℕ) (declared : Declared) (place : ℕ) → declared_of f ≡ declared → length fs ≡ place
    → ((d : Declared) → places d ≡ first_place d (fs ++ f ∷ [])) → (places declared ≡ Some place → ⊥) → (d : Declared) → places d ≡ first_place d fs
left fs f places declared place is at all not d =
    let there : (x : Declared) → declared ≡ x → places x ≡ first_place x fs =
    λ x same. subst (λ (y : Declared). places y ≡ first_place y fs) same
    (all declared ∙ at-last declared fs f is
    ∙ one-first (first_place declared fs) (length fs) (λ e. not (all declared ∙ at-last declared fs f is ∙ e ∙ ap (λ (n : ℕ). Some n) at))) in
    with-last (same_declared (declared_of f) d) fs f d (places d) refl (λ same. there d (sym is ∙ same-is (declared_of f) d same)) (all d)

-- marks
pub marks-less : (fs : List Function) (f : Function) (marks : List Bool) → marks ≡ stream_marks (fs ++ f ∷ []) → marks ≡ stream_marks fs ++ mark_of (stream_marks fs) f ∷ []
marks-less fs f marks e = e ∙ one-mark-more fs f

-- what is cut from all but the last function is cut from all
pub shorter : (fs rest : List Function) (f : Function) → fs ≡ rest ++ f ∷ [] → length fs ≡ suc (length rest)
shorter fs rest f is = ap length is ∙ length-append rest (f ∷ []) ∙ omega arith

pub cut-less : (n : ℕ) (fs rest : List Function) (f : Function) → fs ≡ rest ++ f ∷ [] → n ≤ length rest → take n rest ≡ take n fs
cut-less n fs rest f is h = sym (take-append-le n rest (f ∷ []) h) ∙ ap (λ (xs : List Function). take n xs) (sym is)

-- no more than so many are left
pub left-over : (n : ℕ) (fs all : List Function) → length fs ≤ n → take n fs ≡ take n all → fs ≡ take n all
left-over n fs all over same = sym (take_all n fs over) ∙ same
